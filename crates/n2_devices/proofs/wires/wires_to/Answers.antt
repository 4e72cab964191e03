use Rattle.std.proofs.Common.{List, length, slice_get, sym, ap, ◌∙◌, arith}
use Rattle.n2_parts.specs.declared.board.MailboxRow.{MailboxRow}
use Rattle.n2_parts.specs.declared.board.TimerRow.{TimerRow}
use Rattle.n2_parts.specs.declared.board.UartRow.{UartRow}
use Rattle.n2_parts.proofs.Small.{valid_small}
use Rattle.n2_devices.proofs.Irqs.{send_irqs, receive_irqs, timer_irqs, uart_irqs}
use Rattle.n2_devices.proofs.wires.wires_to.Goals as goal

pub put_mailboxes-requires-clause-few : goal.put_mailboxes-requires-clause-few
put_mailboxes-requires-clause-few c = omega (arith, valid_small c.args.board.now c.requires, ap length c.as_slice.ensures)

pub put_mailboxes-requires-clause-send : goal.put_mailboxes-requires-clause-send
put_mailboxes-requires-clause-send c =
    λ i row e. send_irqs c.args.board.now c.requires i row (ap (λ (rows : List MailboxRow). slice_get rows i) (sym c.as_slice.ensures) ∙ e)

pub put_mailboxes-requires-clause-receive : goal.put_mailboxes-requires-clause-receive
put_mailboxes-requires-clause-receive c =
    λ i row e. receive_irqs c.args.board.now c.requires i row (ap (λ (rows : List MailboxRow). slice_get rows i) (sym c.as_slice.ensures) ∙ e)

pub put_timers-requires-clause-few : goal.put_timers-requires-clause-few
put_timers-requires-clause-few c = omega (arith, valid_small c.args.board.now c.requires, ap length c.as_slice-2.ensures)

pub put_timers-requires-clause-irqs : goal.put_timers-requires-clause-irqs
put_timers-requires-clause-irqs c =
    λ i row e. timer_irqs c.args.board.now c.requires i row (ap (λ (rows : List TimerRow). slice_get rows i) (sym c.as_slice-2.ensures) ∙ e)

pub put_uarts-requires-clause-few : goal.put_uarts-requires-clause-few
put_uarts-requires-clause-few c = omega (arith, valid_small c.args.board.now c.requires, ap length c.as_slice-3.ensures)

pub put_uarts-requires-clause-irqs : goal.put_uarts-requires-clause-irqs
put_uarts-requires-clause-irqs c =
    λ i row e. uart_irqs c.args.board.now c.requires i row (ap (λ (rows : List UartRow). slice_get rows i) (sym c.as_slice-3.ensures) ∙ e)
