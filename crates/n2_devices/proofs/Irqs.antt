-- The interrupt numbers of a valid board's devices are below 32.
use Rattle.std.proofs.Common.{◌≡◌, ◌<◌, ℕ, zero, suc, List, true, leb, [], ◌∷◌, length, Option, Some, None, slice_get, sym, ap, ◌∙◌, arith}
use Rattle.std.specs.Prelude.{option_and_then}
use Rattle.n2_parts.specs.declared.board.Board.{Board}
use Rattle.n2_parts.specs.declared.board.MailboxRow.{MailboxRow}
use Rattle.n2_parts.specs.declared.board.TimerRow.{TimerRow}
use Rattle.n2_parts.specs.declared.board.UartRow.{UartRow}
use Rattle.n2_parts.specs.declared.board.Key.TheVariants as keys
use Rattle.n2_parts.specs.declared.board.PartKind.TheVariants.{Mailbox, Timer, Uart}
use Rattle.n2_parts.specs.Numbers.{is_base, is_between, is_irq, mailbox_numbers, timer_numbers, uart_numbers, number_fault}
use Rattle.n2_parts.specs.Parts.{part_of}
use Rattle.n2_parts.specs.Valid.{IsValid}
use Rattle.n2_parts.proofs.Sound.{keeps, all_good}

-- a row that is there has a place among the rows
there : {A : Type 0} (rows : List A) (i : ℕ) (row : A) → slice_get rows i ≡ Some row → i < length rows
there [] zero row e = absurd cc
there [] (suc i) row e = absurd cc
there (x ∷ rows) zero row e = omega arith
there (x ∷ rows) (suc i) row e = omega (arith, there rows i row e)

-- of both sides of a mailbox
mailbox_irqs : (b : Board) → IsValid b → (i : ℕ) (row : MailboxRow) → slice_get b.mailbox i ≡ Some row → (is_irq row.send_irq ≡ true) × (is_irq row.receive_irq ≡ true)
unfolding number_fault mailbox_numbers
mailbox_irqs b valid i row e =
    let part = part_of Mailbox i in
    let none : number_fault b part ≡ None = (keeps b valid Mailbox i (omega arith) (there b.mailbox i row e)).numbers in
    let here : mailbox_numbers part row ≡ None = sym (ap (λ (o : Option MailboxRow). option_and_then (mailbox_numbers part) o) e) ∙ none in
    let good = all_good part ((keys.Send, is_base 4 row.send) ∷ (keys.Receive, is_base 4 row.receive) ∷ (keys.SendIrq, is_irq row.send_irq) ∷ (keys.ReceiveIrq, is_irq row.receive_irq) ∷ []) here in
    (good.1.1.0, good.1.1.1.0)

pub send_irqs : (b : Board) → IsValid b → (i : ℕ) (row : MailboxRow) → slice_get b.mailbox i ≡ Some row → is_irq row.send_irq ≡ true
send_irqs b valid i row e = (mailbox_irqs b valid i row e).0

pub receive_irqs : (b : Board) → IsValid b → (i : ℕ) (row : MailboxRow) → slice_get b.mailbox i ≡ Some row → is_irq row.receive_irq ≡ true
receive_irqs b valid i row e = (mailbox_irqs b valid i row e).1

pub timer_irqs : (b : Board) → IsValid b → (i : ℕ) (row : TimerRow) → slice_get b.timer i ≡ Some row → is_irq row.irq ≡ true
unfolding number_fault timer_numbers
timer_irqs b valid i row e =
    let part = part_of Timer i in
    let none : number_fault b part ≡ None = (keeps b valid Timer i (omega arith) (there b.timer i row e)).numbers in
    let here : timer_numbers part row ≡ None = sym (ap (λ (o : Option TimerRow). option_and_then (timer_numbers part) o) e) ∙ none in
    let good = all_good part ((keys.Base, is_base 6 row.base) ∷ (keys.Irq, is_irq row.irq) ∷ []) here in
    good.1.0

pub uart_irqs : (b : Board) → IsValid b → (i : ℕ) (row : UartRow) → slice_get b.uart i ≡ Some row → is_irq row.irq ≡ true
unfolding number_fault uart_numbers
uart_irqs b valid i row e =
    let part = part_of Uart i in
    let none : number_fault b part ≡ None = (keeps b valid Uart i (omega arith) (there b.uart i row e)).numbers in
    let here : uart_numbers part row ≡ None = sym (ap (λ (o : Option UartRow). option_and_then (uart_numbers part) o) e) ∙ none in
    let good = all_good part ((keys.Base, is_base 2 row.base) ∷ (keys.Irq, is_irq row.irq) ∷ (keys.ReadDepth, is_between 8 32768 row.read_depth) ∷ (keys.WriteDepth, is_between 8 32768 row.write_depth) ∷ (keys.Input, leb (length row.input) 65536) ∷ []) here in
    good.1.0
