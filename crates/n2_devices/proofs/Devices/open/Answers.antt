use Rattle.std.proofs.Common.{List, slice_get, sym, ap, ◌∙◌}
use Rattle.n2_parts.specs.declared.board.UartRow.{UartRow}
use Rattle.n2_parts.proofs.Sound.{depths}
use Rattle.n2_devices.proofs.Devices.open.Goals as goal

pub uarts-requires : goal.uarts-requires
uarts-requires c =
    λ i row e. depths c.args.board.now c.requires i row (ap (λ (rows : List UartRow). slice_get rows i) (sym c.as_slice-4.ensures) ∙ e)
