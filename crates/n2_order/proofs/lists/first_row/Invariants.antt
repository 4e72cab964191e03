use Rattle.std.proofs.Common.{◌≡◌, take, drop}
use Rattle.n2_order.specs.Lists.{pieces_of}
use Rattle.n2_order.proofs.Rows.{glued}
use Rattle.n2_order.proofs.lists.first_row.Given as goal

abbrev pub invariant-loop-at : goal.invariant-loop-at
invariant-loop-at l = glued (take l.at l.bytes) (pieces_of (drop l.at l.bytes)) ≡ pieces_of l.bytes
