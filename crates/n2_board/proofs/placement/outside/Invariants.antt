use Rattle.std.proofs.Common.{◌≡◌, drop}
use Rattle.n2_board.specs.Placement.{outside}
use Rattle.n2_board.proofs.placement.outside.Given as goal

abbrev pub invariant-loop-s : goal.invariant-loop-s
invariant-loop-s l = outside l.memories (drop l.s-index l.segments) ≡ outside l.memories l.segments
