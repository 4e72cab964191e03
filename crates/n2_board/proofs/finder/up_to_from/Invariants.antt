use Rattle.std.proofs.Common.{◌-◌, length}
use Rattle.n2_board.proofs.Finding.{AreUpTo}
use Rattle.n2_board.proofs.finder.up_to_from.Given as goal

abbrev pub invariant-loop-n : goal.invariant-loop-n
invariant-loop-n l = AreUpTo l.bounds l.n l.point

abbrev pub decreases-loop-n : goal.decreases-loop-n
decreases-loop-n l = length l.bounds - l.n
