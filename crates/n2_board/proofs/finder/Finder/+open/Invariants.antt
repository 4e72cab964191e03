use Rattle.std.proofs.Common.{length}
use Rattle.n2_board.proofs.finder.Finder.+open.Given as goal

abbrev pub decreases-open : goal.decreases-open
decreases-open l = length l.spans.now
