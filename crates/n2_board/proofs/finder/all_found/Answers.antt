use Rattle.std.proofs.Common.{ℕ}
use Rattle.n2_board.proofs.Finding.{first_holding}
use Rattle.n2_board.proofs.Joining.{found-more}
use Rattle.n2_board.proofs.finder.all_found.Goals as goal

pub loop-point-preserved : goal.loop-point-preserved
loop-point-preserved c = found-more (λ (p : ℕ). first_holding c.args.spans.now p) c.args.points.now c.loop-point.point-index c.loop-point.found.items _ c.first_holding.result c.loop-point-test.true c.loop-point.invariant c.in_ok-push.ensures.items c.first_holding.ensures
