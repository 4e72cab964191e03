use Rattle.std.proofs.Common.{ℕ, ◌+◌, ◌++◌, arith}
use Rattle.n2_board.proofs.Finding.{first_holding}
use Rattle.n2_board.proofs.Joining.{later, joint, found-more, fits}
use Rattle.n2_board.proofs.finder.both_found.Goals as goal

pub either-requires : goal.either-requires
either-requires c = fits c.args.second.now.0 _ _ _ c.find_from-passed_behind.ensures.found c.requires.fit

pub loop-point-preserved : goal.loop-point-preserved
loop-point-preserved c = record {
  so_far = found-more (λ (p : ℕ). first_holding (c.args.first.now.0 ++ c.args.second.now.0) p) c.args.points.now c.loop-point.point-index c.loop-point.found.items _ c.either.result c.loop-point-test.true c.loop-point.invariant.so_far c.in_ok-push.ensures.items
      (joint c.args.first.now.0 c.args.second.now.0 _ _ _ _ c.either.result c.requires.count c.either.ensures c.find_from-passed.ensures.found c.find_from-passed_behind.ensures.found);
  first = λ lt. later _ _ _ _ (c.requires.rising c.loop-point.point-index (c.loop-point.point-index + 1) 0 (omega arith) lt) c.find_from-passed.ensures.up_to;
  second = λ lt. later _ _ _ _ (c.requires.rising c.loop-point.point-index (c.loop-point.point-index + 1) 0 (omega arith) lt) c.find_from-passed_behind.ensures.up_to;
}
