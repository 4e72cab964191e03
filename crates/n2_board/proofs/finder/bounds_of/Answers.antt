use Rattle.std.proofs.Common.{arith}
use Rattle.n2_board.proofs.Finding.{bounds-more, bounds-done}
use Rattle.n2_board.proofs.finder.bounds_of.Goals as goal

pub loop-span-preserved : goal.loop-span-preserved
loop-span-preserved c = bounds-more c.loop-span.bounds.items _ _ _ c.args.spans.now c.loop-span.span-index _ c.loop-span-test.true c.in_ok-push.ensures.items c.in_ok-push-2.ensures.items c.loop-span.invariant

pub returns : goal.returns
returns c = bounds-done c.loop-span.bounds.items _ c.args.spans.now c.loop-span.span-index (omega arith) c.loop-span.invariant
