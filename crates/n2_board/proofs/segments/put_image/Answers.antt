use Rattle.std.proofs.Common.{[], ◌∷◌, ◌++◌, ap, ◌∙◌, arith}
use Rattle.n2_board.specs.declared.segments.LoadedSegment.{LoadedSegment}
use Rattle.n2_board.proofs.Zones.{segments-more, segments-done}
use Rattle.n2_board.proofs.segments.put_image.Goals as goal

pub loop-segment-preserved : goal.loop-segment-preserved
loop-segment-preserved c = segments-more c.args.core c.loop-segment.out.items _ _ c.args.segments.now c.loop-segment.segment-index c.segment-item.result c.loop-segment-test.true c.segment-item.is
    (c.in_ok-push.ensures.items ∙ ap (λ (e : LoadedSegment). c.loop-segment.out.items ++ e ∷ []) c.loaded_segment.ensures) c.loop-segment.invariant

pub returns : goal.returns
returns c = segments-done c.args.core c.loop-segment.out.items _ c.args.segments.now c.loop-segment.segment-index (omega arith) c.loop-segment.invariant
