use Rattle.std.proofs.Common.{List, ◌++◌, map, ap, ◌∙◌, arith}
use Rattle.n2_elf.specs.declared.image.Segment.{Segment}
use Rattle.n2_board.specs.Segments.{loaded_segment}
use Rattle.n2_board.proofs.Zones.{images-more, images-done}
use Rattle.n2_board.proofs.segments.loaded_segments.Goals as goal

pub loop-image-preserved : goal.loop-image-preserved
loop-image-preserved c = record {
  count = omega arith;
  rest = images-more c.loop-image.core c.loop-image.out.items c.put_image.new.out.items _ c.args.images.now c.loop-image.image-index c.image-item.result c.loop-image-test.true c.image-item.is
      (c.in_ok-put_image.ensures ∙ ap (λ (ss : List Segment). c.loop-image.out.items ++ map (loaded_segment c.loop-image.core) ss) c.as_slice.ensures) c.loop-image.invariant.rest;
}

pub returns : goal.returns
returns c = images-done c.loop-image.core c.loop-image.out.items _ c.args.images.now c.loop-image.image-index (omega arith) c.loop-image.invariant.rest
