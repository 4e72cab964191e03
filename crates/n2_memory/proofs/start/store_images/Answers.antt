use Rattle.std.proofs.Common.{List, ap, ◌∙◌, subst}
use Rattle.std.proofs.lemmas.List.{drop_more}
use Rattle.std.specs.List.{AllByRecursion}
use Rattle.n2_elf.specs.Reading.{IsSized}
use Rattle.n2_elf.specs.declared.image.Segment.{Segment}
use Rattle.n2_elf.specs.declared.image.Image.{Image}
use Rattle.n2_memory.specs.Start.{loaded, AreInside}
use Rattle.n2_memory.proofs.Stored.{image_step}
use Rattle.n2_memory.proofs.start.store_images.Goals as goal

pub loop-image-preserved : goal.loop-image-preserved
loop-image-preserved c =
    let i = c.loop-image.image-index in
    let cut = drop_more c.args.images.now i c.image-item.result c.loop-image-test.true in
    let inside = subst (λ (xs : List Image). AreInside c.args.memory.now.memories xs) cut c.loop-image.invariant.inside in
    let sized = subst (λ (xs : List Image). AllByRecursion IsSized xs) cut c.loop-image.invariant.sized in
    record {
      left =
          image_step c.loop-image.memory c.store_all.new.memory c.args.images.now i c.image-item.result c.loop-image-test.true c.image-item.is
          (c.store_all.ensures.loaded ∙ ap (λ (ss : List Segment). loaded c.loop-image.memory ss) c.as_slice.ensures)
          ∙ c.loop-image.invariant.left;
      memories = c.store_all.ensures.memories ∙ c.loop-image.invariant.memories;
      full = c.store_all.ensures.full;
      inside = inside.1;
      sized = sized.1;
    }
