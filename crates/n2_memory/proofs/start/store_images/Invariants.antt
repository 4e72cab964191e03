use Rattle.std.proofs.Common.{◌≡◌, drop}
use Rattle.std.specs.List.{AllByRecursion}
use Rattle.n2_elf.specs.Reading.{IsSized}
use Rattle.n2_memory.specs.Memories.{IsFull}
use Rattle.n2_memory.specs.Start.{loaded, segments_of, AreInside}
use Rattle.n2_memory.proofs.start.store_images.Given as goal

abbrev pub invariant-loop-image : goal.invariant-loop-image
invariant-loop-image l = record {
  left : loaded l.memory (segments_of (drop l.image-index l.images)) ≡ loaded l.fn.memory (segments_of l.images);
  memories : l.memory.memories ≡ l.fn.memory.memories;
  full : IsFull l.memory;
  inside : AreInside l.fn.memory.memories (drop l.image-index l.images);
  sized : AllByRecursion IsSized (drop l.image-index l.images);
}
