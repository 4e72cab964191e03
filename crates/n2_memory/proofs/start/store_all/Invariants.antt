use Rattle.std.proofs.Common.{◌≡◌, drop}
use Rattle.std.specs.List.{AllByRecursion}
use Rattle.n2_elf.specs.Reading.{HoldsItsBytes}
use Rattle.n2_memory.specs.Memories.{IsFull}
use Rattle.n2_memory.specs.Start.{loaded, IsInside}
use Rattle.n2_memory.proofs.start.store_all.Given as goal

abbrev pub invariant-loop-segment : goal.invariant-loop-segment
invariant-loop-segment l = record {
  left : loaded l.memory (drop l.segment-index l.segments) ≡ loaded l.fn.memory l.segments;
  memories : l.memory.memories ≡ l.fn.memory.memories;
  full : IsFull l.memory;
  inside : AllByRecursion (λ s. IsInside l.fn.memory.memories s) (drop l.segment-index l.segments);
  hold : AllByRecursion HoldsItsBytes (drop l.segment-index l.segments);
}
