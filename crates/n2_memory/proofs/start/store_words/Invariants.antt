use Rattle.std.proofs.Common.{◌≡◌, ◌+◌, ◌*◌, drop}
use Rattle.n2_memory.specs.Memories.{IsFull}
use Rattle.n2_memory.specs.Start.{stored, bytes_of_segment}
use Rattle.n2_memory.proofs.start.store_words.Given as goal

abbrev pub invariant-loop-i : goal.invariant-loop-i
invariant-loop-i l = record {
  left : stored l.memory (l.segment.at + (l.from + 4 * l.i)) (drop (l.from + 4 * l.i) (bytes_of_segment l.segment)) ≡ stored l.fn.memory (l.segment.at + l.from) (drop l.from (bytes_of_segment l.segment));
  memories : l.memory.memories ≡ l.fn.memory.memories;
  full : IsFull l.memory;
}
