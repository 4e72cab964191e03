use Rattle.std.proofs.Common.{◌≡◌, ◌++◌, drop}
use Rattle.n2_elf.specs.Writing.{contents}
use Rattle.n2_elf.proofs.writing.put_contents.Given as goal

abbrev pub invariant-loop-segment : goal.invariant-loop-segment
invariant-loop-segment l = l.out.items ++ contents (drop l.segment-index l.segments) ≡ l.fn.out.items ++ contents l.segments
