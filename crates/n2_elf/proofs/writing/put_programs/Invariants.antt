use Rattle.std.proofs.Common.{◌≡◌, ◌+◌, ◌*◌, ◌++◌, length, take, drop}
use Rattle.std.specs.List.{All}
use Rattle.n2_elf.proofs.Again.{HasWords}
use Rattle.n2_elf.specs.Writing.{programs_bytes, contents_len}
use Rattle.n2_elf.proofs.writing.put_programs.Given as goal

abbrev pub invariant-loop-segment : goal.invariant-loop-segment
invariant-loop-segment l = record {
  rest : l.out.items ++ programs_bytes l.offset (drop l.segment-index l.segments) ≡ l.fn.out.items ++ programs_bytes (52 + 32 * length l.segments) l.segments;
  words : All HasWords (take l.segment-index l.segments);
  small : l.offset + contents_len (drop l.segment-index l.segments) ≡ 52 + 32 * length l.segments + contents_len l.segments;
}
