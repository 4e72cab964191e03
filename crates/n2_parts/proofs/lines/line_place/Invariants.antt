use Rattle.std.proofs.Common.{◌≡◌, ◌+◌, drop}
use Rattle.n2_parts.specs.MemoryLines.{line_count, line_place}
use Rattle.n2_parts.proofs.lines.line_place.Given as goal

abbrev pub invariant-loop-row : goal.invariant-loop-row
invariant-loop-row l = record {
  place : l.before + line_place (drop l.row-index l.memories) l.line ≡ line_place l.memories l.line;
  count : l.before + line_count (drop l.row-index l.memories) ≡ line_count l.memories;
}
