use Rattle.std.proofs.Common.{◌≡◌, ◌+◌, drop}
use Rattle.n2_parts.specs.MemoryLines.{line_count}
use Rattle.n2_parts.proofs.lines.line_count.Given as goal

abbrev pub invariant-loop-row : goal.invariant-loop-row
invariant-loop-row l = l.count + line_count (drop l.row-index l.memories) ≡ line_count l.memories
