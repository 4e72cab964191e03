use Rattle.std.proofs.Common.{◌≤◌, ◌-◌, ◌^◌}
use Rattle.n2_watch.specs.NextLines.{IsOpen}
use Rattle.n2_watch.proofs.opening.open_lines.Given as goal

abbrev pub invariant-lines : goal.invariant-lines
invariant-lines l = record { below : l.from ≤ 2 ^ 28; opens : IsOpen l.core l.layout l.built.runs.items l.built.records.items l.from l.memories }

abbrev pub decreases-lines : goal.decreases-lines
decreases-lines l = 2 ^ 28 - l.from
