use Rattle.std.proofs.Common.{◌≡◌, ◌++◌, ◌-◌}
use Rattle.n2_report.specs.OfFlat.{dumped_lines}
use Rattle.n2_report.proofs.of_run.put_dumped.Given as goal

abbrev pub invariant-loop-j : goal.invariant-loop-j
invariant-loop-j l = l.out.items ++ dumped_lines l.bus.shared.memory l.row.at l.j (l.row.lines - l.j) ≡ l.fn.out.items ++ dumped_lines l.bus.shared.memory l.row.at 0 l.row.lines
