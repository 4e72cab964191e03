use Rattle.std.proofs.Common.{◌≡◌, ◌++◌, map, drop}
use Rattle.n2_report.specs.Flat.{uart_of}
use Rattle.n2_report.specs.Ran.{named}
use Rattle.n2_report.proofs.of_run.uart_ends.Given as goal

abbrev pub invariant-loop-i : goal.invariant-loop-i
invariant-loop-i l = map uart_of l.ends.items ++ named (drop l.i l.rows) (drop l.i l.given) ≡ named l.rows l.given
