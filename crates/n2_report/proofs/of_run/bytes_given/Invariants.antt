use Rattle.std.proofs.Common.{◌≡◌, ◌++◌, drop}
use Rattle.n2_report.specs.OfRun.{given_to}
use Rattle.n2_report.proofs.of_run.bytes_given.Given as goal

abbrev pub invariant-loop-entry : goal.invariant-loop-entry
invariant-loop-entry l = l.bytes ++ given_to l.layout l.uart (drop l.entry-index l.entries) ≡ given_to l.layout l.uart l.entries
