use Rattle.std.proofs.Common.{◌≡◌, ◌++◌, ◌-◌}
use Rattle.n2_report.specs.Ran.{all_given}
use Rattle.n2_report.proofs.of_run.all_given.Given as goal

abbrev pub invariant-loop-i : goal.invariant-loop-i
invariant-loop-i l = l.all ++ all_given l.layout l.entries l.i (l.uarts - l.i) ≡ all_given l.layout l.entries 0 l.uarts
