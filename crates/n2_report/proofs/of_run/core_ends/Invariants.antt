use Rattle.std.proofs.Common.{◌≡◌, ◌++◌, map, drop}
use Rattle.n2_report.specs.Ran.{end_of}
use Rattle.n2_report.proofs.of_run.core_ends.Given as goal

abbrev pub invariant-loop-core : goal.invariant-loop-core
invariant-loop-core l = l.ends.items ++ map end_of (drop l.core-index l.cores) ≡ map end_of l.cores
