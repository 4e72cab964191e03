use Rattle.std.proofs.Common.{◌≡◌, ◌++◌, map, drop}
use Rattle.n2_report.specs.Ran.{stop_of}
use Rattle.n2_report.proofs.of_run.stops.Given as goal

abbrev pub invariant-loop-core : goal.invariant-loop-core
invariant-loop-core l = l.stops.items ++ map stop_of (drop l.core-index l.ran.cores) ≡ map stop_of l.ran.cores
