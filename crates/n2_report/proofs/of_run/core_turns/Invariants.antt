use Rattle.std.proofs.Common.{◌≡◌, ◌++◌, map, drop}
use Rattle.n2_report.specs.Ran.{turns_of}
use Rattle.n2_report.proofs.of_run.core_turns.Given as goal

abbrev pub invariant-loop-core : goal.invariant-loop-core
invariant-loop-core l = l.turns.items ++ map turns_of (drop l.core-index l.cores) ≡ map turns_of l.cores
