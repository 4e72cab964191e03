use Rattle.std.proofs.Common.{◌≡◌, ◌++◌, map, drop}
use Rattle.n2_flat.specs.State.{front_of}
use Rattle.n2_report.specs.OfFlat.{end_of}
use Rattle.n2_report.proofs.of_flat.core_ends.Given as goal

abbrev pub invariant-loop-k : goal.invariant-loop-k
invariant-loop-k l = l.ends.items ++ map end_of (map front_of (drop l.k l.flat.cores)) ≡ map end_of (map front_of l.flat.cores)
