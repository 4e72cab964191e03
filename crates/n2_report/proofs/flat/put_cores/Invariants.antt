use Rattle.std.proofs.Common.{◌≡◌, ◌++◌, drop}
use Rattle.n2_report.specs.Flat.{cores_text}
use Rattle.n2_report.proofs.flat.put_cores.Given as goal

abbrev pub invariant-loop-k : goal.invariant-loop-k
invariant-loop-k l = l.out.items ++ cores_text l.k (drop l.k l.cores) ≡ l.fn.out.items ++ cores_text 0 l.cores
