use Rattle.std.proofs.Common.{◌≡◌, ◌++◌, map, drop}
use Rattle.n2_front.specs.Front.{Front}
use Rattle.n2_flat.specs.State.{front_of}
use Rattle.n2_top.proofs.flat.stops.Given as goal

abbrev pub invariant-loop-k : goal.invariant-loop-k
invariant-loop-k l = l.stops.items ++ map (λ (f : Front). f.stop) (map front_of (drop l.k l.flat.cores)) ≡ map (λ (f : Front). f.stop) (map front_of l.flat.cores)
