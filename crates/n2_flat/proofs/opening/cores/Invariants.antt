use Rattle.std.proofs.Common.{◌≡◌, ℕ, length, Some, slice_get}
use Rattle.n2_flat.specs.State.{CoreState, IsStarted}
use Rattle.n2_flat.proofs.opening.cores.Given as goal

abbrev pub invariant-loop-k : goal.invariant-loop-k
invariant-loop-k l = record {
  count : length l.cores.items ≡ l.k;
  each : (k : ℕ) (core : CoreState) → slice_get l.cores.items k ≡ Some core → IsStarted l.board l.images l.layout k core;
}
