use Rattle.n2_flat.specs.State.{IsWhole}
use Rattle.n2_flat_cases.proofs.acts.make_all.Given as goal

abbrev pub invariant-loop-word : goal.invariant-loop-word
invariant-loop-word l = IsWhole l.layout l.flat
