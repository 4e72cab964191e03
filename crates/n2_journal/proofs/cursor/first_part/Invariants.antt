use Rattle.std.proofs.Common.{◌≡◌, false, eqb, take}
use Rattle.std.specs.Prelude.{All}
use Rattle.n2_journal.proofs.cursor.first_part.Given as goal

abbrev pub invariant-loop-at : goal.invariant-loop-at
invariant-loop-at l = All (λ c. eqb c l.separator ≡ false) (take l.at l.text)
