use Rattle.std.proofs.Common.{◌≡◌, ℕ, Some, subst}
use Rattle.n2_word.specs.Lines.{set_for}
use Rattle.n2_dcache.specs.Cache.{slot_at}
use Rattle.n2_dcache.proofs.Maps.{held_line_is, slot_is_found, is_some-held_line, one_slot, one_line}
use Rattle.n2_dcache.proofs.laws.one_line_a_set.Goals as goal

pub returns-clause-held : goal.returns-clause-held
returns-clause-held c =
    λ slots sets number held count e. subst (λ (n : ℕ). slot_at slots (set_for number n) ≡ Some held) count (held_line_is slots number held e).0

pub returns-clause-its_number : goal.returns-clause-its_number
returns-clause-its_number c = λ slots number held e. (held_line_is slots number held e).1

pub returns-clause-found : goal.returns-clause-found
returns-clause-found c = slot_is_found

pub returns-clause-has : goal.returns-clause-has
returns-clause-has c = is_some-held_line

pub returns-clause-one_set : goal.returns-clause-one_set
returns-clause-one_set c = one_slot

pub returns-clause-one_line : goal.returns-clause-one_line
returns-clause-one_line c =
    λ slots sets number other held beside count a b. subst (λ (n : ℕ). set_for number n ≡ set_for other n → number ≡ other) count (one_line slots number other held beside a b)
