-- Guards have one owner.
use Rattle.std.proofs.Common.{◌≡◌, ℕ, IsTrue, sym, ◌∙◌}
use Rattle.std.proofs.lemmas.Bool.{eqb-true, and_parts, false≢true}
use Rattle.n2_board.specs.declared.guards.Holder.{Holder}
use Rattle.n2_board.specs.declared.guards.Holder.TheVariants.{ByCore, ByMailbox}
use Rattle.n2_board.specs.Guards.{owns_mutex, owns_region}

-- the cpuid of the core that owns a mutex
pub one_cpuid : (register a b : ℕ) → IsTrue (owns_mutex register a) → IsTrue (owns_mutex register b) → a ≡ b
one_cpuid register a b p q = sym (eqb-true _ a (and_parts _ _ p).0) ∙ eqb-true _ b (and_parts _ _ q).0

-- the core that holds a region
pub one_holder : (holder : Holder) (a b : ℕ) → IsTrue (owns_region holder a) → IsTrue (owns_region holder b) → a ≡ b
one_holder (ByCore core) a b p q = sym (eqb-true core a p) ∙ eqb-true core b q
one_holder (ByMailbox mailbox) a b p q = absurd (false≢true p)
