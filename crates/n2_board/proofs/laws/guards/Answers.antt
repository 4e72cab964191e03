use Rattle.std.proofs.Common.{◌≡◌, ℕ, IsTrue, refl, ap}
use Rattle.std.proofs.lemmas.Bool.{eqb-true, eq-eqb, false≢true}
use Rattle.n2_board.specs.declared.guards.Guard.{Guard}
use Rattle.n2_board.specs.declared.guards.Guard.TheVariants.{Mutex, Passed}
use Rattle.n2_board.specs.Guards.{same_guard}
use Rattle.n2_board.proofs.Owners.{one_cpuid}
use Rattle.n2_board.proofs.laws.guards.Goals as goal

one : (g h : Guard) → IsTrue (same_guard g h) → g ≡ h
one (Mutex m) (Mutex n) e = ap (λ (k : ℕ). Mutex k) (eqb-true m n e)
one (Mutex m) (Passed s) e = absurd (false≢true e)
one (Passed r) (Mutex n) e = absurd (false≢true e)
one (Passed r) (Passed s) e = ap (λ (k : ℕ). Passed k) (eqb-true r s e)

itself : (g : Guard) → IsTrue (same_guard g g)
itself (Mutex m) = eq-eqb m m refl
itself (Passed r) = eq-eqb r r refl

pub returns-clause-equal : goal.returns-clause-equal
returns-clause-equal c = one

pub returns-clause-itself : goal.returns-clause-itself
returns-clause-itself c = itself

pub returns-clause-mutex : goal.returns-clause-mutex
returns-clause-mutex c = one_cpuid
