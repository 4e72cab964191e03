-- Who owns a guard.
use Rattle.std.proofs.Common.{◌≡◌, ℕ, ◌<◌, true, IsTrue, length, get_or, slice_get, Option, Some, None, refl, sym, ap, ◌∙◌}
use Rattle.std.proofs.lemmas.Bool.{false≢true, eqb-true, eq-eqb}
use Rattle.n2_mutex.specs.Mutex as mutex
use Rattle.n2_parts.specs.declared.board.Board.{Board}
use Rattle.n2_parts.specs.declared.board.CoreRow.{CoreRow}
use Rattle.n2_parts.specs.Valid.{IsValid}
use Rattle.n2_parts.proofs.Sound.{one_cpuid as one_core}
use Rattle.n2_board.specs.declared.guards.Guard.{Guard}
use Rattle.n2_board.specs.declared.guards.Guard.TheVariants.{Mutex, Passed}
use Rattle.n2_board.specs.declared.guards.Holder.{Holder}
use Rattle.n2_board.specs.Guards.{owns_region, same_guard}
use Rattle.n2_board.proofs.Owners.{one_cpuid, one_holder}
use Rattle.n2_watch.specs.Book.{Book, owns_if, owns_state, owned_by, cpuid_of}
use Rattle.n2_watch.proofs.KeptLists.{element_at}

cpuid_is : (b : Board) (k : ℕ) (row : CoreRow) → slice_get b.core k ≡ Some row → cpuid_of b k ≡ row.cpuid
cpuid_is b k row e = rw e refl

-- two cores have two cpuids
pub core_of_cpuid : (b : Board) → IsValid b → (j k : ℕ) → j < length b.core → k < length b.core → cpuid_of b j ≡ cpuid_of b k → j ≡ k
core_of_cpuid b valid j k jlt klt e =
    let x = element_at b.core j jlt in
    let y = element_at b.core k klt in
    one_core b valid j k x.0 y.0 x.1 y.1 (sym (cpuid_is b j x.0 x.1) ∙ e ∙ cpuid_is b k y.0 y.1)

mutex_owner : (o : Option mutex.State) (a c : ℕ) → IsTrue (owns_state a o) → IsTrue (owns_state c o) → a ≡ c
mutex_owner None a c p q = absurd (false≢true p)
mutex_owner (Some state) a c p q = one_cpuid (mutex.value_of state 0) a c p q

region_owner : (o : Option Holder) (j k : ℕ) → IsTrue (owns_if (λ holder. owns_region holder j) o) → IsTrue (owns_if (λ holder. owns_region holder k) o) → j ≡ k
region_owner None j k p q = absurd (false≢true p)
region_owner (Some holder) j k p q = one_holder holder j k p q

pub one_owner : (b : Board) → IsValid b → (book : Book) (guard : Guard) (j k : ℕ) → j < length b.core → k < length b.core → IsTrue (owned_by b book j guard) → IsTrue (owned_by b book k guard) → j ≡ k
one_owner b valid book (Mutex index) j k jlt klt p q = core_of_cpuid b valid j k jlt klt (mutex_owner (slice_get book.devices.mutexes index) (cpuid_of b j) (cpuid_of b k) p q)
one_owner b valid book (Passed region) j k jlt klt p q = region_owner (get_or book.holders region None) j k p q

-- the test of guards
pub one_guard : (g h : Guard) → same_guard g h ≡ true → g ≡ h
one_guard (Mutex m) (Mutex n) e = ap (λ (i : ℕ). Mutex i) (eqb-true m n e)
one_guard (Mutex m) (Passed s) e = absurd (false≢true e)
one_guard (Passed r) (Mutex n) e = absurd (false≢true e)
one_guard (Passed r) (Passed s) e = ap (λ (i : ℕ). Passed i) (eqb-true r s e)

pub guard_itself : (g : Guard) → same_guard g g ≡ true
guard_itself (Mutex m) = eq-eqb m m refl
guard_itself (Passed r) = eq-eqb r r refl
