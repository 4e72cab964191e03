-- What an access of a device changes of what cores own, of the mailboxes and of the holders of regions.
use Rattle.std.proofs.Common.{◌≡◌, ◌≢◌, ℕ, ◌/◌, ◌%◌, ◌*◌, ◌+◌, ◌^◌, ◌<◌, ◌≤◌, ◌⊎◌, inl, inr, Bool, true, false, not, ◌&&◌, ◌||◌, eqb, if◌then◌else◌, IfNone, List, [], ◌∷◌, length, get_or, slice_get, slice_set, Option, Some, None, option_map, refl, sym, ap, ◌∙◌, arith}
use Rattle.std.proofs.lemmas.Bool.{true≢false, eqb-true, eq-eqb, ne_eqb, or_cases, and_left, and_right, and_from, or_parts}
use Rattle.n2_mutex.specs.Mutex as mutex
use Rattle.n2_parts.specs.declared.board.Board.{Board}
use Rattle.n2_parts.specs.declared.board.MailboxRow.{MailboxRow}
use Rattle.n2_parts.specs.declared.stops.Kind.TheVariants.{Flush, Lock}
use Rattle.n2_parts.specs.Valid.{IsValid}
use Rattle.n2_board.specs.declared.guards.Guard.{Guard}
use Rattle.n2_board.specs.declared.guards.Guard.TheVariants.{Mutex, Passed}
use Rattle.n2_board.specs.AddressMap.{AddressMap}
use Rattle.n2_board.specs.declared.guards.Holder.{Holder}
use Rattle.n2_board.specs.Guards.{owns_mutex, owns_region, same_guard}
use Rattle.n2_watch.specs.declared.past.Past.{Past}
use Rattle.n2_watch.specs.Past.{dirty, guards, lowest}
use Rattle.n2_watch.specs.Discipline.{Breach, Breaks, Knowledge, unflushed, mutex_breach}
use Rattle.n2_watch.specs.Book.{Book, owns_if, owns_state, owned_by, cpuid_of, sets_of, pointer_of, knowledge}
use Rattle.n2_watch.specs.Kept.{IsPosted}
use Rattle.n2_watch.proofs.KeptLists.{get-set_same, get-set_other}
use Rattle.n2_watch.proofs.Lowest.{lowest_dirty, when_none}
use Rattle.n2_watch.proofs.Owners.{core_of_cpuid, one_guard, guard_itself}

-- one of some guards
abbrev pub among : Guard → List Guard → Bool
among guard [] = false
among guard (other ∷ guards) = same_guard guard other || among guard guards

-- an exchange of core k with a device that changed the book: no other core's guards nor Pointer registers; of its own at
-- most one of the listed guards; what it gave away has no dirty line; the waiting messages are still those that hold regions
pub record IsExchange (b : Board) (map : AddressMap) (k : ℕ) (before after : Book) (past : List Past) (touched : List Guard) : Type 0 where
  pub few : length touched ≤ 1
  pub others : (j : ℕ) (guard : Guard) → j < length b.core → j ≢ k → owned_by b after j guard ≡ owned_by b before j guard
  pub mine : (guard : Guard) → among guard touched ≡ false → owned_by b after k guard ≡ owned_by b before k guard
  pub given : (guard : Guard) → owned_by b before k guard ≡ true → owned_by b after k guard ≡ false → (number : ℕ) → dirty (sets_of b k) past number ≡ true → guards map guard number ≡ false
  pub posts : IsPosted map after
  pub pointers : (index : ℕ) (row : MailboxRow) → slice_get b.mailbox index ≡ Some row → row.sender ≢ k → pointer_of after index ≡ pointer_of before index

-- ---- where neither mutexes nor holders change, ownership does not
pub owned_like : (b : Board) (before after : Book) (j : ℕ) → after.devices.mutexes ≡ before.devices.mutexes → after.holders ≡ before.holders → (guard : Guard) → owned_by b after j guard ≡ owned_by b before j guard
owned_like b before after j p q (Mutex i) = ap (λ (xs : List mutex.State). owns_state (cpuid_of b j) (slice_get xs i)) p
owned_like b before after j p q (Passed r) = ap (λ (xs : List (Option Holder)). owns_if (λ holder. owns_region holder j) (get_or xs r None)) q

pub posted_like : (map : AddressMap) (before after : Book) → after.devices.mailboxes ≡ before.devices.mailboxes → after.holders ≡ before.holders → IsPosted map before → IsPosted map after
posted_like map before after p q h index region = rw (p, q) (h index region)

pub pointer_like : (before after : Book) (index : ℕ) → after.devices.mailboxes ≡ before.devices.mailboxes → pointer_of after index ≡ pointer_of before index
pointer_like before after index p = rw p refl

pub none_given : (x y : Bool) (P : Type 0) → y ≡ x → x ≡ true → y ≡ false → P
none_given x y P e p q = absurd (true≢false (sym p ∙ sym e ∙ q))

module _ (b : Board) (map : AddressMap) (k : ℕ) (before after : Book) (past : List Past) where
  pub quiet_exchange : (touched : List Guard) → length touched ≤ 1 → after.devices.mutexes ≡ before.devices.mutexes → after.devices.mailboxes ≡ before.devices.mailboxes → after.holders ≡ before.holders → IsPosted map before → IsExchange b map k before after past touched
  quiet_exchange touched few p q r h = record {
    few = few;
    others = λ j guard lt n. owned_like b before after j p r guard;
    mine = λ guard n. owned_like b before after k p r guard;
    given = λ guard x y number d. none_given (owned_by b before k guard) (owned_by b after k guard) _ (owned_like b before after k p r guard) x y;
    posts = posted_like map before after q r h;
    pointers = λ index row e n. pointer_like before after index q;
  }

-- ---- what is given away is clean
from_none : (o : Option ℕ) (P : Type 0) → IfNone o P → option_map (λ number. Breaks Flush number) o ≡ None → P
from_none None P p e = p
from_none (Some number) P p e = absurd (cc)

pub none_unflushed : (who : Knowledge) (meant : ℕ → Bool) → unflushed who meant ≡ None → (number : ℕ) → dirty who.sets who.past number ≡ true → meant number ≡ false
none_unflushed who meant e = from_none (lowest (λ number. dirty who.sets who.past number && meant number) who.past) _ (when_none who.sets meant who.past (lowest (λ number. dirty who.sets who.past number && meant number) who.past) (lowest_dirty who.sets meant who.past)) e

-- ---- a write of a mutex register
idle_register : (register d : ℕ) → register % 2 ^ 16 ≡ 0 → owns_mutex register d ≡ false
idle_register register d e = and_right (eqb (register / 2 ^ 16) d) (not (eqb (register % 2 ^ 16) 0)) (rw e refl)

other_owner : (register c d : ℕ) → register / 2 ^ 16 ≡ c → d ≢ c → owns_mutex register d ≡ false
other_owner register c d e n = and_left (eqb (register / 2 ^ 16) d) (not (eqb (register % 2 ^ 16) 0)) (ne_eqb (register / 2 ^ 16) d (λ x. n (sym x ∙ e)))

held_register : (register c : ℕ) → register / 2 ^ 16 ≡ c → eqb (register % 2 ^ 16) 0 ≡ false → owns_mutex register c ≡ true
held_register register c e n = and_from (eqb (register / 2 ^ 16) c) (not (eqb (register % 2 ^ 16) 0)) (eq-eqb (register / 2 ^ 16) c e) (rw n refl)

same_word : (w : ℕ) → w / 65536 * 65536 + w % 65536 ≡ w
same_word w = omega arith

-- a word that takes effect is no matter for another cpuid
before_rival : (o v w c d : ℕ) → v < 65536 → w / 65536 ≡ c → d ≢ c → (eqb v 0 ≡ true) ⊎ (eqb o (w / 65536) ≡ true) → owns_mutex (o * 65536 + v) d ≡ false
before_rival o v w c d lt e n (inl x) = let z = eqb-true v 0 x in idle_register (o * 65536 + v) d (omega arith)
before_rival o v w c d lt e n (inr x) = let z = eqb-true o (w / 65536) x in other_owner (o * 65536 + v) c d (omega arith) n

rival_taken : (s : mutex.State) (w c d : ℕ) → s.value < 2 ^ 16 → w / 2 ^ 16 ≡ c → d ≢ c → (t : Bool) → mutex.takes s 0 w ≡ t → owns_mutex (mutex.value_of (if t then record s { owner = mutex.owner_in w; value = mutex.value_in w } else s) 0) d ≡ owns_mutex (mutex.value_of s 0) d
rival_taken s w c d lt e n true t =
    other_owner (w / 65536 * 65536 + w % 65536) c d (ap (λ x. x / 65536) (same_word w) ∙ e) n ∙ sym (before_rival s.owner s.value w c d lt e n (or_cases (eqb s.value 0) (eqb s.owner (w / 65536)) t))
rival_taken s w c d lt e n false t = refl

-- a core that writes its own cpuid with a VALUE other than 0 owns what it owned
keeper_taken : (s : mutex.State) (w c : ℕ) → w / 2 ^ 16 ≡ c → eqb (w % 2 ^ 16) 0 ≡ false → owns_mutex (mutex.value_of s 0) c ≡ true → (t : Bool) → owns_mutex (mutex.value_of (if t then record s { owner = mutex.owner_in w; value = mutex.value_in w } else s) 0) c ≡ true
keeper_taken s w c e n h true = held_register (w / 65536 * 65536 + w % 65536) c (ap (λ x. x / 65536) (same_word w) ∙ e) (ap (λ x. eqb (x % 65536) 0) (same_word w) ∙ n)
keeper_taken s w c e n h false = h

pub not_same : (g h : Guard) → same_guard g h ≡ false → g ≢ h
not_same g h e n = true≢false (sym (guard_itself h) ∙ ap (λ x. same_guard x h) (sym n) ∙ e)

mutex_elsewhere : (b : Board) (before after : Book) (j index : ℕ) (s : mutex.State) → after.devices.mutexes ≡ slice_set before.devices.mutexes index s → after.holders ≡ before.holders → (guard : Guard) → guard ≢ Mutex index → owned_by b after j guard ≡ owned_by b before j guard
mutex_elsewhere b before after j index s p q (Mutex i) n = ap (λ (o : Option mutex.State). owns_state (cpuid_of b j) o) (ap (λ (xs : List mutex.State). slice_get xs i) p ∙ get-set_other before.devices.mutexes index i s (λ e. n (ap (λ (x : ℕ). Mutex x) e)))
mutex_elsewhere b before after j index s p q (Passed r) n = ap (λ (xs : List (Option Holder)). owns_if (λ holder. owns_region holder j) (get_or xs r None)) q

mutex_here : (b : Board) (before after : Book) (j index : ℕ) (s new : mutex.State) → slice_get before.devices.mutexes index ≡ Some s → after.devices.mutexes ≡ slice_set before.devices.mutexes index new → owned_by b after j (Mutex index) ≡ owns_mutex (mutex.value_of new 0) (cpuid_of b j)
mutex_here b before after j index s new e p = ap (λ (o : Option mutex.State). owns_state (cpuid_of b j) o) (ap (λ (xs : List mutex.State). slice_get xs index) p ∙ get-set_same before.devices.mutexes index s new e)

mutex_before : (b : Board) (book : Book) (j index : ℕ) (s : mutex.State) → slice_get book.devices.mutexes index ≡ Some s → owned_by b book j (Mutex index) ≡ owns_mutex (mutex.value_of s 0) (cpuid_of b j)
mutex_before b book j index s e = ap (λ (o : Option mutex.State). owns_state (cpuid_of b j) o) e

-- what the discipline says of the written word
own_word : (same : Bool) (o : Option Breach) (number : ℕ) → (if same then o else Some (Breaks Lock number)) ≡ None → (same ≡ true) × (o ≡ None)
own_word true o number e = (refl, e)
own_word false o number e = absurd (cc)

when_given : (zero own : Bool) (o : Option Breach) → (if zero && own then o else None) ≡ None → zero ≡ true → own ≡ true → o ≡ None
when_given true true o e p q = e
when_given true false o e p q = absurd (cc)
when_given false own o e p q = absurd (cc)

module _ (b : Board) (valid : IsValid b) (map : AddressMap) (k : ℕ) (klt : k < length b.core) (before after : Book) (past : List Past) where
  mutex_rival : (index value : ℕ) (s : mutex.State) → s.value < 2 ^ 16 → value / 2 ^ 16 ≡ cpuid_of b k → slice_get before.devices.mutexes index ≡ Some s → after.devices.mutexes ≡ slice_set before.devices.mutexes index (mutex.with_owner_and_value s value) → after.holders ≡ before.holders → (j : ℕ) → j < length b.core → j ≢ k → (guard : Guard) (same : Bool) → same_guard guard (Mutex index) ≡ same → owned_by b after j guard ≡ owned_by b before j guard
  mutex_rival index value s lt own e p q j jlt n guard false d = mutex_elsewhere b before after j index (mutex.with_owner_and_value s value) p q guard (not_same guard (Mutex index) d)
  mutex_rival index value s lt own e p q j jlt n guard true d =
      rw (one_guard guard (Mutex index) d) (mutex_here b before after j index s (mutex.with_owner_and_value s value) e p ∙ rival_taken s value (cpuid_of b k) (cpuid_of b j) lt own (λ x. n (core_of_cpuid b valid j k jlt klt x)) (mutex.takes s 0 value) refl ∙ sym (mutex_before b before j index s e))

  mutex_given : (index value number : ℕ) (s : mutex.State) → mutex_breach map (knowledge b before k past) index value number ≡ None → slice_get before.devices.mutexes index ≡ Some s → after.devices.mutexes ≡ slice_set before.devices.mutexes index (mutex.with_owner_and_value s value) → value / 2 ^ 16 ≡ cpuid_of b k → owned_by b before k (Mutex index) ≡ true → owned_by b after k (Mutex index) ≡ false → (zero : Bool) → eqb (value % 2 ^ 16) 0 ≡ zero → (l : ℕ) → dirty (sets_of b k) past l ≡ true → guards map (Mutex index) l ≡ false
  mutex_given index value number s br e p own x y true z l d =
      none_unflushed (knowledge b before k past) (λ n. guards map (Mutex index) n) (when_given (eqb (value % 2 ^ 16) 0) (owned_by b before k (Mutex index)) _ (own_word (eqb (value / 2 ^ 16) (cpuid_of b k)) _ number br).1 z x) l d
  mutex_given index value number s br e p own x y false z l d =
      absurd (true≢false (sym (keeper_taken s value (cpuid_of b k) own z (sym (mutex_before b before k index s e) ∙ x) (mutex.takes s 0 value)) ∙ sym (mutex_here b before after k index s (mutex.with_owner_and_value s value) e p) ∙ y))

  pub mutex_exchange : (index value number : ℕ) (s : mutex.State) → mutex_breach map (knowledge b before k past) index value number ≡ None → s.value < 2 ^ 16 → slice_get before.devices.mutexes index ≡ Some s → after.devices.mutexes ≡ slice_set before.devices.mutexes index (mutex.with_owner_and_value s value) → after.devices.mailboxes ≡ before.devices.mailboxes → after.holders ≡ before.holders → IsPosted map before → IsExchange b map k before after past (Mutex index ∷ [])
  mutex_exchange index value number s br lt e p q r h =
      let own : value / 2 ^ 16 ≡ cpuid_of b k = eqb-true (value / 2 ^ 16) (cpuid_of b k) (own_word (eqb (value / 2 ^ 16) (cpuid_of b k)) _ number br).0 in
      record {
        few = omega arith;
        others = λ j guard jlt n. mutex_rival index value s lt own e p r j jlt n guard (same_guard guard (Mutex index)) refl;
        mine = λ guard n. mutex_elsewhere b before after k index (mutex.with_owner_and_value s value) p r guard (not_same guard (Mutex index) (or_parts (same_guard guard (Mutex index)) false n).0);
        given = λ guard x y l d. given_guard index value number s br e p r own guard x y l d (same_guard guard (Mutex index)) refl;
        posts = posted_like map before after q r h;
        pointers = λ i row f n. pointer_like before after i q;
      }
    where
      given_guard : (index value number : ℕ) (s : mutex.State) → mutex_breach map (knowledge b before k past) index value number ≡ None → slice_get before.devices.mutexes index ≡ Some s → after.devices.mutexes ≡ slice_set before.devices.mutexes index (mutex.with_owner_and_value s value) → after.holders ≡ before.holders → value / 2 ^ 16 ≡ cpuid_of b k → (guard : Guard) → owned_by b before k guard ≡ true → owned_by b after k guard ≡ false → (l : ℕ) → dirty (sets_of b k) past l ≡ true → (same : Bool) → same_guard guard (Mutex index) ≡ same → guards map guard l ≡ false
      given_guard index value number s br e p r own guard x y l d true i =
          let z = one_guard guard (Mutex index) i in
          rw z (mutex_given index value number s br e p own (rw z at x) (rw z at y) (eqb (value % 2 ^ 16) 0) refl l d)
      given_guard index value number s br e p r own guard x y l d false i =
          none_given (owned_by b before k guard) (owned_by b after k guard) _ (mutex_elsewhere b before after k index (mutex.with_owner_and_value s value) p r guard (not_same guard (Mutex index) i)) x y

-- a mutex whose OWNER and VALUE stay
module _ (b : Board) (map : AddressMap) (k : ℕ) (before after : Book) (past : List Past) where
  mutex_same : (index : ℕ) (s new : mutex.State) → slice_get before.devices.mutexes index ≡ Some s → after.devices.mutexes ≡ slice_set before.devices.mutexes index new → after.holders ≡ before.holders → mutex.value_of new 0 ≡ mutex.value_of s 0 → (j : ℕ) (guard : Guard) (same : Bool) → same_guard guard (Mutex index) ≡ same → owned_by b after j guard ≡ owned_by b before j guard
  mutex_same index s new e p q v j guard false d = mutex_elsewhere b before after j index new p q guard (not_same guard (Mutex index) d)
  mutex_same index s new e p q v j guard true d =
      rw (one_guard guard (Mutex index) d) (mutex_here b before after j index s new e p ∙ ap (λ (x : ℕ). owns_mutex x (cpuid_of b j)) v ∙ sym (mutex_before b before j index s e))

  pub mutex_quiet : (touched : List Guard) → length touched ≤ 1 → (index : ℕ) (s new : mutex.State) → slice_get before.devices.mutexes index ≡ Some s → after.devices.mutexes ≡ slice_set before.devices.mutexes index new → after.devices.mailboxes ≡ before.devices.mailboxes → after.holders ≡ before.holders → mutex.value_of new 0 ≡ mutex.value_of s 0 → IsPosted map before → IsExchange b map k before after past touched
  mutex_quiet touched few index s new e p q r v h = record {
    few = few;
    others = λ j guard lt n. mutex_same index s new e p r v j guard (same_guard guard (Mutex index)) refl;
    mine = λ guard n. mutex_same index s new e p r v k guard (same_guard guard (Mutex index)) refl;
    given = λ guard x y number d. none_given (owned_by b before k guard) (owned_by b after k guard) _ (mutex_same index s new e p r v k guard (same_guard guard (Mutex index)) refl) x y;
    posts = posted_like map before after q r h;
    pointers = λ i row f n. pointer_like before after i q;
  }
