-- What the past events of a core keep.
use Rattle.std.proofs.Common.{◌≡◌, ◌≢◌, ◌⊎◌, ℕ, zero, suc, ◌<◌, Bool, true, false, ◌&&◌, ◌||◌, if◌then◌else◌, IsTrue, List, [], ◌∷◌, length, eqb, map, get_or, slice_get, slice_set, Option, Some, None, Ok, Contains, inl, inr, refl, sym, ap, ◌∙◌, arith}
use Rattle.std.proofs.lemmas.Bool.{false≢true, cases_eq, cases_Bool, eqb-true, false_from_ne_true}
use Rattle.std.proofs.lemmas.Option.{slice_get_within}
use Rattle.n2_word.specs.declared.Width.{Width}
use Rattle.n2_word.specs.declared.Width.TheVariants.{Byte, Half, Word}
use Rattle.n2_word.specs.Lines.{line, without_bypass}
use Rattle.n2_insn.specs.declared.DataOp.{DataOp}
use Rattle.n2_parts.specs.declared.board.Board.{Board}
use Rattle.n2_parts.specs.declared.board.CoreRow.{CoreRow}
use Rattle.n2_parts.specs.declared.board.MailboxRow.{MailboxRow}
use Rattle.n2_parts.specs.declared.board.RegionRow.{RegionRow}
use Rattle.n2_parts.specs.declared.board.RegionClass.{RegionClass}
use Rattle.n2_parts.specs.declared.board.RegionClass.TheVariants as given
use Rattle.n2_parts.specs.declared.stops.Kind.TheVariants.{Lock, Invalidate}
use Rattle.n2_mailbox.specs.Mailbox as mailbox
use Rattle.n2_board.specs.declared.access.Route.TheVariants.{Cached}
use Rattle.n2_board.specs.declared.access.Target.TheVariants as targets
use Rattle.n2_board.specs.declared.classes.Class.{Class}
use Rattle.n2_board.specs.declared.classes.Class.TheVariants as classes
use Rattle.n2_board.specs.declared.guards.Guard.{Guard}
use Rattle.n2_board.specs.declared.guards.Guard.TheVariants.{Mutex, Passed}
use Rattle.n2_board.specs.declared.places.Place.{Place}
use Rattle.n2_board.specs.declared.places.Place.TheVariants as places
use Rattle.n2_board.specs.AddressMap.{AddressMap, class_of, place}
use Rattle.n2_board.specs.Access.{allows, data_target, target_at, memory_target}
use Rattle.n2_board.specs.declared.guards.Holder.{Holder}
use Rattle.n2_board.specs.declared.guards.Holder.TheVariants.{ByCore, ByMailbox}
use Rattle.n2_board.specs.Guards.{guard_of, same_guard}
use Rattle.n2_watch.specs.declared.past.Past.{Past}
use Rattle.n2_watch.specs.declared.past.Past.TheVariants.{Touch, Clean}
use Rattle.n2_watch.specs.declared.access.Access.TheVariants as accesses
use Rattle.n2_watch.specs.Past.{is_guard, guards, covers, may, dirty, stale}
use Rattle.n2_watch.specs.Discipline.{Breach, Breaks, Knowledge, if_stale, line_breach, cached_breach, breach, direction}
use Rattle.n2_watch.specs.Book.{Book, first_holder, start_book, owned_by, sets_of, knowledge, noted, all_noted}
use Rattle.n2_watch.specs.Kept.{may_write, IsPastKept, is_posted, IsPosted, IsKept}
use Rattle.n2_watch.specs.Shapes.{Change, Nothing, Begins, Ends, StayBut, IsNoted}
use Rattle.n2_watch.proofs.KeptLists.{get-set_same, get-set_other}
use Rattle.n2_watch.proofs.Owners.{one_guard}
use Rattle.n2_watch.proofs.KeptDevices.{among, IsExchange}

-- ---- rights are what is owned
like_class : (class : Class) (k : ℕ) (own now : Guard → Bool) → ((guard : Guard) → now guard ≡ own guard) → may_write class k now ≡ may_write class k own
like_class classes.Code k own now e = refl
like_class (classes.Private owner) k own now e = refl
like_class (classes.Mutex mutex) k own now e = e (Mutex mutex)
like_class (classes.Passed region) k own now e = e (Passed region)
like_class classes.Uncached k own now e = refl
like_class classes.Absent k own now e = refl

pub same_owner : (b : Board) (map : AddressMap) (before after : Book) (k : ℕ) (past : List Past) → ((guard : Guard) → owned_by b after k guard ≡ owned_by b before k guard) → IsPastKept b map before k past → IsPastKept b map after k past
same_owner b map before after k past e h = record {
  dirty_lines = λ number d. (like_class (class_of map number) k (owned_by b before k) (owned_by b after k) e ∙ (h.dirty_lines number d).0, (h.dirty_lines number d).1);
  touched = h.touched;
}

guarded_class : (class : Class) (guard : Guard) (k : ℕ) (own : Guard → Bool) → is_guard (guard_of class) guard ≡ true → may_write class k own ≡ own guard
guarded_class classes.Code guard k own e = absurd (false≢true e)
guarded_class (classes.Private owner) guard k own e = absurd (false≢true e)
guarded_class (classes.Mutex mutex) guard k own e = ap own (one_guard (Mutex mutex) guard e)
guarded_class (classes.Passed region) guard k own e = ap own (one_guard (Passed region) guard e)
guarded_class classes.Uncached guard k own e = absurd (false≢true e)
guarded_class classes.Absent guard k own e = absurd (false≢true e)

unguarded_class : (class : Class) (guard : Guard) (k : ℕ) (own now : Guard → Bool) → ((other : Guard) → same_guard other guard ≡ false → now other ≡ own other) → is_guard (guard_of class) guard ≡ false → may_write class k now ≡ may_write class k own
unguarded_class classes.Code guard k own now e n = refl
unguarded_class (classes.Private owner) guard k own now e n = refl
unguarded_class (classes.Mutex mutex) guard k own now e n = e (Mutex mutex) n
unguarded_class (classes.Passed region) guard k own now e n = e (Passed region) n
unguarded_class classes.Uncached guard k own now e n = refl
unguarded_class classes.Absent guard k own now e n = refl

among_one : (other guard : Guard) → same_guard other guard ≡ false → among other (guard ∷ []) ≡ false
among_one other guard e = rw e refl

-- ---- Got and Gave
module _ (b : Board) (k : ℕ) (before after : Book) (guard : Guard) (mine : (other : Guard) → among other (guard ∷ []) ≡ false → owned_by b after k other ≡ owned_by b before k other) where
  all_same : owned_by b after k guard ≡ owned_by b before k guard → (other : Guard) (same : Bool) → same_guard other guard ≡ same → owned_by b after k other ≡ owned_by b before k other
  all_same e other true s = rw (one_guard other guard s) e
  all_same e other false s = mine other (among_one other guard s)

  stay_but : StayBut guard (owned_by b before k) (owned_by b after k)
  stay_but other n = mine other (among_one other guard (false_from_ne_true (same_guard other guard) (λ t. n (one_guard other guard t))))

  change_one : (past : List Past) (x y : Bool) → owned_by b before k guard ≡ x → owned_by b after k guard ≡ y → (change : Change) × IsNoted (owned_by b before k) (owned_by b after k) past (noted guard x y past) change
  change_one past true true p q = (Nothing, (λ other. all_same (q ∙ sym p) other (same_guard other guard) refl, refl))
  change_one past false false p q = (Nothing, (λ other. all_same (q ∙ sym p) other (same_guard other guard) refl, refl))
  change_one past true false p q = (Ends guard, (p, q, stay_but, refl))
  change_one past false true p q = (Begins guard, (p, q, stay_but, refl))

pub all_changes : (b : Board) (map : AddressMap) (k : ℕ) (before after : Book) (past : List Past) (touched : List Guard) → IsExchange b map k before after past touched → (change : Change) × IsNoted (owned_by b before k) (owned_by b after k) past (all_noted (owned_by b before k) (owned_by b after k) touched past) change
all_changes b map k before after past [] x = (Nothing, (λ guard. x.mine guard refl, refl))
all_changes b map k before after past (guard ∷ []) x = change_one b k before after guard x.mine past (owned_by b before k guard) (owned_by b after k guard) refl refl
all_changes b map k before after past (guard ∷ other ∷ guards) x = let few = x.few in absurd (omega arith)

among_first : (guard other : Guard) (touched : List Guard) → (among guard touched ≡ true → Contains touched guard) → (same : Bool) → same_guard guard other ≡ same → (same || among guard touched) ≡ true → Contains (other ∷ touched) guard
among_first guard other touched rest true s e = (zero, omega arith, sym (one_guard guard other s))
among_first guard other touched rest false s e = let found = rest e in let lt = found.1 in (suc found.0, omega arith, found.2)

among_in : (guard : Guard) (touched : List Guard) → among guard touched ≡ true → Contains touched guard
among_in guard [] e = absurd (false≢true e)
among_in guard (other ∷ touched) e = among_first guard other touched (among_in guard touched) (same_guard guard other) refl e

-- a guard whose ownership changes is one of those that the access touches
pub changed_in : (b : Board) (map : AddressMap) (k : ℕ) (before after : Book) (past : List Past) (touched : List Guard) → IsExchange b map k before after past touched → (guard : Guard) → owned_by b after k guard ≢ owned_by b before k guard → Contains touched guard
changed_in b map k before after past touched x guard n = elim (cases_Bool (among guard touched)) [ inl e ↦ among_in guard touched e | inr e ↦ absurd (n (x.mine guard e)) ]

module _ (b : Board) (map : AddressMap) (k : ℕ) (before after : Book) (past : List Past) (h : IsPastKept b map before k past) where
  module _ (guard : Guard) (mine : (other : Guard) → among other (guard ∷ []) ≡ false → owned_by b after k other ≡ owned_by b before k other) (given : (other : Guard) → owned_by b before k other ≡ true → owned_by b after k other ≡ false → (number : ℕ) → dirty (sets_of b k) past number ≡ true → guards map other number ≡ false) where
    unguarded : (number : ℕ) → guards map guard number ≡ false → may_write (class_of map number) k (owned_by b after k) ≡ may_write (class_of map number) k (owned_by b before k)
    unguarded number n = unguarded_class (class_of map number) guard k (owned_by b before k) (owned_by b after k) (λ other s. mine other (among_one other guard s)) n

    got_line : owned_by b before k guard ≡ false → (number : ℕ) → dirty (sets_of b k) past number ≡ true → (its : Bool) → guards map guard number ≡ its → IsTrue (may_write (class_of map number) k (owned_by b after k)) × ((if its then may (sets_of b k) past number else stale map (sets_of b k) past number) ≡ false)
    got_line free number d true g = absurd (false≢true (sym free ∙ sym (guarded_class (class_of map number) guard k (owned_by b before k) g) ∙ (h.dirty_lines number d).0))
    got_line free number d false g = (unguarded number g ∙ (h.dirty_lines number d).0, (h.dirty_lines number d).1)

    same_one : owned_by b after k guard ≡ owned_by b before k guard → IsPastKept b map after k past
    same_one e = same_owner b map before after k past (λ other. all_same b k before after guard mine e other (same_guard other guard) refl) h

    noted_one : (x y : Bool) → owned_by b before k guard ≡ x → owned_by b after k guard ≡ y → IsPastKept b map after k (noted guard x y past)
    noted_one true true p q = same_one (q ∙ sym p)
    noted_one false false p q = same_one (q ∙ sym p)
    noted_one true false p q = record {
      dirty_lines = λ number d. (unguarded number (given guard p q number d) ∙ (h.dirty_lines number d).0, (h.dirty_lines number d).1);
      touched = h.touched;
    }
    noted_one false true p q = record { dirty_lines = λ number d. got_line p number d (guards map guard number) refl; touched = h.touched }

  pub all_kept : (touched : List Guard) → IsExchange b map k before after past touched → IsPastKept b map after k (all_noted (owned_by b before k) (owned_by b after k) touched past)
  all_kept [] x = same_owner b map before after k past (λ guard. x.mine guard refl) h
  all_kept (guard ∷ []) x = noted_one guard x.mine x.given (owned_by b before k guard) (owned_by b after k guard) refl refl
  all_kept (guard ∷ other ∷ guards) x = let few = x.few in absurd (omega arith)

-- ---- loads and stores through the cache
fresh : (map : AddressMap) (who : Knowledge) (number : ℕ) → if_stale map who number ≡ None → stale map who.sets who.past number ≡ false
fresh map who number e = from (stale map who.sets who.past number) e
  where
    from : (x : Bool) → (if x then Some (Breaks Invalidate number) else None) ≡ None → x ≡ false
    from true e = absurd (cc)
    from false e = refl

owned_fresh : (own : Bool) (o : Option Breach) (number : ℕ) → (if own then o else Some (Breaks Lock number)) ≡ None → (own ≡ true) × (o ≡ None)
owned_fresh true o number e = (refl, e)
owned_fresh false o number e = absurd (cc)

line_passes : (map : AddressMap) (who : Knowledge) (number : ℕ) (class : Class) (store : Bool) → line_breach map who (guard_of class) number ≡ None → allows class who.core Cached (direction store) ≡ true → (store ≡ true → may_write class who.core who.owns ≡ true) × (stale map who.sets who.past number ≡ false)
line_passes map who number classes.Code true br a = absurd (false≢true a)
line_passes map who number classes.Code false br a = (λ s. absurd (false≢true s), fresh map who number br)
line_passes map who number (classes.Private owner) store br a = (λ s. a, fresh map who number br)
line_passes map who number (classes.Mutex mutex) store br a = let o = owned_fresh (who.owns (Mutex mutex)) (if_stale map who number) number br in (λ s. o.0, fresh map who number o.1)
line_passes map who number (classes.Passed region) store br a = let o = owned_fresh (who.owns (Passed region)) (if_stale map who number) number br in (λ s. o.0, fresh map who number o.1)
line_passes map who number classes.Uncached store br a = absurd (false≢true a)
line_passes map who number classes.Absent store br a = absurd (false≢true a)

line_right : (map : AddressMap) (who : Knowledge) (number : ℕ) (class : Class) (store : Bool) → line_breach map who (guard_of class) number ≡ None → allows class who.core Cached (direction store) ≡ true → (class ≡ classes.Code) ⊎ (may_write class who.core who.owns ≡ true)
line_right map who number classes.Code store br a = inl refl
line_right map who number (classes.Private owner) store br a = inr a
line_right map who number (classes.Mutex mutex) store br a = inr (owned_fresh (who.owns (Mutex mutex)) (if_stale map who number) number br).0
line_right map who number (classes.Passed region) store br a = inr (owned_fresh (who.owns (Passed region)) (if_stale map who number) number br).0
line_right map who number classes.Uncached store br a = absurd (false≢true a)
line_right map who number classes.Absent store br a = absurd (false≢true a)

-- what the discipline lets through the cache is of a line in memory that its class allows
pub record Passes (map : AddressMap) (who : Knowledge) (address : ℕ) (width : Width) (store : Bool) : Type 0 where
  pub memory : data_target map who.core address width Cached (direction store) ≡ Ok targets.Memory
  pub allowed : allows (class_of map (line address)) who.core Cached (direction store) ≡ true
  pub owned : store ≡ true → may_write (class_of map (line address)) who.core who.owns ≡ true
  pub right : (class_of map (line address) ≡ classes.Code) ⊎ (may_write (class_of map (line address)) who.core who.owns ≡ true)
  pub fresh_line : stale map who.sets who.past (line address) ≡ false

cached_memory : (map : AddressMap) (who : Knowledge) (number : ℕ) (allowed : Bool) → cached_breach map who (memory_target allowed) number ≡ None → (allowed ≡ true) × (line_breach map who (guard_of (class_of map number)) number ≡ None)
cached_memory map who number true br = (refl, br)
cached_memory map who number false br = absurd (cc)

cached_passes : (map : AddressMap) (who : Knowledge) (number : ℕ) (there : Place) (width : Width) (store : Bool) → cached_breach map who (target_at there (class_of map number) who.core width Cached (direction store)) number ≡ None → (there ≡ places.Memory) × (allows (class_of map number) who.core Cached (direction store) ≡ true) × (line_breach map who (guard_of (class_of map number)) number ≡ None)
cached_passes map who number places.Memory width store br = let p = cached_memory map who number (allows (class_of map number) who.core Cached (direction store)) br in (refl, p.0, p.1)
cached_passes map who number (places.Device part offset) Byte store br = absurd (cc)
cached_passes map who number (places.Device part offset) Half store br = absurd (cc)
cached_passes map who number (places.Device part offset) Word store br = absurd (cc)
cached_passes map who number places.Nothing width store br = absurd (cc)

pub passes : (b : Board) (map : AddressMap) (who : Knowledge) (address : ℕ) (width : Width) (store : Bool) → breach b map who (accesses.Cached address store) width ≡ None → Passes map who address width store
unfolding breach data_target
passes b map who address width store br =
    let p = cached_passes map who (line address) (place map (without_bypass address)) width store br in
    let r = line_passes map who (line address) (class_of map (line address)) store p.2 p.1 in
    record {
      memory = ap (λ (there : Place). target_at there (class_of map (line address)) who.core width Cached (direction store)) p.0 ∙ ap memory_target p.1;
      allowed = p.1;
      owned = r.0;
      right = line_right map who (line address) (class_of map (line address)) store p.2 p.1;
      fresh_line = r.1;
    }

touch_line : (same store d : Bool) (P : Type 0) → (if same && store then true else d) ≡ true → (same ≡ true → store ≡ true → P) → (d ≡ true → P) → P
touch_line true true d P e here before = here refl refl
touch_line true false d P e here before = before e
touch_line false store d P e here before = before e

module _ (b : Board) (map : AddressMap) (book : Book) (k : ℕ) (past : List Past) (h : IsPastKept b map book k past) where
  pub touched_kept : (address : ℕ) (width : Width) (store : Bool) → Passes map (knowledge b book k past) address width store → IsPastKept b map book k (Touch (line address) store ∷ past)
  touched_kept address width store p = record {
    dirty_lines = λ number d. touch_line (eqb (line address) number) store (dirty (sets_of b k) past number) _ d
        (λ same stored. let e = eqb-true (line address) number same in (rw (← e) (p.owned stored), rw (← e) p.fresh_line))
        (h.dirty_lines number);
    touched = (p.allowed, h.touched);
  }

  cleaned_line : (number : ℕ) (covered : Bool) → (if covered then false else dirty (sets_of b k) past number) ≡ true → IsTrue (may_write (class_of map number) k (owned_by b book k)) × ((if covered then false else stale map (sets_of b k) past number) ≡ false)
  cleaned_line number true d = absurd (false≢true d)
  cleaned_line number false d = h.dirty_lines number d

  pub cleaned_kept : (op : DataOp) (address : ℕ) → IsPastKept b map book k (Clean op address ∷ past)
  cleaned_kept op address = record { dirty_lines = λ number d. cleaned_line number (covers (sets_of b k) op address number) d; touched = h.touched }

-- ---- the book and all cores
pub kept_by : (b : Board) (map : AddressMap) (before after : Book) (pasts : List (List Past)) (k : ℕ) (past new : List Past) → IsKept b map before pasts → length pasts ≡ length b.core → slice_get pasts k ≡ Some past → IsPastKept b map after k new → ((j : ℕ) (guard : Guard) → j < length b.core → j ≢ k → owned_by b after j guard ≡ owned_by b before j guard) → IsPosted map after → IsKept b map after (slice_set pasts k new)
kept_by b map before after pasts k past new h lengths found mine others posts = record { cores = each; posted = posts }
  where
    other : (j : ℕ) (p : List Past) → j ≢ k → slice_get pasts j ≡ Some p → IsPastKept b map after j p
    other j p n e = let lt = slice_get_within pasts j p e in same_owner b map before after j p (λ guard. others j guard (omega arith) n) (h.cores j p e)

    each : (j : ℕ) (p : List Past) → slice_get (slice_set pasts k new) j ≡ Some p → IsPastKept b map after j p
    each j p e = elim (cases_eq j k) [
      | inl x ↦ (let z : ◌≡◌ {A = Option (List Past)} (Some new) (Some p) = sym (get-set_same pasts k past new found) ∙ ap (λ (y : ℕ). slice_get (slice_set pasts k new) y) (sym x) ∙ e in let same : new ≡ p = grind arith in rw (x, ← same) mine)
      | inr n ↦ other j p n (sym (get-set_other pasts k j new n) ∙ e)
    ]

-- ---- the start
no_mailbox : (rows : List RegionRow) (r i : ℕ) → get_or (map (λ (row : RegionRow). first_holder row.class) rows) r None ≡ Some (ByMailbox i) → ⊥
no_mailbox [] r i e = absurd (cc)
no_mailbox (row ∷ rows) zero i e = first_not row.class i e
  where
    first_not : (class : RegionClass) (i : ℕ) → first_holder class ≡ Some (ByMailbox i) → ⊥
    first_not given.Code i e = absurd (cc)
    first_not (given.Private core) i e = absurd (cc)
    first_not (given.Mutex mutex) i e = absurd (cc)
    first_not (given.Passed holder mailboxes) i e = let z : ◌≡◌ {A = Holder} (ByCore holder) (ByMailbox i) = grind arith in absurd (cc)
    first_not given.Uncached i e = absurd (cc)
no_mailbox (row ∷ rows) (suc r) i e = no_mailbox rows r i e

none_started : (map' : AddressMap) (rows : List MailboxRow) (i r : ℕ) → is_posted map' (slice_get (map (λ (row : MailboxRow). mailbox.started) rows) i) r → ⊥
none_started map' [] i r m = m
none_started map' (row ∷ rows) zero r m = absurd (false≢true m.0)
none_started map' (row ∷ rows) (suc i) r m = none_started map' rows i r m

no_past : (rows : List CoreRow) (k : ℕ) (past : List Past) → slice_get (map (λ (row : CoreRow). []) rows) k ≡ Some past → past ≡ []
no_past [] k past e = absurd (cc)
no_past (row ∷ rows) zero past e = let z : ◌≡◌ {A = List Past} [] past = grind arith in sym z
no_past (row ∷ rows) (suc k) past e = no_past rows k past e

pub start_kept : (b : Board) (map' : AddressMap) → IsKept b map' (start_book b) (map (λ (row : CoreRow). []) b.core)
start_kept b map' = record {
  cores = λ k past e. rw (no_past b.core k past e) (record { dirty_lines = λ number d. absurd (false≢true d); touched = tt });
  posted = λ i r. (λ e. absurd (no_mailbox b.region r i e), λ m. absurd (none_started map' b.mailbox i r m));
}
