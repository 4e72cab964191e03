-- What a core keeps of the agreement when it begins or ends to own a guard.
use Rattle.std.proofs.Common.{◌≡◌, ℕ, ◌≤◌, Bool, true, false, ◌||◌, cond, List, [], ◌∷◌, length, Option, refl, ap, sym, ◌∙◌, arith}
use Rattle.n2_parts.specs.declared.board.Board.{Board}
use Rattle.n2_board.specs.declared.classes.Class.{Class}
use Rattle.n2_board.specs.declared.classes.Class.TheVariants.{Code, Private, Mutex, Passed, Uncached, Absent}
use Rattle.n2_board.specs.declared.guards.Guard.{Guard}
use Rattle.n2_board.specs.declared.guards.Guard.TheVariants as guard_kinds
use Rattle.n2_board.specs.AddressMap.{AddressMap, class_of}
use Rattle.n2_board.specs.Guards.{same_guard, guard_of}
use Rattle.n2_dcache.specs.declared.Held.{Held}
use Rattle.n2_memory.specs.Memories.{Contents, line_at}
use Rattle.std.proofs.lemmas.Bool.Decides.{nat_tests}
use Rattle.n2_watch.specs.declared.past.Past.{Past}
use Rattle.n2_watch.specs.Past.{may, stale, guards, is_guard}
use Rattle.n2_watch.specs.Book.{noted, all_noted}
use Rattle.n2_watch.proofs.KeptDevices.{among}
use Rattle.n2_runs.specs.Agree.{may_read}
use Rattle.n2_runs.proofs.Rights.{read-like}
use Rattle.n2_runs.specs.Along.{IsSlotWell, IsOwnWell}
use Rattle.n2_runs.proofs.Solo.{IsSolo, own_frame}

one_guard : (g h : Guard) → same_guard g h ≡ true → g ≡ h
one_guard (guard_kinds.Mutex m) (guard_kinds.Mutex n) e = let i : m ≡ n = grind (arith, nat_tests) in ap (λ (x : ℕ). guard_kinds.Mutex x) i
one_guard (guard_kinds.Mutex m) (guard_kinds.Passed r) e = absurd (cc)
one_guard (guard_kinds.Passed r) (guard_kinds.Mutex m) e = absurd (cc)
one_guard (guard_kinds.Passed r) (guard_kinds.Passed s) e = let i : r ≡ s = grind (arith, nat_tests) in ap (λ (x : ℕ). guard_kinds.Passed x) i

or_false : (x : Bool) → x ≡ false → (x || false) ≡ false
or_false true e = e
or_false false e = refl

module _ (k : ℕ) (own own' : Guard → Bool) (g : Guard) (rest : (h : Guard) → same_guard h g ≡ false → own' h ≡ own h) where
  -- a line of another guard, or of none
  read_but : (c : Class) → is_guard (guard_of c) g ≡ false → may_read c k own' ≡ may_read c k own
  read_but Code n = refl
  read_but (Private j) n = refl
  read_but (Mutex m) n = rest (guard_kinds.Mutex m) n
  read_but (Passed r) n = rest (guard_kinds.Passed r) n
  read_but Uncached n = refl
  read_but Absent n = refl

  -- a line of the guard
  read_of : (c : Class) (o : Guard → Bool) → is_guard (guard_of c) g ≡ true → may_read c k o ≡ o g
  read_of Code o n = absurd (cc)
  read_of (Private j) o n = absurd (cc)
  read_of (Mutex m) o n = ap o (one_guard (guard_kinds.Mutex m) g n)
  read_of (Passed r) o n = ap o (one_guard (guard_kinds.Passed r) g n)
  read_of Uncached o n = absurd (cc)
  read_of Absent o n = absurd (cc)

  all_same : own' g ≡ own g → (h : Guard) → own' h ≡ own h
  all_same e h = at (same_guard h g) refl
    where
      at : (x : Bool) → same_guard h g ≡ x → own' h ≡ own h
      at true n = ap own' (one_guard h g n) ∙ e ∙ sym (ap own (one_guard h g n))
      at false n = rest h n

  gave_read : own' g ≡ false → (c : Class) (x : Bool) → is_guard (guard_of c) g ≡ x → may_read c k own' ≡ true → may_read c k own ≡ true
  gave_read q c true i r = let z = read_of c own' i in absurd (cc)
  gave_read q c false i r = sym (read_but c i) ∙ r

  module _ (b : Board) (map : AddressMap) (sets : ℕ) (flat : Contents) where
    got_words : (past : List Past) (s : ℕ) (e : Held) (x : Bool) → guards map g e.line ≡ x → IsSlotWell b map own flat k sets past s e → may_read (class_of map e.line) k own' ≡ true → cond x (may sets past e.line) (stale map sets past e.line) ≡ false → e.words ≡ line_at flat e.line
    got_words past s e true i h r d = let z = h.may_be in absurd (cc)
    got_words past s e false i h r d = h.words (sym (read_but (class_of map e.line) i) ∙ r) d

    one_noted : (slots : List (Option Held)) (past : List Past) (x y : Bool) → own g ≡ x → own' g ≡ y → IsOwnWell b map own flat k sets slots past → IsOwnWell b map own' flat k sets slots (noted g x y past)
    one_noted slots past true true p q h = own_frame b map own own' flat flat k sets slots past (λ l i r. (sym (read-like (class_of map l) k own own' (all_same (q ∙ sym p))) ∙ r, refl)) h
    one_noted slots past false false p q h = own_frame b map own own' flat flat k sets slots past (λ l i r. (sym (read-like (class_of map l) k own own' (all_same (q ∙ sym p))) ∙ r, refl)) h
    one_noted slots past true false p q h = record {
      sets_are = h.sets_are;
      held = λ s e i. let w = h.held s e i in record { place = w.place; inside = w.inside; words = λ r d. w.words (gave_read q (class_of map e.line) (is_guard (guard_of (class_of map e.line)) g) refl r) d; may_be = w.may_be; dirty_is = w.dirty_is };
    }
    one_noted slots past false true p q h = record {
      sets_are = h.sets_are;
      held = λ s e i. let w = h.held s e i in record { place = w.place; inside = w.inside; words = λ r d. got_words past s e (guards map g e.line) refl w r d; may_be = w.may_be; dirty_is = w.dirty_is };
    }

-- ownership changes at most for one of some guards
pub own_keeps : (b : Board) (map : AddressMap) (k sets : ℕ) (others : ℕ → Type 0) (own own' : Guard → Bool) (mem flat : Contents) (slots : List (Option Held)) (past : List Past) (touched : List Guard) → length touched ≤ 1 → ((g : Guard) → among g touched ≡ false → own' g ≡ own g) → IsSolo b map k sets others own mem flat slots past → IsSolo b map k sets others own' mem flat slots (all_noted own own' touched past)
own_keeps b map k sets others own own' mem flat slots past [] few mine h = record {
  core = own_frame b map own own' flat flat k sets slots past (λ l i r. (sym (read-like (class_of map l) k own own' (λ g. mine g refl)) ∙ r, refl)) h.core;
  mem_of = h.mem_of;
  flat_of = h.flat_of;
  memory = h.memory;
}
own_keeps b map k sets others own own' mem flat slots past (g ∷ []) few mine h = record {
  core = one_noted k own own' g (λ x n. mine x (or_false (same_guard x g) n)) b map sets flat slots past (own g) (own' g) refl refl h.core;
  mem_of = h.mem_of;
  flat_of = h.flat_of;
  memory = h.memory;
}
own_keeps b map k sets others own own' mem flat slots past (g ∷ x ∷ touched) few mine h = absurd (omega arith)
