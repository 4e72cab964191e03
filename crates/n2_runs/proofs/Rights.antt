-- Who may use a line, and what the discipline lets through.
use Rattle.std.proofs.Common.{◌≡◌, ◌⊎◌, inl, inr, ℕ, Bool, true, false, ◌||◌, cond, List, Option, Some, None, Result, Ok, Err, refl, sym, ap, ◌∙◌, arith}
use Rattle.std.proofs.lemmas.Bool.Decides.{nat_tests}
use Rattle.n2_word.specs.declared.Width.{Width}
use Rattle.n2_word.specs.declared.Width.TheVariants.{Byte, Half, Word}
use Rattle.n2_word.specs.Lines.{line, without_bypass}
use Rattle.n2_elf.specs.declared.image.Image.{Image}
use Rattle.n2_parts.specs.declared.board.Board.{Board}
use Rattle.n2_parts.specs.declared.board.Part.{Part}
use Rattle.n2_parts.specs.MemoryLines.{HasLine}
use Rattle.n2_parts.specs.Valid.{IsValid}
use Rattle.n2_board.specs.declared.classes.Class.{Class}
use Rattle.n2_board.specs.declared.classes.Class.TheVariants.{Code, Private, Mutex, Passed, Uncached, Absent}
use Rattle.n2_board.specs.declared.places.Place.{Place}
use Rattle.n2_board.specs.declared.places.Place.TheVariants as places
use Rattle.n2_board.specs.declared.access.Target.{Target}
use Rattle.n2_board.specs.declared.access.Target.TheVariants as targets
use Rattle.n2_board.specs.declared.access.Violation.{Violation}
use Rattle.n2_board.specs.declared.access.Route.TheVariants.{Cached, Bypassing}
use Rattle.n2_board.specs.declared.guards.Guard.{Guard}
use Rattle.n2_board.specs.declared.guards.Guard.TheVariants as guard_kinds
use Rattle.n2_board.specs.AddressMap.{AddressMap, address_map, class_of, place}
use Rattle.n2_board.specs.Access.{allows, target_at, memory_target, data_target, fetch_violation}
use Rattle.n2_board.specs.Guards.{guard_of}
use Rattle.n2_board.specs.Places.{places_of, place_in}
use Rattle.n2_board.proofs.Reached.{data_line, fetch_line}
use Rattle.n2_watch.specs.declared.past.Past.{Past}
use Rattle.n2_watch.specs.declared.access.Access.TheVariants as accesses
use Rattle.n2_watch.specs.Past.{stale}
use Rattle.n2_parts.specs.declared.stops.Kind.TheVariants as Kinds
use Rattle.n2_watch.specs.Discipline.{Knowledge, Breach, breach, direction, if_stale, line_breach, cached_breach, bypass_breach}
use Rattle.n2_watch.specs.Book.{Book, knowledge, owned_by, sets_of}
use Rattle.n2_watch.specs.Kept.{may_write}
use Rattle.n2_runs.specs.Agree.{is_code, may_read}

pub not_true : (x : Bool) → (x ≡ true → ⊥) → x ≡ false
not_true true h = absurd (h refl)
not_true false h = refl

or_right : (x y : Bool) → y ≡ true → (x || y) ≡ true
or_right true y h = refl
or_right false y h = h

-- ---- classes
pub write-read : (c : Class) (k : ℕ) (own : Guard → Bool) → may_write c k own ≡ true → may_read c k own ≡ true
write-read c k own h = or_right (is_code c) (may_write c k own) h

pub code-write : (c : Class) (k : ℕ) (own : Guard → Bool) → is_code c ≡ true → may_write c k own ≡ false
code-write Code k own h = refl
code-write (Private j) k own h = absurd (cc)
code-write (Mutex m) k own h = absurd (cc)
code-write (Passed r) k own h = absurd (cc)
code-write Uncached k own h = absurd (cc)
code-write Absent k own h = absurd (cc)

pub code-read : (c : Class) (k : ℕ) (own : Guard → Bool) → is_code c ≡ true → may_read c k own ≡ true
code-read c k own h = or_left (is_code c) (may_write c k own) h
  where
    or_left : (x y : Bool) → x ≡ true → (x || y) ≡ true
    or_left true y h = refl
    or_left false y h = absurd (cc)

pub is_uncached : Class → Bool
is_uncached Uncached = true
is_uncached _ = false

pub uncached-write : (c : Class) (k : ℕ) (own : Guard → Bool) → is_uncached c ≡ true → may_write c k own ≡ false
unfolding is_uncached
uncached-write Uncached k own h = refl
uncached-write Code k own h = absurd (cc)
uncached-write (Private j) k own h = absurd (cc)
uncached-write (Mutex m) k own h = absurd (cc)
uncached-write (Passed r) k own h = absurd (cc)
uncached-write Absent k own h = absurd (cc)

pub uncached-read : (c : Class) (k : ℕ) (own : Guard → Bool) → is_uncached c ≡ true → may_read c k own ≡ false
unfolding is_uncached
uncached-read Uncached k own h = refl
uncached-read Code k own h = absurd (cc)
uncached-read (Private j) k own h = absurd (cc)
uncached-read (Mutex m) k own h = absurd (cc)
uncached-read (Passed r) k own h = absurd (cc)
uncached-read Absent k own h = absurd (cc)

-- who may read a line is alone if another may write it
pub exclusive : (c : Class) (j k : ℕ) (mine own : Guard → Bool) → ((g : Guard) → mine g ≡ true → own g ≡ true → j ≡ k) → may_read c j mine ≡ true → may_write c k own ≡ true → j ≡ k
exclusive Code j k mine own one a h = absurd (cc)
exclusive (Private i) j k mine own one a h = let p : i ≡ j = grind (arith, nat_tests) in let q : i ≡ k = grind (arith, nat_tests) in sym p ∙ q
exclusive (Mutex m) j k mine own one a h = one (guard_kinds.Mutex m) a h
exclusive (Passed r) j k mine own one a h = one (guard_kinds.Passed r) a h
exclusive Uncached j k mine own one a h = absurd (cc)
exclusive Absent j k mine own one a h = absurd (cc)

-- rights are what is owned
pub write-like : (c : Class) (k : ℕ) (own own' : Guard → Bool) → ((g : Guard) → own' g ≡ own g) → may_write c k own' ≡ may_write c k own
write-like Code k own own' h = refl
write-like (Private j) k own own' h = refl
write-like (Mutex m) k own own' h = h (guard_kinds.Mutex m)
write-like (Passed r) k own own' h = h (guard_kinds.Passed r)
write-like Uncached k own own' h = refl
write-like Absent k own own' h = refl

pub read-like : (c : Class) (k : ℕ) (own own' : Guard → Bool) → ((g : Guard) → own' g ≡ own g) → may_read c k own' ≡ may_read c k own
read-like c k own own' h = ap (λ x. is_code c || x) (write-like c k own own' h)

-- ---- what the layout says of lines
pub record IsLaidOut (b : Board) (map : AddressMap) : Type 0 where
  pub cached : (core address : ℕ) (width : Width) (store : Bool) → data_target map core address width Cached (direction store) ≡ Ok targets.Memory → HasLine b.memory (line address)
  pub past : (core address : ℕ) (width : Width) (store : Bool) → data_target map core address width Bypassing (direction store) ≡ Ok targets.Memory → HasLine b.memory (line address)
  pub places_are : (address : ℕ) → place map address ≡ place_in (places_of b) address
  pub fetch : (address : ℕ) → fetch_violation map address ≡ None → HasLine b.memory (line address) × (class_of map (line address) ≡ Code)

pub laid_out : (b : Board) (images : List Image) (map : AddressMap) → IsValid b → map ≡ address_map b images → IsLaidOut b map
unfolding address_map
laid_out b images map valid is = rw is (record {
  places_are = λ address. refl;
  cached = λ core address width store e. data_line b images valid core address width Cached (direction store) e;
  past = λ core address width store e. data_line b images valid core address width Bypassing (direction store) e;
  fetch = λ address e. fetch_line b images valid address e;
})

-- ---- a cached access that breaks nothing
pub record Passes (b : Board) (map : AddressMap) (own : Guard → Bool) (k sets : ℕ) (past : List Past) (l : ℕ) (store : Bool) : Type 0 where
  pub here : HasLine b.memory l
  pub has_read : may_read (class_of map l) k own ≡ true
  pub fresh : stale map sets past l ≡ false
  pub has_write : store ≡ true → may_write (class_of map l) k own ≡ true

fresh_is : (map : AddressMap) (who : Knowledge) (l : ℕ) → if_stale map who l ≡ None → stale map who.sets who.past l ≡ false
fresh_is map who l e = at (stale map who.sets who.past l) e
  where
    at : (x : Bool) → ◌≡◌ {A = Option Breach} (cond x (Some (Breach.Breaks Kinds.Invalidate l)) None) None → x ≡ false
    at true e = absurd (cc)
    at false e = refl

guarded_is : (map : AddressMap) (who : Knowledge) (g : Guard) (l : ℕ) → line_breach map who (Some g) l ≡ None → (who.owns g ≡ true) × (stale map who.sets who.past l ≡ false)
guarded_is map who g l e = at (who.owns g) refl e
  where
    at : (x : Bool) → who.owns g ≡ x → cond x (if_stale map who l) (Some (Breach.Breaks Kinds.Lock l)) ≡ None → (who.owns g ≡ true) × (stale map who.sets who.past l ≡ false)
    at true q e = (q, fresh_is map who l e)
    at false q e = absurd (cc)

line_passes : (map : AddressMap) (who : Knowledge) (c : Class) (l : ℕ) (store : Bool) → allows c who.core Cached (direction store) ≡ true → line_breach map who (guard_of c) l ≡ None → (may_read c who.core who.owns ≡ true) × (stale map who.sets who.past l ≡ false) × (store ≡ true → may_write c who.core who.owns ≡ true)
line_passes map who Code l true a e = absurd (cc)
line_passes map who Code l false a e = (refl, fresh_is map who l e, λ s. absurd (cc))
line_passes map who (Private j) l store a e = (a, fresh_is map who l e, λ s. a)
line_passes map who (Mutex m) l store a e = let g = guarded_is map who (guard_kinds.Mutex m) l e in (g.0, g.1, λ s. g.0)
line_passes map who (Passed r) l store a e = let g = guarded_is map who (guard_kinds.Passed r) l e in (g.0, g.1, λ s. g.0)
line_passes map who Uncached l store a e = absurd (cc)
line_passes map who Absent l store a e = absurd (cc)

memory_allowed : (x : Bool) → memory_target x ≡ Ok targets.Memory → x ≡ true
memory_allowed true e = refl
memory_allowed false e = absurd (cc)

target_allowed : (there : Place) (c : Class) (k : ℕ) (width : Width) (store : Bool) → target_at there c k width Cached (direction store) ≡ Ok targets.Memory → allows c k Cached (direction store) ≡ true
target_allowed places.Memory c k width store e = memory_allowed (allows c k Cached (direction store)) e
target_allowed (places.Device part offset) c k Byte store e = absurd (cc)
target_allowed (places.Device part offset) c k Half store e = absurd (cc)
target_allowed (places.Device part offset) c k Word store e = absurd (cc)
target_allowed places.Nothing c k width store e = absurd (cc)

-- what a cached access reaches is memory
not_device : (there : Place) (c : Class) (k : ℕ) (width : Width) (store : Bool) (part : Part) (offset : ℕ) → target_at there c k width Cached (direction store) ≡ Ok (targets.Device part offset) → ⊥
not_device places.Memory c k width store part offset e = at (allows c k Cached (direction store)) e
  where
    at : (x : Bool) → memory_target x ≡ Ok (targets.Device part offset) → ⊥
    at true e = cc
    at false e = cc
not_device (places.Device p o) c k Byte store part offset e = cc
not_device (places.Device p o) c k Half store part offset e = cc
not_device (places.Device p o) c k Word store part offset e = cc
not_device places.Nothing c k width store part offset e = cc

pub passes : (b : Board) (map : AddressMap) (book : Book) (k : ℕ) (past : List Past) (address : ℕ) (store : Bool) (width : Width) → IsLaidOut b map → breach b map (knowledge b book k past) (accesses.Cached address store) width ≡ None → Passes b map (owned_by b book k) k (sets_of b k) past (line address) store
unfolding breach data_target
passes b map book k past address store width laid e = at (data_target map k address width Cached (direction store)) refl e
  where
    at : (t : Result Target Violation) → data_target map k address width Cached (direction store) ≡ t → cached_breach map (knowledge b book k past) t (line address) ≡ None → Passes b map (owned_by b book k) k (sets_of b k) past (line address) store
    at (Err wrong) is e = absurd (cc)
    at (Ok (targets.Device part offset)) is e = absurd (not_device (place map (without_bypass address)) (class_of map (line address)) k width store part offset is)
    at (Ok targets.Memory) is e =
        let p = line_passes map (knowledge b book k past) (class_of map (line address)) (line address) store (target_allowed (place map (without_bypass address)) (class_of map (line address)) k width store is) e in
        record { here = laid.cached k address width store is; has_read = p.0; fresh = p.1; has_write = p.2 }

-- ---- an access past the caches that breaks nothing: of memory, or of a device
allows_store : (c : Class) (k : ℕ) → allows c k Bypassing (direction true) ≡ true → is_uncached c ≡ true
unfolding is_uncached
allows_store Code k e = absurd (cc)
allows_store (Private j) k e = absurd (cc)
allows_store (Mutex m) k e = absurd (cc)
allows_store (Passed r) k e = absurd (cc)
allows_store Uncached k e = refl
allows_store Absent k e = absurd (cc)

allows_load : (c : Class) (k : ℕ) → allows c k Bypassing (direction false) ≡ true → (is_uncached c ≡ true) ⊎ (is_code c ≡ true)
unfolding is_uncached
allows_load Code k e = inr refl
allows_load (Private j) k e = absurd (cc)
allows_load (Mutex m) k e = absurd (cc)
allows_load (Passed r) k e = absurd (cc)
allows_load Uncached k e = inl refl
allows_load Absent k e = absurd (cc)

pub data Reached (b : Board) (map : AddressMap) (k address : ℕ) (store : Bool) : Type 0 where
  InMemory : place map (without_bypass address) ≡ places.Memory → HasLine b.memory (line address) → allows (class_of map (line address)) k Bypassing (direction store) ≡ true → Reached b map k address store
  AtDevice : (part : Part) (offset : ℕ) → place map (without_bypass address) ≡ places.Device part offset → Reached b map k address store

pub reached : (b : Board) (map : AddressMap) (book : Book) (k : ℕ) (past : List Past) (address : ℕ) (store : Bool) (value : ℕ) (width : Width) → IsLaidOut b map → breach b map (knowledge b book k past) (accesses.Bypass address store value) width ≡ None → Reached b map k address store
unfolding breach data_target
reached b map book k past address store value width laid e = at (place map (without_bypass address)) refl e
  where
    memory_at : place map (without_bypass address) ≡ places.Memory → (x : Bool) → allows (class_of map (line address)) k Bypassing (direction store) ≡ x → bypass_breach b map (knowledge b book k past) (memory_target x) store value (line address) ≡ None → Reached b map k address store
    memory_at is true a e = InMemory is (laid.past k address width store (ap (λ t. target_at t (class_of map (line address)) k width Bypassing (direction store)) is ∙ ap memory_target a)) a
    memory_at is false a e = absurd (cc)

    at : (t : Place) → place map (without_bypass address) ≡ t → bypass_breach b map (knowledge b book k past) (target_at t (class_of map (line address)) k width Bypassing (direction store)) store value (line address) ≡ None → Reached b map k address store
    at places.Memory is e = memory_at is (allows (class_of map (line address)) k Bypassing (direction store)) refl e
    at (places.Device part offset) is e = AtDevice part offset is
    at places.Nothing is e = absurd (cc)

pub stored_past : (c : Class) (k : ℕ) → allows c k Bypassing (direction true) ≡ true → is_uncached c ≡ true
stored_past c k e = allows_store c k e

pub loaded_past : (c : Class) (k : ℕ) → allows c k Bypassing (direction false) ≡ true → (is_uncached c ≡ true) ⊎ (is_code c ≡ true)
loaded_past c k e = allows_load c k e
