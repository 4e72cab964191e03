-- A watch follows what its core's load or store past the caches changes.
use Rattle.std.proofs.Common.{◌≡◌, ◌≢◌, inl, inr, ℕ, zero, suc, ◌+◌, ◌*◌, ◌/◌, ◌%◌, ◌^◌, ◌<◌, Bool, true, false, not, ◌&&◌, eqb, IsTrue, List, [], ◌∷◌, length, get_or, slice_get, slice_set, Option, Some, None, refl, sym, ap, subst, ◌∙◌, arith}
use Rattle.std.specs.Prelude.{option_map, unwrap_or}
use Rattle.std.proofs.lemmas.Bool.{false≢true, true≢false, eq-eqb, cases_eq}
use Rattle.std.proofs.lemmas.List.{get_or-set_same, get_or-set_other}
use Rattle.std.proofs.Math.ListN.{length-set}
use Rattle.n2_mailbox.specs.Mailbox as mailbox
use Rattle.n2_parts.specs.declared.board.Board.{Board}
use Rattle.n2_parts.specs.declared.board.MailboxRow.{MailboxRow}
use Rattle.n2_board.specs.declared.guards.Guard.{Guard}
use Rattle.n2_board.specs.declared.guards.Guard.TheVariants.{Mutex, Passed}
use Rattle.n2_board.specs.declared.guards.Holder.{Holder}
use Rattle.n2_board.specs.declared.guards.Holder.TheVariants.{ByMailbox}
use Rattle.n2_board.specs.AddressMap.{AddressMap}
use Rattle.n2_board.specs.Guards.{owns_mutex, owns_region, same_guard}
use Rattle.n2_watch.specs.declared.past.Past.{Past}
use Rattle.n2_watch.specs.Book.{Book, owns_if, owned_by, pointer_of, noted, all_noted}
use Rattle.n2_watch.specs.declared.past.Past.TheVariants.{Got}
use Rattle.n2_watch.specs.Table.{Table, slot_of}
use Rattle.n2_watch.specs.Stands.{LinesStand, IsNoted}
use Rattle.n2_watch.specs.Watched.{Watched, StandsFor, IsGuardOf}
use Rattle.n2_watch.specs.Noted.{IsOwnerNoted, IsGuardNoted, IsPointerNoted}
use Rattle.n2_watch.proofs.KeptLists.{get-set_same, get-set_other}
use Rattle.n2_watch.proofs.Owners.{one_guard}
use Rattle.n2_watch.proofs.Again.{forgotten}

-- two guards have two slots
slot_apart : (g h : Guard) → same_guard g h ≡ false → slot_of g ≢ slot_of h
slot_apart (Mutex m) (Mutex n) e x = let z : m ≡ n = omega arith in true≢false (sym (eq-eqb m n z) ∙ e)
slot_apart (Mutex m) (Passed s) e x = omega arith
slot_apart (Passed r) (Mutex n) e x = omega arith
slot_apart (Passed r) (Passed s) e x = let z : r ≡ s = omega arith in true≢false (sym (eq-eqb r s z) ∙ e)

-- a guard is owned from now on
pub owner_got : (guard : Guard) (before after : Bool) (old new : Table) → after ≡ true → before ≡ false → IsNoted old new → ((map : AddressMap) (past : List Past) → LinesStand map old past → LinesStand map new (Got guard ∷ past)) → IsOwnerNoted guard before after old new
owner_got guard false true old new e f n l = record { table = n; lines = l }
owner_got guard false false old new e f n l = absurd (false≢true e)
owner_got guard true after old new e f n l = absurd (true≢false f)

-- no event where nothing changes
noted_same : (guard : Guard) (owned : Bool) (past : List Past) → noted guard owned owned past ≡ past
noted_same guard true past = refl
noted_same guard false past = refl

all_same : (before after : Guard → Bool) → ((guard : Guard) → after guard ≡ before guard) → (touched : List Guard) (past : List Past) → all_noted before after touched past ≡ past
all_same before after e [] past = refl
all_same before after e (guard ∷ guards) past =
    ap (λ (p : List Past). all_noted before after guards p) (ap (λ (x : Bool). noted guard (before guard) x past) (e guard) ∙ noted_same guard (before guard) past)
    ∙ all_same before after e guards past

module _ (b : Board) (map : AddressMap) (k : ℕ) (before after : Book) (past : List Past) where
  abbrev pub OwnPointersStay : Type 0
  OwnPointersStay = (index : ℕ) (row : MailboxRow) → slice_get b.mailbox index ≡ Some row → IsTrue (eqb row.sender k) → pointer_of after index ≡ pointer_of before index

  -- nothing changes for the core
  pub still : (w : Watched) (touched : List Guard) → StandsFor b map k w before past → ((guard : Guard) → owned_by b after k guard ≡ owned_by b before k guard) → OwnPointersStay → StandsFor b map k w after (all_noted (owned_by b before k) (owned_by b after k) touched past)
  still w touched h own points =
      subst (λ (p : List Past). StandsFor b map k w after p) (sym (all_same (owned_by b before k) (owned_by b after k) own touched past))
      (record {
        map_of = h.map_of;
        board = h.board;
        core_is = h.core_is;
        cpuid = h.cpuid;
        sets = h.sets;
        lines = h.lines;
        recorded = h.recorded;
        slots = h.slots;
        registers = h.registers;
        owned = λ guard. h.owned guard ∙ sym (own guard);
        pointers = λ index row e s. h.pointers index row e s ∙ sym (points index row e s);
        again = h.again;
      })

  -- one guard is owned from now on, or no more
  pub follows : (old new : Watched) (guard : Guard) (owns : Bool) → StandsFor b map k old before past → IsGuardOf b guard → (IsGuardOf old.board guard → IsGuardNoted guard owns old new) → ((other : Guard) → same_guard other guard ≡ false → owned_by b after k other ≡ owned_by b before k other) → owned_by b after k guard ≡ owns → OwnPointersStay → StandsFor b map k new after (all_noted (owned_by b before k) (owned_by b after k) (guard ∷ []) past)
  follows old new guard owns h its note others own points = record {
    map_of = h.map_of;
    board = n.board ∙ h.board;
    core_is = n.core_is ∙ h.core_is;
    cpuid = n.cpuid ∙ h.cpuid;
    sets = n.records.table.sets ∙ h.sets;
    lines =
        subst (λ (y : Bool). LinesStand map new.table (noted guard (owned_by b before k guard) y past)) (sym own)
        (subst (λ (x : Bool). LinesStand map new.table (noted guard x owns past)) (h.owned guard) (n.records.lines map past h.lines));
    recorded = λ number m t. n.records.table.lines number (h.recorded number m t);
    slots = λ other o. (let s = h.slots other o in let e = ap (λ (l : List Bool). length l) n.owned ∙ length-set old.owned (slot_of guard) owns in (omega (arith, s.0, e), omega (arith, s.1, n.records.table.slots)));
    registers = λ index m. (let e = ap (λ (p : List ℕ). length p) n.pointers in omega (arith, h.registers index m, e));
    owned = λ other. flag other (same_guard other guard) refl;
    pointers = λ index row e s. ap (λ (p : List ℕ). get_or p index 0) n.pointers ∙ h.pointers index row e s ∙ sym (points index row e s);
    again = forgotten map new _ n.forgotten;
  }
    where
      n : IsGuardNoted guard owns old new
      n = note (subst (λ (x : Board). IsGuardOf x guard) (sym h.board) its)

      flag : (other : Guard) (same : Bool) → same_guard other guard ≡ same → get_or new.owned (slot_of other) false ≡ owned_by b after k other
      flag other true e =
          rw (one_guard other guard e) (ap (λ (l : List Bool). get_or l (slot_of guard) false) n.owned ∙ get_or-set_same old.owned (slot_of guard) owns false (h.slots guard its).0 ∙ sym own)
      flag other false e =
          ap (λ (l : List Bool). get_or l (slot_of other) false) n.owned ∙ get_or-set_other old.owned (slot_of guard) (slot_of other) owns false (slot_apart other guard e) ∙ h.owned other ∙ sym (others other e)

  -- a Pointer register is written
  pub pointed : (old new : Watched) (index value : ℕ) (touched : List Guard) → StandsFor b map k old before past → index < length b.mailbox → IsPointerNoted index value old new → ((guard : Guard) → owned_by b after k guard ≡ owned_by b before k guard) → pointer_of after index ≡ value → ((i : ℕ) → i ≢ index → pointer_of after i ≡ pointer_of before i) → StandsFor b map k new after (all_noted (owned_by b before k) (owned_by b after k) touched past)
  pointed old new index value touched h there n own here elsewhere =
      subst (λ (p : List Past). StandsFor b map k new after p) (sym (all_same (owned_by b before k) (owned_by b after k) own touched past))
      (record {
        map_of = h.map_of;
        board = n.board ∙ h.board;
        core_is = n.core_is ∙ h.core_is;
        cpuid = n.cpuid ∙ h.cpuid;
        sets = rw n.table h.sets;
        lines = rw n.table h.lines;
        recorded = rw n.table h.recorded;
        slots = rw (n.table, n.owned) h.slots;
        registers = λ i m. (let e = ap (λ (p : List ℕ). length p) n.pointers ∙ length-set old.pointers index value in omega (arith, h.registers i m, e));
        owned = λ guard. ap (λ (l : List Bool). get_or l (slot_of guard) false) n.owned ∙ h.owned guard ∙ sym (own guard);
        pointers = λ i row e s. register i row e s;
        again = forgotten map new past n.forgotten;
      })
    where
      register : (i : ℕ) (row : MailboxRow) → slice_get b.mailbox i ≡ Some row → IsTrue (eqb row.sender k) → get_or new.pointers i 0 ≡ pointer_of after i
      register i row e s = elim (cases_eq i index) [
        | inl x ↦ rw x (ap (λ (p : List ℕ). get_or p index 0) n.pointers ∙ get_or-set_same old.pointers index value 0 (h.registers index there) ∙ sym here)
        | inr d ↦ ap (λ (p : List ℕ). get_or p i 0) n.pointers ∙ get_or-set_other old.pointers index i value 0 d ∙ h.pointers i row e s ∙ sym (elsewhere i d)
      ]

-- ---- Pointer registers where the state of a mailbox is another
abbrev register_of : Option mailbox.State → ℕ
register_of o = unwrap_or (option_map (λ (state : mailbox.State). state.pointer) o) 0

module _ (before after : Book) (index : ℕ) (s new : mailbox.State) (there : slice_get before.devices.mailboxes index ≡ Some s) (mailboxes : after.devices.mailboxes ≡ slice_set before.devices.mailboxes index new) where
  pub register_here : pointer_of after index ≡ new.pointer
  register_here = ap (λ (xs : List mailbox.State). register_of (slice_get xs index)) mailboxes ∙ ap (λ (o : Option mailbox.State). register_of o) (get-set_same before.devices.mailboxes index s new there)

  pub register_elsewhere : (i : ℕ) → i ≢ index → pointer_of after i ≡ pointer_of before i
  register_elsewhere i n = ap (λ (xs : List mailbox.State). register_of (slice_get xs i)) mailboxes ∙ ap (λ (o : Option mailbox.State). register_of o) (get-set_other before.devices.mailboxes index i new n)

  pub registers_stay : new.pointer ≡ s.pointer → (i : ℕ) → pointer_of after i ≡ pointer_of before i
  registers_stay e i = elim (cases_eq i index) [
    | inl x ↦ rw x (register_here ∙ e ∙ sym (ap (λ (o : Option mailbox.State). register_of o) there))
    | inr n ↦ register_elsewhere i n
  ]

-- ---- who owns what was written
same_word : (v : ℕ) → v / 65536 * 65536 + v % 65536 ≡ v
same_word v = omega arith

pub written_owner : (v c : ℕ) → v / 2 ^ 16 ≡ c → owns_mutex (v / 2 ^ 16 * 2 ^ 16 + v % 2 ^ 16) c ≡ not (eqb (v % 2 ^ 16) 0)
written_owner v c e = ap (λ (x : ℕ). owns_mutex x c) (same_word v) ∙ ap (λ (t : Bool). t && not (eqb (v % 65536) 0)) (eq-eqb (v / 65536) c e)

pub posted_owner : (holders : List (Option Holder)) (region index k : ℕ) → owns_if (λ holder. owns_region holder k) (get_or (slice_set holders region (Some (ByMailbox index))) region None) ≡ false
posted_owner [] region index k = refl
posted_owner (h ∷ holders) zero index k = refl
posted_owner (h ∷ holders) (suc region) index k = posted_owner holders region index k

pub held_within : (holders : List (Option Holder)) (region k : ℕ) → owns_if (λ holder. owns_region holder k) (get_or holders region None) ≡ true → region < length holders
held_within [] region k e = absurd (false≢true e)
held_within (h ∷ holders) zero k e = omega arith
held_within (h ∷ holders) (suc region) k e = let lt : region < length holders = held_within holders region k e in omega arith
