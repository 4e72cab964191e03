-- What a core owns at the start, and the Pointer registers then.
use Rattle.std.proofs.Common.{◌≡◌, ◌≢◌, ℕ, zero, suc, ◌+◌, ◌*◌, ◌/◌, ◌^◌, ◌<◌, ◌≤◌, List, [], ◌∷◌, length, map, get_or, replicate, Bool, true, false, ◌&&◌, ◌==◌, Option, None, refl, sym, ◌∙◌, ap, subst, arith}
use Rattle.std.specs.Prelude.{IsTrue, Some, slice_get, slice_set, unwrap_or, option_map}
use Rattle.std.specs.Int.{is_power_of_two}
use Rattle.n2_word.specs.Lines.{is_cache_size}
use Rattle.std.proofs.lemmas.List.{get_or-set_other, get_or_past, get_or-map, length-map}
use Rattle.n2_mutex.specs.Mutex as mutex
use Rattle.n2_mailbox.specs.Mailbox as mailbox
use Rattle.n2_parts.specs.declared.board.Board.{Board}
use Rattle.n2_parts.specs.declared.board.MutexRow.{MutexRow}
use Rattle.n2_parts.specs.declared.board.CoreRow.{CoreRow}
use Rattle.n2_parts.specs.MemoryLines.{HasLine}
use Rattle.n2_parts.specs.Valid.{IsSmall}
use Rattle.n2_parts.specs.declared.board.MailboxRow.{MailboxRow}
use Rattle.n2_parts.specs.declared.board.RegionRow.{RegionRow}
use Rattle.n2_board.specs.declared.guards.Guard.{Guard}
use Rattle.n2_board.specs.declared.guards.Guard.TheVariants.{Mutex, Passed}
use Rattle.n2_board.specs.declared.guards.Holder.{Holder}
use Rattle.n2_board.specs.AddressMap.{AddressMap, class_of}
use Rattle.n2_watch.specs.declared.records.Record.{Record}
use Rattle.n2_watch.specs.declared.runs.Run.{Run}
use Rattle.n2_watch.specs.Book.{first_holder, start_book, owns_state, owned_by, pointer_of, cpuid_of, sets_of}
use Rattle.n2_watch.specs.Table.{Table, slot_of, opened_table}
use Rattle.n2_watch.specs.Stands.{AreBuilt, IsRecorded, LinesStand}
use Rattle.n2_watch.specs.Watched.{Watched, IsMapOf, IsGuardOf, StandsFor, is_touchable, none_touched}
use Rattle.n2_watch.specs.Opened.{slot_count, is_held, is_held_first}
use Rattle.n2_watch.proofs.KeptLists.{element_at}
use Rattle.n2_word.proofs.Masks.{power_of_sets}
use Rattle.n2_watch.proofs.Again.{forgotten}
use Rattle.n2_watch.proofs.Starting.{start_stands, zeros, nothing_cleaned, length_zeros}

-- ---- flags by slots

pub none_owned : (n k : ℕ) → get_or (replicate n false) k false ≡ false
none_owned zero k = refl
none_owned (suc n) zero = refl
none_owned (suc n) (suc k) = none_owned n k

-- a flag of a region is set beside the flags of mutexes and of other regions
pub beside_mutex : (owned : List Bool) (i m : ℕ) (held : Bool) → get_or (slice_set owned (2 * i + 2) held) (2 * m + 1) false ≡ get_or owned (2 * m + 1) false
beside_mutex owned i m held = get_or-set_other owned (2 * i + 2) (2 * m + 1) held false (omega arith)

pub beside_region : (owned : List Bool) (i r : ℕ) (held : Bool) → r ≢ i → get_or (slice_set owned (2 * i + 2) held) (2 * r + 2) false ≡ get_or owned (2 * r + 2) false
beside_region owned i r held n = get_or-set_other owned (2 * i + 2) (2 * r + 2) held false (omega arith)

pub held_at : (core : ℕ) (regions : List RegionRow) (i : ℕ) (row : RegionRow) → i < length regions → row ≡ get_or regions i row → is_held core (first_holder row.class) ≡ is_held_first core regions i
held_at core regions i row within e =
    let at : get_or (map (λ (r : RegionRow). first_holder r.class) regions) i None ≡ first_holder (get_or regions i row).class = get_or-map (λ (r : RegionRow). first_holder r.class) regions i row None within in
    ap (λ (r : RegionRow). is_held core (first_holder r.class)) e ∙ sym (ap (λ (h : Option Holder). is_held core h) at)

pub past_regions : (core : ℕ) (regions : List RegionRow) (r : ℕ) → length regions ≤ r → is_held_first core regions r ≡ false
past_regions core regions r past =
    let none : get_or (map (λ (row : RegionRow). first_holder row.class) regions) r None ≡ None = get_or_past (map (λ (row : RegionRow). first_holder row.class) regions) r None (omega (arith, length-map regions (λ (row : RegionRow). first_holder row.class))) in
    ap (λ (h : Option Holder). is_held core h) none

-- ---- the book at the start

and_false : (a : Bool) → (a && false) ≡ false
and_false true = refl
and_false false = refl

free_mutex : (rows : List MutexRow) (cpuid m : ℕ) → owns_state cpuid (slice_get (map (λ (row : MutexRow). mutex.started) rows) m) ≡ false
free_mutex [] cpuid m = refl
free_mutex (row ∷ rows) cpuid zero = and_false (mutex.value_of mutex.started 0 / 2 ^ 16 == cpuid)
free_mutex (row ∷ rows) cpuid (suc m) = free_mutex rows cpuid m

pub owned_at_start : (b : Board) (core : ℕ) (owned : List Bool) → ((m : ℕ) → get_or owned (2 * m + 1) false ≡ false) → ((r : ℕ) → get_or owned (2 * r + 2) false ≡ is_held_first core b.region r) → (guard : Guard) → get_or owned (slot_of guard) false ≡ owned_by b (start_book b) core guard
owned_at_start b core owned mutexes regions (Mutex m) = mutexes m ∙ sym (free_mutex b.mutex (cpuid_of b core) m)
owned_at_start b core owned mutexes regions (Passed r) = regions r

no_pointer : (rows : List MailboxRow) (i : ℕ) → unwrap_or (option_map (λ (state : mailbox.State). state.pointer) (slice_get (map (λ (row : MailboxRow). mailbox.started) rows) i)) 0 ≡ 0
no_pointer [] i = refl
no_pointer (row ∷ rows) zero = refl
no_pointer (row ∷ rows) (suc i) = no_pointer rows i

pub pointer_at_start : (b : Board) (i : ℕ) → pointer_of (start_book b) i ≡ 0
pointer_at_start b i = no_pointer b.mailbox i

-- ---- the watch at the start

sets_is : (b : Board) (k : ℕ) (row : CoreRow) → slice_get b.core k ≡ Some row → sets_of b k ≡ row.dcache / 32
sets_is b k row e = rw e refl

-- the data cache of a core of a valid board has a power of two of sets
pub sets_fit : (b : Board) (core : ℕ) → core < length b.core → ((i : ℕ) (row : CoreRow) → slice_get b.core i ≡ Some row → IsTrue (is_cache_size row.dcache) × IsTrue (is_cache_size row.icache)) → IsTrue (is_power_of_two (sets_of b core)) × (0 < sets_of b core)
sets_fit b core within caches =
    let x = element_at b.core core within in
    let fits = power_of_sets x.0.dcache (caches core x.0 x.1).0 in
    subst (λ (n : ℕ). IsTrue (is_power_of_two n) × (0 < n)) (sym (sets_is b core x.0 x.1)) fits

small_slot : (b : Board) → IsSmall b → (guard : Guard) → IsGuardOf b guard → slot_of guard < slot_count
small_slot b small (Mutex m) h = omega (arith, h, small.mutex)
small_slot b small (Passed r) h = omega (arith, h, small.region)

-- what a watch is opened with
pub record IsOpened (b : Board) (map' : AddressMap) (core : ℕ) (w : Watched) (runs : List Run) (records : List Record) (bound sets : ℕ) : Type 0 where
  pub map_of : IsMapOf b map'
  pub small : IsSmall b
  pub board : w.board ≡ b
  pub core_is : w.core ≡ core
  pub cpuid : w.cpuid ≡ cpuid_of b core
  pub sets_are : sets ≡ sets_of b core
  pub some : 0 < sets
  pub built : AreBuilt map' runs records bound
  pub table : w.table ≡ opened_table runs records sets slot_count
  pub recorded : (number : ℕ) → HasLine b.memory number → IsTrue (is_touchable core (class_of map' number)) → IsRecorded records number
  pub slots : length w.owned ≡ slot_count
  pub mutexes : (m : ℕ) → get_or w.owned (2 * m + 1) false ≡ false
  pub regions : (r : ℕ) → get_or w.owned (2 * r + 2) false ≡ is_held_first core b.region r
  pub pointers : w.pointers ≡ zeros (length b.mailbox)
  pub forgotten : w.touched ≡ none_touched

pub opened_stands : (b : Board) (map' : AddressMap) (core : ℕ) (w : Watched) (runs : List Run) (records : List Record) (bound sets : ℕ) → IsOpened b map' core w runs records bound sets → StandsFor b map' core w (start_book b) []
opened_stands b map' core w runs records bound sets o = record {
  map_of = o.map_of;
  board = o.board;
  core_is = o.core_is;
  cpuid = o.cpuid;
  sets = ap (λ (t : Table). length t.cleaned) o.table ∙ length_zeros sets ∙ o.sets_are;
  lines = subst (λ (t : Table). LinesStand map' t []) (sym o.table) (start_stands map' runs records bound sets slot_count o.some o.built);
  recorded = λ number h t. subst (λ (t : Table). IsRecorded t.records number) (sym o.table) (o.recorded number h t);
  slots = λ guard h. (let e : length w.table.got ≡ slot_count = ap (λ (t : Table). length t.got) o.table ∙ length_zeros slot_count in let s = small_slot b o.small guard h in (subst (λ (n : ℕ). slot_of guard < n) (sym o.slots) s, subst (λ (n : ℕ). slot_of guard < n) (sym e) s));
  registers = λ index m. (let e = ap (λ (p : List ℕ). length p) o.pointers ∙ length_zeros (length b.mailbox) in omega (arith, e));
  owned = owned_at_start b core w.owned o.mutexes o.regions;
  pointers = λ i row e s. ap (λ (p : List ℕ). get_or p i 0) o.pointers ∙ nothing_cleaned (length b.mailbox) i ∙ sym (pointer_at_start b i);
  again = forgotten map' w [] o.forgotten;
}
