-- What a note keeps of a watch.
use Rattle.std.proofs.Common.{◌≡◌, ℕ, ◌^◌, ◌<◌, Bool, true, false, List, ◌∷◌, length, get_or, None, Result, Ok, Err, refl, ap, ◌∙◌, subst, arith}
use Rattle.n2_word.specs.declared.Width.{Width}
use Rattle.n2_word.specs.Lines.{line, without_bypass}
use Rattle.n2_parts.specs.declared.board.Board.{Board}
use Rattle.n2_board.specs.declared.access.Target.{Target}
use Rattle.n2_board.specs.declared.access.Target.TheVariants as targets
use Rattle.n2_board.specs.declared.access.Violation.{Violation}
use Rattle.n2_board.specs.declared.access.Violation.TheVariants.{Stray, Separate}
use Rattle.n2_board.specs.declared.access.Route.TheVariants.{Cached}
use Rattle.n2_board.specs.declared.access.Direction.{Direction}
use Rattle.n2_board.specs.declared.classes.Class.{Class}
use Rattle.n2_board.specs.declared.classes.Class.TheVariants as classes
use Rattle.n2_board.specs.declared.places.Place.{Place}
use Rattle.n2_board.specs.declared.places.Place.TheVariants.{Memory, Device, Nothing}
use Rattle.n2_word.specs.declared.Width.TheVariants.{Byte, Half, Word}
use Rattle.n2_board.specs.AddressMap.{AddressMap, class_of, place}
use Rattle.n2_board.specs.Access.{data_target, target_at, memory_target, allows}
use Rattle.n2_insn.specs.declared.DataOp.{DataOp}
use Rattle.n2_watch.specs.declared.past.Past.{Past}
use Rattle.n2_watch.specs.declared.past.Past.TheVariants.{Touch, Clean}
use Rattle.n2_watch.specs.declared.notes.Done.{Done}
use Rattle.n2_watch.specs.declared.notes.Done.TheVariants.{Touched, Cleaned}
use Rattle.n2_watch.specs.declared.access.Access.TheVariants as accesses
use Rattle.n2_watch.specs.Book.{Book, knowledge}
use Rattle.n2_watch.specs.Discipline.{Knowledge, direction, cached_breach, breach}
use Rattle.n2_watch.specs.Table.{Table, slot_of}
use Rattle.n2_watch.specs.Stands.{LinesStand, IsNoted}
use Rattle.n2_watch.specs.Watched.{Watched, StandsFor, IsWatchNoted, PassesAgain, is_again, is_touchable}

-- a watch whose table alone changed stands for what its new table stands for
pub noted_stands : (b : Board) (map : AddressMap) (core : ℕ) (old new : Watched) (book : Book) (past after : List Past) → StandsFor b map core old book past → IsWatchNoted old new → LinesStand map new.table after → ((number : ℕ) (store : Bool) → is_again new number store ≡ true → PassesAgain map new after number store) → StandsFor b map core new book after
noted_stands b map core old new book past after h n l again = record {
  map_of = h.map_of;
  board = n.board ∙ h.board;
  core_is = n.core_is ∙ h.core_is;
  cpuid = n.cpuid ∙ h.cpuid;
  sets = n.table.sets ∙ h.sets;
  lines = l;
  recorded = λ number m t. n.table.lines number (h.recorded number m t);
  slots = λ guard g. (let s = h.slots guard g in let e = ap (λ (o : List Bool). length o) n.owned in (omega (arith, s.0, e), omega (arith, s.1, n.table.slots)));
  registers = λ index m. (let e = ap (λ (p : List ℕ). length p) n.pointers in omega (arith, h.registers index m, e));
  owned = λ guard. ap (λ (o : List Bool). get_or o (slot_of guard) false) n.owned ∙ h.owned guard;
  pointers = λ index row e s. ap (λ (p : List ℕ). get_or p index 0) n.pointers ∙ h.pointers index row e s;
  again = again;
}

-- ---- a load or store that passes is of a line that the core may touch

allowed_touches : (class : Class) (core : ℕ) (d : Direction) → allows class core Cached d ≡ true → is_touchable core class ≡ true
allowed_touches classes.Code core d h = refl
allowed_touches (classes.Private owner) core d h = h
allowed_touches (classes.Mutex mutex) core d h = refl
allowed_touches (classes.Passed region) core d h = refl
allowed_touches classes.Uncached core d h = absurd (cc)
allowed_touches classes.Absent core d h = absurd (cc)

pub memory_allows : (allowed : Bool) (t : Target) → memory_target allowed ≡ Ok t → allowed ≡ true
memory_allows true t h = refl
memory_allows false t h = absurd (cc)

cached_target : (p : Place) (class : Class) (core : ℕ) (width : Width) (d : Direction) (t : Target) → target_at p class core width Cached d ≡ Ok t → (target_at p class core width Cached d ≡ Ok targets.Memory) × (is_touchable core class ≡ true)
cached_target Memory class core width d t h =
    let a = memory_allows (allows class core Cached d) t h in
    (ap memory_target a, allowed_touches class core d a)
cached_target (Device part offset) class core Byte d t h = absurd (cc)
cached_target (Device part offset) class core Half d t h = absurd (cc)
cached_target (Device part offset) class core Word d t h = absurd (cc)
cached_target Nothing class core width d t h = absurd (cc)

reached : (map : AddressMap) (who : Knowledge) (number : ℕ) (r : Result Target Violation) → cached_breach map who r number ≡ None → (t : Target) × (r ≡ Ok t)
reached map who number (Ok t) h = (t, refl)
reached map who number (Err Stray) h = absurd (cc)
reached map who number (Err Separate) h = absurd (cc)

pub record IsReached (map : AddressMap) (core address : ℕ) (store : Bool) (width : Width) : Type 0 where
  pub memory : data_target map core address width Cached (direction store) ≡ Ok targets.Memory
  pub touchable : is_touchable core (class_of map (line address)) ≡ true

pub passed_reaches : (b : Board) (map : AddressMap) (who : Knowledge) (address : ℕ) (store : Bool) (width : Width) → breach b map who (accesses.Cached address store) width ≡ None → IsReached map who.core address store width
unfolding breach data_target
passed_reaches b map who address store width h =
    let r = reached map who (line address) (data_target map who.core address width Cached (direction store)) h in
    let t = cached_target (place map (without_bypass address)) (class_of map (line address)) who.core width (direction store) r.0 r.1 in
    record { memory = t.0; touchable = t.1 }

-- a watch whose parts are known, with another table
pub noted_in : (board : Board) (core cpuid : ℕ) (table : Table) (owned : List Bool) (pointers : List ℕ) (touched : List ℕ) (stored : List Bool) (now new : Watched) → record { board = board; core = core; cpuid = cpuid; table = table; owned = owned; pointers = pointers; touched = touched; stored = stored } ≡ now → new.board ≡ board → new.core ≡ core → new.cpuid ≡ cpuid → new.owned ≡ owned → new.pointers ≡ pointers → IsNoted table new.table → IsWatchNoted now new
noted_in board core cpuid table owned pointers touched stored now new e b c u o p n =
    subst (λ w. IsWatchNoted w new) e
    (record { board = b; core_is = c; cpuid = u; owned = o; pointers = p; table = n })

-- ---- what was done is named once

pub touched_as : (b : Board) (map : AddressMap) (old new : Watched) (number : ℕ) (store : Bool) (line_is : ℕ) (store_is : Bool) (done : Done) → done ≡ Touched number store → done ≡ Touched line_is store_is → ((book : Book) (past : List Past) (address : ℕ) (width : Width) → StandsFor b map old.core old book past → number ≡ line address → breach b map (knowledge b book old.core past) (accesses.Cached address store) width ≡ None → StandsFor b map old.core new book (Touch number store ∷ past)) → (book : Book) (past : List Past) (address : ℕ) (width : Width) → StandsFor b map old.core old book past → line_is ≡ line address → breach b map (knowledge b book old.core past) (accesses.Cached address store_is) width ≡ None → StandsFor b map old.core new book (Touch line_is store_is ∷ past)
touched_as b map old new number store line_is store_is done e d f =
    let n : number ≡ line_is = cc in
    let s : store ≡ store_is = cc in
    subst (λ (x : ℕ). (book : Book) (past : List Past) (address : ℕ) (width : Width) → StandsFor b map old.core old book past → x ≡ line address → breach b map (knowledge b book old.core past) (accesses.Cached address store_is) width ≡ None → StandsFor b map old.core new book (Touch x store_is ∷ past)) n
    (subst (λ (y : Bool). (book : Book) (past : List Past) (address : ℕ) (width : Width) → StandsFor b map old.core old book past → number ≡ line address → breach b map (knowledge b book old.core past) (accesses.Cached address y) width ≡ None → StandsFor b map old.core new book (Touch number y ∷ past)) s f)

pub cleaned_as : (b : Board) (map : AddressMap) (old new : Watched) (op : DataOp) (address : ℕ) (op_is : DataOp) (address_is : ℕ) (done : Done) → done ≡ Cleaned op address → done ≡ Cleaned op_is address_is → ((book : Book) (past : List Past) → StandsFor b map old.core old book past → StandsFor b map old.core new book (Clean op address ∷ past)) → (book : Book) (past : List Past) → StandsFor b map old.core old book past → StandsFor b map old.core new book (Clean op_is address_is ∷ past)
cleaned_as b map old new op address op_is address_is done e d f =
    let n : address ≡ address_is = cc in
    let o : op ≡ op_is = cc in
    subst (λ (x : ℕ). (book : Book) (past : List Past) → StandsFor b map old.core old book past → StandsFor b map old.core new book (Clean op_is x ∷ past)) n
    (subst (λ (y : DataOp). (book : Book) (past : List Past) → StandsFor b map old.core old book past → StandsFor b map old.core new book (Clean y address ∷ past)) o f)
