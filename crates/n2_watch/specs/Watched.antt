-- What a watch keeps, what it knows by that, and when it stands for a book and past events.
use Rattle.std.specs.Prelude.{◌≡◌, ℕ, ◌+◌, ◌<◌, ◌%◌, List, [], ◌∷◌, length, Bool, true, false, not, ◌&&◌, ◌||◌, Option, Some, None, Ok, IsTrue, ◌==◌, get_or, slice_get}
use Rattle.n2_word.specs.declared.Width.{Width}
use Rattle.n2_word.specs.Lines.{line}
use Rattle.n2_elf.specs.declared.image.Image.{Image}
use Rattle.n2_parts.specs.declared.board.Board.{Board}
use Rattle.n2_parts.specs.declared.board.MailboxRow.{MailboxRow}
use Rattle.n2_parts.specs.MemoryLines.{HasLine}
use Rattle.n2_parts.specs.Valid.{IsValid}
use Rattle.n2_board.specs.declared.classes.Class.{Class}
use Rattle.n2_board.specs.declared.classes.Class.TheVariants as classes
use Rattle.n2_board.specs.declared.guards.Guard.{Guard}
use Rattle.n2_board.specs.declared.guards.Guard.TheVariants as guard_kinds
use Rattle.n2_board.specs.declared.access.Target.TheVariants.{Memory}
use Rattle.n2_board.specs.declared.access.Route.TheVariants.{Cached}
use Rattle.n2_board.specs.AddressMap.{AddressMap, address_map, class_of}
use Rattle.n2_board.specs.Access.{data_target}
use Rattle.n2_board.specs.Guards.{guard_of}
use Rattle.n2_watch.specs.declared.past.Past.{Past}
use Rattle.n2_watch.specs.declared.access.Access.{Access}
use Rattle.n2_watch.specs.declared.access.Access.TheVariants as accesses
use Rattle.n2_watch.specs.declared.access.Broken.{Broken}
use Rattle.n2_watch.specs.Discipline.{Knowledge, Breach, Strays, Breaks, direction, line_breach}
use Rattle.n2_watch.specs.Past.{may, dirty}
use Rattle.n2_watch.specs.Book.{Book, cpuid_of, sets_of, owned_by, pointer_of}
use Rattle.n2_watch.specs.Table.{Table, slot_of}
use Rattle.n2_watch.specs.Stands.{LinesStand, IsRecorded, IsNoted}

-- the board, the core with its cpuid, the records of its lines, for each slot whether the core owns the guard, for each
-- mailbox its Pointer register, where the core sends to it, and in four places the numbers, plus one, of lines that were touched
-- since anything but a touch was noted, each with whether it was stored to. The table's clock is the number of notes
pub record Watched : Type 0 where
  pub board : Board
  pub core : ℕ
  pub cpuid : ℕ
  pub table : Table
  pub owned : List Bool
  pub pointers : List ℕ
  pub touched : List ℕ
  pub stored : List Bool

-- no place has a line
abbrev pub none_touched : List ℕ
none_touched = 0 ∷ 0 ∷ 0 ∷ 0 ∷ []

-- the place of a line among those that were touched
abbrev pub touched_place : ℕ → ℕ
touched_place number = number % 4

-- stands for no place of a record
abbrev pub no_place : ℕ
no_place = 4294967295

-- what the core knows by it, with past events that the records stand for
abbrev pub known : Watched → List Past → Knowledge
known w past = record {
  core = w.core;
  cpuid = w.cpuid;
  sets = length w.table.cleaned;
  owns = λ guard. get_or w.owned (slot_of guard) false;
  pointer = λ index. get_or w.pointers index 0;
  past = past;
}

-- ---- when it stands

-- a map of a valid board, with some images
pub record IsMapOf (b : Board) (map : AddressMap) : Type 0 where
  pub valid : IsValid b
  pub images : List Image
  pub count : length images ≡ length b.core
  pub maps : map ≡ address_map b images

-- a core may touch a line of this class through its cache
abbrev pub is_touchable : ℕ → Class → Bool
is_touchable core classes.Code = true
is_touchable core (classes.Private owner) = owner == core
is_touchable core (classes.Mutex mutex) = true
is_touchable core (classes.Passed region) = true
is_touchable core classes.Uncached = false
is_touchable core classes.Absent = false

-- a guard of the board
abbrev pub IsGuardOf : Board → Guard → Type 0
IsGuardOf b (guard_kinds.Mutex mutex) = mutex < length b.mutex
IsGuardOf b (guard_kinds.Passed region) = region < length b.region

-- a load or store of a line is as one that was noted: a load, or a store where the line was stored to
abbrev pub is_again : Watched → ℕ → Bool → Bool
is_again w number store = number + 1 == get_or w.touched (touched_place number) 0 && (not store || get_or w.stored (touched_place number) false)

-- loads of a line, or stores, pass by what the core knows, and its past events say of the line already what they say after
-- one more
pub record PassesAgain (map : AddressMap) (w : Watched) (past : List Past) (number : ℕ) (store : Bool) : Type 0 where
  pub reaches : (address : ℕ) (width : Width) → line address ≡ number → data_target map w.core address width Cached (direction store) ≡ Ok Memory
  pub lets : line_breach map (known w past) (guard_of (class_of map number)) number ≡ None
  pub may : may (length w.table.cleaned) past number ≡ true
  pub dirty : store ≡ true → dirty (length w.table.cleaned) past number ≡ true

-- a watch of a core stands for a book and the core's past events
pub record StandsFor (b : Board) (map : AddressMap) (core : ℕ) (w : Watched) (book : Book) (past : List Past) : Type 0 where
  pub map_of : IsMapOf b map
  pub board : w.board ≡ b
  pub core_is : w.core ≡ core
  pub cpuid : w.cpuid ≡ cpuid_of b core
  pub sets : length w.table.cleaned ≡ sets_of b core
  -- the records stand for the past events, and each line that the core may touch has one
  pub lines : LinesStand map w.table past
  pub recorded : (number : ℕ) → HasLine b.memory number → IsTrue (is_touchable core (class_of map number)) → IsRecorded w.table.records number
  -- each guard has a slot, which says whether the core owns it
  pub slots : (guard : Guard) → IsGuardOf b guard → (slot_of guard < length w.owned) × (slot_of guard < length w.table.got)
  pub owned : (guard : Guard) → get_or w.owned (slot_of guard) false ≡ owned_by b book core guard
  -- each mailbox has a place, which says the Pointer register of one that the core sends to
  pub registers : (index : ℕ) → index < length b.mailbox → index < length w.pointers
  pub pointers : (index : ℕ) (row : MailboxRow) → slice_get b.mailbox index ≡ Some row → IsTrue (row.sender == core) → get_or w.pointers index 0 ≡ pointer_of book index
  -- what is as a touch that was noted passes as that did
  pub again : (number : ℕ) (store : Bool) → is_again w number store ≡ true → PassesAgain map w past number store

-- ---- a refusal, as a judge says it

abbrev pub broken_at : ℕ → Option Breach → Option Broken
broken_at address None = None
broken_at address (Some Strays) = None
broken_at address (Some (Breaks kind number)) = Some (record { kind = kind; address = address; line = number })

abbrev pub address_of : Access → ℕ
address_of (accesses.Cached address store) = address
address_of (accesses.Bypass address store value) = address
address_of (accesses.Fetch address) = address
address_of (accesses.Op op address) = address

-- what a note keeps of a watch where it changes its table alone
pub record IsWatchNoted (old new : Watched) : Type 0 where
  pub board : new.board ≡ old.board
  pub core_is : new.core ≡ old.core
  pub cpuid : new.cpuid ≡ old.cpuid
  pub owned : new.owned ≡ old.owned
  pub pointers : new.pointers ≡ old.pointers
  pub table : IsNoted old.table new.table
