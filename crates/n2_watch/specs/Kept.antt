-- What the book and the past events of cores keep by themselves, whatever the caches hold: every access that does not break
-- the discipline keeps it.
use Rattle.std.specs.Prelude.{◌≡◌, ℕ, ◌↔◌, List, [], ◌∷◌, Bool, false, IsTrue, ◌==◌, Option, Some, None, get_or, slice_get}
use Rattle.n2_mailbox.specs.Mailbox as mailbox
use Rattle.n2_parts.specs.declared.board.Board.{Board}
use Rattle.n2_board.specs.declared.access.Route.TheVariants.{Cached}
use Rattle.n2_board.specs.declared.classes.Class.{Class}
use Rattle.n2_board.specs.declared.classes.Class.TheVariants as classes
use Rattle.n2_board.specs.declared.guards.Guard.{Guard}
use Rattle.n2_board.specs.declared.guards.Guard.TheVariants as guard_kinds
use Rattle.n2_board.specs.AddressMap.{AddressMap, class_of}
use Rattle.n2_board.specs.Access.{allows}
use Rattle.n2_board.specs.declared.guards.Holder.TheVariants.{ByMailbox}
use Rattle.n2_watch.specs.declared.past.Past.{Past}
use Rattle.n2_watch.specs.declared.past.Past.TheVariants.{Touch, Clean, Got, Gave}
use Rattle.n2_watch.specs.Past.{dirty, stale}
use Rattle.n2_watch.specs.Discipline.{direction}
use Rattle.n2_watch.specs.Book.{Book, owned_by, region_at, sets_of}

-- whether a core may write a line of a class through its cache now, by what it owns
abbrev pub may_write : Class → ℕ → (Guard → Bool) → Bool
may_write classes.Code core own = false
may_write (classes.Private owner) core own = owner == core
may_write (classes.Mutex mutex) core own = own (guard_kinds.Mutex mutex)
may_write (classes.Passed region) core own = own (guard_kinds.Passed region)
may_write classes.Uncached core own = false
may_write classes.Absent core own = false

-- each Touch is of a line that its class allows to the core through its cache
abbrev pub AreTouched : AddressMap → ℕ → List Past → Type 0
AreTouched map core [] = Unit {0}
AreTouched map core (Touch line store ∷ past) = IsTrue (allows (class_of map line) core Cached (direction store)) × AreTouched map core past
AreTouched map core (Clean op address ∷ past) = AreTouched map core past
AreTouched map core (Got guard ∷ past) = AreTouched map core past
AreTouched map core (Gave guard ∷ past) = AreTouched map core past

-- of one core: a dirty line is its own or has a guard that it owns, and is not stale
pub record IsPastKept (b : Board) (map : AddressMap) (book : Book) (core : ℕ) (past : List Past) : Type 0 where
  pub dirty_lines : (line : ℕ) → IsTrue (dirty (sets_of b core) past line) → IsTrue (may_write (class_of map line) core (owned_by b book core)) × (stale map (sets_of b core) past line ≡ false)
  pub touched : AreTouched map core past

-- the message that waits in a mailbox is about a region
abbrev pub is_posted : AddressMap → Option mailbox.State → ℕ → Type 0
is_posted map None region = ⊥
is_posted map (Some state) region = IsTrue state.waiting × (region_at map state.pointer ≡ Some region)

-- of the book: a mailbox holds a region exactly where the message that waits in it has its Pointer there
abbrev pub IsPosted : AddressMap → Book → Type 0
IsPosted map book = (index region : ℕ) → get_or book.holders region None ≡ Some (ByMailbox index) ↔ is_posted map (slice_get book.devices.mailboxes index) region

-- of the book and all cores
pub record IsKept (b : Board) (map : AddressMap) (book : Book) (pasts : List (List Past)) : Type 0 where
  pub cores : (core : ℕ) (past : List Past) → slice_get pasts core ≡ Some past → IsPastKept b map book core past
  pub posted : IsPosted map book
