-- What a note of a load or store past the caches makes of a watch.
use Rattle.std.specs.Prelude.{◌≡◌, ℕ, ◌+◌, ◌%◌, ◌^◌, ◌≤◌, List, length, Bool, true, false, not, ◌==◌, Option, Some, None, get_or, slice_set}
use Rattle.n2_word.specs.declared.Width.TheVariants.{Word}
use Rattle.n2_parts.specs.declared.board.PartKind.{PartKind}
use Rattle.n2_parts.specs.declared.board.PartKind.TheVariants as kinds
use Rattle.n2_board.specs.declared.guards.Guard.{Guard}
use Rattle.n2_board.specs.declared.guards.Guard.TheVariants.{Mutex, Passed}
use Rattle.n2_board.specs.declared.places.Place.{Place}
use Rattle.n2_board.specs.declared.places.Place.TheVariants as places
use Rattle.n2_board.specs.AddressMap.{AddressMap}
use Rattle.n2_watch.specs.declared.past.Past.{Past}
use Rattle.n2_watch.specs.Book.{region_at, noted}
use Rattle.n2_watch.specs.Table.{Table, slot_of}
use Rattle.n2_watch.specs.Stands.{LinesStand, IsNoted}
use Rattle.n2_watch.specs.Shapes.{BypassAccess}
use Rattle.n2_watch.specs.Watched.{Watched, IsGuardOf, none_touched}

-- a load of a word past the caches, and a store
abbrev pub word_access : ℕ → Option ℕ → BypassAccess
word_access address stored = record { address = address; width = Word; stored = stored }

-- what every note keeps of a watch: it is of the same core and board, with as many slots, and its clock goes on by one at most
pub record IsNotedOnce (old new : Watched) : Type 0 where
  pub board : new.board ≡ old.board
  pub core_is : new.core ≡ old.core
  pub cpuid : new.cpuid ≡ old.cpuid
  pub slots : length new.table.got ≡ length old.table.got
  pub clock : new.table.clock ≤ old.table.clock + 1

-- the records of a guard that is owned from now on or no more, by whether it was owned
pub record IsOwnerNoted (guard : Guard) (before after : Bool) (old new : Table) : Type 0 where
  pub table : IsNoted old new
  pub lines : (map : AddressMap) (past : List Past) → LinesStand map old past → LinesStand map new (noted guard before after past)

-- a guard with a slot is owned from now on, or no more, and all touches are forgotten
pub record IsGuardNoted (guard : Guard) (owns : Bool) (old new : Watched) : Type 0 where
  pub board : new.board ≡ old.board
  pub core_is : new.core ≡ old.core
  pub cpuid : new.cpuid ≡ old.cpuid
  pub pointers : new.pointers ≡ old.pointers
  pub owned : new.owned ≡ slice_set old.owned (slot_of guard) owns
  pub forgotten : new.touched ≡ none_touched
  pub records : IsOwnerNoted guard (get_or old.owned (slot_of guard) false) owns old.table new.table

-- what is noted of a guard of the board
abbrev pub IsGuardOwned : Guard → Bool → Watched → Watched → Type 0
IsGuardOwned guard owns old new = IsGuardOf old.board guard → IsGuardNoted guard owns old new

-- a Pointer register is written, and all touches are forgotten
pub record IsPointerNoted (index value : ℕ) (old new : Watched) : Type 0 where
  pub board : new.board ≡ old.board
  pub core_is : new.core ≡ old.core
  pub cpuid : new.cpuid ≡ old.cpuid
  pub table : new.table ≡ old.table
  pub owned : new.owned ≡ old.owned
  pub pointers : new.pointers ≡ slice_set old.pointers index value
  pub forgotten : new.touched ≡ none_touched

-- a passed region, if there is one, is owned from now on or no more
abbrev pub IsRegionOwned : Option ℕ → Bool → Watched → Watched → Type 0
IsRegionOwned None owns old new = new ≡ old
IsRegionOwned (Some region) owns old new = IsGuardOwned (Passed region) owns old new

-- a write of a mailbox that takes effect, by whether it is of Command or of Pointer at the sending side
abbrev pub IsSideWritten : AddressMap → ℕ → Bool → Bool → ℕ → Watched → Watched → Type 0
IsSideWritten map index true pointer value old new = IsRegionOwned (region_at map (get_or old.pointers index 0)) false old new
IsSideWritten map index false true value old new = IsPointerNoted index value old new
IsSideWritten map index false false value old new = new ≡ old

-- a write of a mutex, by whether it is of its register
abbrev pub IsMutexWritten : ℕ → Bool → ℕ → Watched → Watched → Type 0
IsMutexWritten index true value old new = IsGuardOwned (Mutex index) (not (value % 2 ^ 16 == 0)) old new
IsMutexWritten index false value old new = new ≡ old

-- by the kind of the device
abbrev pub IsKindWritten : AddressMap → PartKind → ℕ → ℕ → ℕ → Watched → Watched → Type 0
IsKindWritten map kinds.Mutex index offset value old new = IsMutexWritten index (offset == 0) value old new
IsKindWritten map kinds.Mailbox index offset value old new = IsSideWritten map index (offset == 0) (offset == 1) value old new
IsKindWritten map kind index offset value old new = new ≡ old

-- by the place of the address
abbrev pub IsPlaceWritten : AddressMap → Place → ℕ → Watched → Watched → Type 0
IsPlaceWritten map (places.Device part offset) value old new = IsKindWritten map part.kind part.index offset value old new
IsPlaceWritten map _ value old new = new ≡ old

-- something where it took effect, and nothing otherwise
abbrev pub IsTaken : Bool → Type 0 → Watched → Watched → Type 0
IsTaken true Effect old new = Effect
IsTaken false Effect old new = new ≡ old

-- a store past the caches, by whether it took effect
abbrev pub IsWritten : AddressMap → Place → ℕ → Bool → Watched → Watched → Type 0
IsWritten map there value took old new = IsTaken took (IsPlaceWritten map there value old new) old new

-- a load past the caches, by whether it took a message
abbrev pub IsReceived : AddressMap → Bool → ℕ → Watched → Watched → Type 0
IsReceived map took pointer old new = IsTaken took (IsRegionOwned (region_at map pointer) true old new) old new
