-- The shape of a book of a board, and how an access changes what its core owns.
use Rattle.std.specs.Prelude.{◌≡◌, ◌≢◌, ℕ, ◌^◌, ◌<◌, List, ◌∷◌, Bool, true, false, Option, Some, None, length, slice_get}
use Rattle.n2_word.specs.declared.Width.{Width}
use Rattle.n2_word.specs.Lines.{without_bypass}
use Rattle.n2_elf.specs.declared.image.Image.{Image}
use Rattle.n2_parts.specs.Valid.{IsValid}
use Rattle.n2_board.specs.AddressMap.{AddressMap, address_map}
use Rattle.n2_mutex.specs.Mutex as mutex
use Rattle.n2_parts.specs.declared.board.Board.{Board}
use Rattle.n2_board.specs.declared.guards.Guard.{Guard}
use Rattle.n2_memory.specs.Memories.{IsFull}
use Rattle.n2_bus.specs.declared.request.Request.{Request}
use Rattle.n2_bus.specs.declared.request.Request.TheVariants.{Read, Write, WriteBack}
use Rattle.n2_watch.specs.declared.access.Access.{Access}
use Rattle.n2_watch.specs.declared.access.Access.TheVariants.{Bypass}
use Rattle.n2_watch.specs.declared.past.Past.{Past}
use Rattle.n2_watch.specs.declared.past.Past.TheVariants.{Got, Gave}
use Rattle.n2_watch.specs.Discipline.{breach}
use Rattle.n2_watch.specs.Book.{Book, knowledge, past_after}
use Rattle.n2_watch.specs.World.{World, Transferred, transferred}
use Rattle.n2_watch.specs.Kept.{IsPosted}

-- a book has the state of each device of the board, the bytes of each UART and the holder of each region, and VALUE of a
-- mutex has its width
pub record HasBoardShape (b : Board) (book : Book) : Type 0 where
  pub mutexes : length book.devices.mutexes ≡ length b.mutex
  pub mailboxes : length book.devices.mailboxes ≡ length b.mailbox
  pub timers : length book.devices.timers ≡ length b.timer
  pub uarts : length book.devices.uarts ≡ length b.uart
  pub sent : length book.sent ≡ length b.uart
  pub holders : length book.holders ≡ length b.region
  pub values : (index : ℕ) (state : mutex.State) → slice_get book.devices.mutexes index ≡ Some state → state.value < 2 ^ 16

-- what cores share on a board: its memories, with all their words, and a book of it
pub record HasWorldShape (b : Board) (w : World) : Type 0 where
  pub memories : w.memory.memories ≡ b.memory
  pub full : IsFull w.memory
  pub book : HasBoardShape b w.book

-- what an access changes of ownership: nothing, or one guard, which its core owns from now on or owns no more
pub data Change : Type 0 where
  Nothing : Change
  Begins : (guard : Guard) → Change
  Ends : (guard : Guard) → Change

-- all guards but one are owned as before
abbrev pub StayBut : Guard → (Guard → Bool) → (Guard → Bool) → Type 0
StayBut guard before after = (other : Guard) → other ≢ guard → after other ≡ before other

-- by what a core owned before and owns after, and its past events before and after: the one event that tells of the change
-- was added, and no other
abbrev pub IsNoted : (Guard → Bool) → (Guard → Bool) → List Past → List Past → Change → Type 0
IsNoted before after past noted Nothing = ((guard : Guard) → after guard ≡ before guard) × (noted ≡ past)
IsNoted before after past noted (Begins guard) = (before guard ≡ false) × (after guard ≡ true) × StayBut guard before after × (noted ≡ Got guard ∷ past)
IsNoted before after past noted (Ends guard) = (before guard ≡ true) × (after guard ≡ false) × StayBut guard before after × (noted ≡ Gave guard ∷ past)

-- ---- loads and stores past the caches, with the request that they make
pub record BypassAccess : Type 0 where
  pub address : ℕ
  pub width : Width
  -- what a store writes
  pub stored : Option ℕ

abbrev pub access_with : ℕ → Option ℕ → Access
access_with address None = Bypass address false 0
access_with address (Some value) = Bypass address true value

abbrev pub access_of : BypassAccess → Access
access_of access = access_with access.address access.stored

abbrev pub request_with : ℕ → Width → Option ℕ → Request
request_with address width None = Read (without_bypass address) width
request_with address width (Some value) = Write (without_bypass address) width value

abbrev pub request_of : BypassAccess → Request
request_of access = request_with access.address access.width access.stored

-- the access of core k with these past events breaks nothing, in a state that a valid board can reach
pub record IsLetPast (b : Board) (images : List Image) (map : AddressMap) (k : ℕ) (w : World) (past : List Past) (access : BypassAccess) : Type 0 where
  pub valid : IsValid b
  pub map_is : map ≡ address_map b images
  pub core : k < length b.core
  pub shape : HasBoardShape b w.book
  pub posted : IsPosted map w.book
  pub unbroken : breach b map (knowledge b w.book k past) (access_of access) access.width ≡ None

-- what it leaves behind, and its reply
abbrev pub accessed : Board → AddressMap → ℕ → World → BypassAccess → Transferred
accessed b map k w access = transferred b map k w (request_of access)

-- the past events of the core after it
abbrev pub past_accessed : Board → AddressMap → ℕ → World → List Past → BypassAccess → List Past
past_accessed b map k w past access =
    past_after b map k w.book (accessed b map k w access).world.book (request_of access) (accessed b map k w access).reply past

-- ---- a request that is no load or store past the caches: lines of memory, samples and device events
abbrev pub is_access : Request → Bool
is_access (Read address width) = true
is_access (Write address width value) = true
is_access _ = false

-- a line that is written back has eight words
abbrev pub HasWords : Request → Type 0
HasWords (WriteBack number words) = length words ≡ 8
HasWords _ = Unit {0}
