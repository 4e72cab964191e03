-- What the flat machine keeps, beside what the definition has, and when it is whole.
use Rattle.std.specs.Prelude.{◌≡◌, ℕ, ◌%◌, ◌/◌, ◌^◌, ◌<◌, List, [], ◌∷◌, length, map, Bool, true, false, not, ◌==◌, if◌then◌else◌, IsTrue, Option, Some, None, Result, Ok, Err, option_map, slice_get, get_or}
use Rattle.n2_exec.specs.declared.registers.Regs.{Regs}
use Rattle.n2_elf.specs.declared.image.Image.{Image}
use Rattle.n2_parts.specs.declared.board.Board.{Board}
use Rattle.n2_parts.specs.declared.board.CoreRow.{CoreRow}
use Rattle.n2_parts.specs.declared.board.PartKind.{PartKind}
use Rattle.n2_parts.specs.declared.board.PartKind.TheVariants as kinds
use Rattle.n2_parts.specs.declared.stops.Stop.{Stop}
use Rattle.n2_parts.specs.declared.stops.Act.{Act}
use Rattle.n2_parts.specs.declared.stops.Act.TheVariants as acts
use Rattle.n2_board.specs.declared.places.Place.{Place}
use Rattle.n2_board.specs.declared.places.Place.TheVariants as places
use Rattle.n2_board.specs.AddressMap.{AddressMap}
use Rattle.n2_board.specs.Access.{fetch_violation}
use Rattle.n2_bus.specs.Wiring.{Wiring, wiring_of, proper}
use Rattle.n2_bus.specs.declared.request.Request.{Request}
use Rattle.n2_bus.specs.Transfer.{served, request_for}
use Rattle.n2_bus.specs.declared.request.Reply.{Reply}
use Rattle.n2_watch.specs.declared.past.Past.{Past}
use Rattle.n2_watch.specs.declared.past.Past.TheVariants.{Got, Gave}
use Rattle.n2_watch.specs.Discipline.{Breach}
use Rattle.n2_watch.specs.Book.{Book, start_book, region_at}
use Rattle.n2_watch.specs.World.{World, shared}
use Rattle.n2_watch.specs.Kept.{IsKept, IsPosted}
use Rattle.n2_watch.specs.Shapes.{HasWorldShape}
use Rattle.n2_watch.specs.Watched.{Watched, IsMapOf, IsGuardOf, StandsFor}
use Rattle.n2_watch.specs.Table.{slot_of}
use Rattle.n2_board.specs.declared.guards.Guard.{Guard}
use Rattle.n2_board.specs.declared.guards.Guard.TheVariants as guard_kinds
use Rattle.n2_board.specs.declared.guards.Holder.{Holder}
use Rattle.n2_front.specs.Front.{Front, started_front}
use Rattle.n2_front.specs.Tasks.{stop_for}
use Rattle.n2_front.specs.Retire.{Acted, acted}
use Rattle.n2_runs.specs.FlatRun.{Flat}

-- a core: its front, and the records that answer for its past events
pub record CoreState : Type 0 where
  pub front : Front
  pub watch : Watched

-- what all cores share: how the bus is wired, which never changes, and memory and book
pub record CommonState : Type 0 where
  pub wiring : Wiring
  pub world : World

-- the machine, with the line, bit 31 of an address counted, from which an instruction was fetched last
pub record State : Type 0 where
  pub board : Board
  pub common : CommonState
  pub cores : List CoreState
  pub recent : ℕ

abbrev pub front_of : CoreState → Front
front_of c = c.front

-- the machine that a state is
abbrev pub machine_of : State → Flat
machine_of s = record { world = s.common.world; cores = map front_of s.cores }

abbrev pub past_of : CoreState → List Past
past_of c = c.front.past

-- a core after an act, with all that cores share
abbrev pub acted_by : CoreState → CommonState → Acted
acted_by c common = acted c.front common.world

-- the stop for what is wrong with an access, if anything is, by the program counter, the instruction's word and the address
abbrev pub stop_of : ℕ → ℕ → ℕ → Option Breach → Option Stop
stop_of pc word address None = None
stop_of pc word address (Some why) = Some (stop_for why pc word address)

-- why a judgement stops the core, if it does
abbrev pub stop_in : Result ℕ Stop → Option Stop
stop_in (Ok place) = None
stop_in (Err stop) = Some stop

-- ---- when a state is whole

-- each guard of the board has a slot in a core's watch
abbrev pub HasSlots : Watched → Type 0
HasSlots w = (guard : Guard) → IsGuardOf w.board guard → slot_of guard < length w.table.got

-- a core's watch stands for what the core owns and did
pub record IsWatched (b : Board) (map : AddressMap) (k : ℕ) (book : Book) (c : CoreState) : Type 0 where
  pub stands : StandsFor b map k c.watch book c.front.past

-- what all cores share is a board's, and messages are about regions
pub record IsCommon (b : Board) (map : AddressMap) (common : CommonState) : Type 0 where
  pub map_of : IsMapOf b map
  pub wiring : common.wiring ≡ wiring_of b
  pub shape : HasWorldShape b common.world
  pub posted : IsPosted map common.world.book

-- core k of a board beside all that cores share
pub record IsAt (b : Board) (map : AddressMap) (k : ℕ) (all : CommonState) (c : CoreState) : Type 0 where
  pub core : k < length b.core
  pub common : IsCommon b map all
  pub watched : IsWatched b map k all.world.book c

-- the program counter and the exception address are multiples of 4
pub record IsAligned (regs : Regs) : Type 0 where
  pub pc : regs.pc % 4 ≡ 0
  pub vector : regs.vector % 4 ≡ 0

-- no fetch from a line is cut off
abbrev pub IsFetchable : AddressMap → ℕ → Type 0
IsFetchable map' recent = (pc : ℕ) → pc < 2 ^ 32 → pc / 32 ≡ recent → fetch_violation map' pc ≡ None

pub record IsWhole (map' : AddressMap) (s : State) : Type 0 where
  pub map_of : IsMapOf s.board map'
  pub wiring : s.common.wiring ≡ wiring_of s.board
  pub count : length s.cores ≡ length s.board.core
  pub shape : HasWorldShape s.board s.common.world
  pub kept : IsKept s.board map' s.common.world.book (map past_of s.cores)
  pub watched : (k : ℕ) (c : CoreState) → slice_get s.cores k ≡ Some c → IsWatched s.board map' k s.common.world.book c
  pub aligned : (k : ℕ) (c : CoreState) → slice_get s.cores k ≡ Some c → IsAligned c.front.regs
  pub fetched : IsFetchable map' s.recent

-- core k of a board at the start
pub record IsStarted (b : Board) (images : List Image) (map : AddressMap) (k : ℕ) (c : CoreState) : Type 0 where
  pub row : CoreRow
  pub image : Image
  pub row_is : slice_get b.core k ≡ Some row
  pub image_is : slice_get images k ≡ Some image
  pub front : c.front ≡ started_front row image
  pub stands : StandsFor b map k c.watch (start_book b) []

-- the act's core is there, or the event is one of the board's
abbrev pub IsActOf : Board → Act → Type 0
IsActOf b (acts.Retire k) = k < length b.core
IsActOf b (acts.Sample k) = k < length b.core
IsActOf b (acts.Device event) = IsTrue (proper (wiring_of b) (length b.core) (request_for event))

-- ---- what an access of a place leaves alone

abbrev pub is_mailbox : PartKind → Bool
is_mailbox kinds.Mailbox = true
is_mailbox kind = false

-- a read there changes nothing of ownership
abbrev pub reads_alone : Place → Bool
reads_alone (places.Device part offset) = not (is_mailbox part.kind)
reads_alone _ = true

abbrev pub is_uart : PartKind → Bool
is_uart kinds.Uart = true
is_uart kind = false

abbrev pub is_shared : PartKind → Bool
is_shared kinds.Mutex = true
is_shared kinds.Mailbox = true
is_shared kinds.Uart = true
is_shared kind = false

-- a write there changes nothing of ownership, and nothing that was sent
abbrev pub writes_alone : Place → Bool
writes_alone (places.Device part offset) = not (is_shared part.kind)
writes_alone _ = true

-- ---- what an access of a device that changes ownership does

-- the guard that may change is one at most
abbrev pub touched_list : Option Guard → List Guard
touched_list None = []
touched_list (Some guard) = guard ∷ []

-- the region of a message that is taken
abbrev pub taken_region : AddressMap → Reply → Option ℕ
taken_region map reply = if reply.took then region_at map reply.pointer else None

-- the region that a write posts, by the one that the Pointer register lies in
abbrev pub posted_region : PartKind → ℕ → Option ℕ → Option ℕ
posted_region kinds.Mailbox offset region = if offset == 0 then region else None
posted_region kind offset region = None

-- the guard of a write, by the region that it posts
abbrev pub guard_written : PartKind → ℕ → ℕ → Option ℕ → Option Guard
guard_written kinds.Mutex index offset region = if offset == 0 then Some (guard_kinds.Mutex index) else None
guard_written kind index offset region = option_map (λ found. guard_kinds.Passed found) region

-- whether the core owns a guard, by its watch
abbrev pub owned_if : Watched → Option Guard → Bool
owned_if w None = false
owned_if w (Some guard) = get_or w.owned (slot_of guard) false

-- Got where ownership begins, Gave where it ends
abbrev pub event_noted : Option Guard → Bool → Bool → Option Past
event_noted None before after = None
event_noted (Some guard) true true = None
event_noted (Some guard) true false = Some (Gave guard)
event_noted (Some guard) false true = Some (Got guard)
event_noted (Some guard) false false = None

abbrev pub with_event : Option Past → List Past → List Past
with_event None past = past
with_event (Some event) past = event ∷ past

-- what all cores share where regions have other holders, and where the UARTs were sent something else
abbrev pub with_holders : CommonState → List (Option Holder) → CommonState
with_holders common holders = record {
  wiring = common.wiring;
  world = record { memory = common.world.memory; book = record { devices = common.world.book.devices; sent = common.world.book.sent; holders = holders } };
}

abbrev pub with_sent : CommonState → List (List ℕ) → CommonState
with_sent common sent = record {
  wiring = common.wiring;
  world = record { memory = common.world.memory; book = record { devices = common.world.book.devices; sent = sent; holders = common.world.book.holders } };
}

-- what a request leaves where it changes the devices and the memory alone
abbrev pub common_after : Wiring → ℕ → World → Request → CommonState
common_after wiring k w request = record {
  wiring = wiring;
  world = record {
    memory = (served wiring k (shared w) request).shared.memory;
    book = record { devices = (served wiring k (shared w) request).shared.devices; sent = w.book.sent; holders = w.book.holders };
  };
}
