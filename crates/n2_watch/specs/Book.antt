-- The book: the states of the devices, what writes put into the queues of UARTs, and who holds each region that is passed
-- on. With it stands who owns a guard, and what an access does to ownership.
use Rattle.std.specs.Prelude.{ℕ, ◌/◌, ◌%◌, ◌^◌, List, [], ◌∷◌, ◌++◌, map, Bool, true, false, ◌==◌, ◌&&◌, if◌then◌else◌, Option, Some, None, option_map, unwrap_or, get_or, slice_get, slice_set}
use Rattle.n2_word.specs.Lines.{line}
use Rattle.n2_mutex.specs.Mutex as mutex
use Rattle.n2_mailbox.specs.Mailbox as mailbox
use Rattle.n2_parts.specs.declared.board.Board.{Board}
use Rattle.n2_parts.specs.declared.board.CoreRow.{CoreRow}
use Rattle.n2_parts.specs.declared.board.MailboxRow.{MailboxRow}
use Rattle.n2_parts.specs.declared.board.RegionRow.{RegionRow}
use Rattle.n2_parts.specs.declared.board.RegionClass.{RegionClass}
use Rattle.n2_parts.specs.declared.board.RegionClass.TheVariants as classes
use Rattle.n2_parts.specs.declared.board.PartKind.{PartKind}
use Rattle.n2_parts.specs.declared.board.PartKind.TheVariants as kinds
use Rattle.n2_devices.specs.Devices.{Devices, started}
use Rattle.n2_board.specs.declared.guards.Guard.{Guard}
use Rattle.n2_board.specs.declared.guards.Guard.TheVariants.{Mutex, Passed}
use Rattle.n2_board.specs.declared.places.Place.{Place}
use Rattle.n2_board.specs.declared.places.Place.TheVariants as places
use Rattle.n2_board.specs.AddressMap.{AddressMap, class_of, place}
use Rattle.n2_board.specs.declared.guards.Holder.{Holder}
use Rattle.n2_board.specs.declared.guards.Holder.TheVariants.{ByCore, ByMailbox}
use Rattle.n2_board.specs.Guards.{owns_mutex, owns_region, passed_region}
use Rattle.n2_bus.specs.declared.request.Request.{Request}
use Rattle.n2_bus.specs.declared.request.Request.TheVariants as requests
use Rattle.n2_bus.specs.declared.request.Reply.{Reply}
use Rattle.n2_watch.specs.declared.past.Past.{Past}
use Rattle.n2_watch.specs.declared.past.Past.TheVariants.{Got, Gave}
use Rattle.n2_watch.specs.Discipline.{Knowledge}

pub record Book : Type 0 where
  -- the devices, with the bytes of each UART's input that are left
  pub devices : Devices
  -- for each UART the bytes that writes put into its queue
  pub sent : List (List ℕ)
  -- for each region of the board its holder; none where the region is not passed on
  pub holders : List (Option Holder)

-- ---- at the start

-- the board names the first holder
abbrev pub first_holder : RegionClass → Option Holder
first_holder classes.Code = None
first_holder (classes.Private core) = None
first_holder (classes.Mutex mutex) = None
first_holder (classes.Passed holder mailboxes) = Some (ByCore holder)
first_holder classes.Uncached = None

abbrev pub start_book : Board → Book
start_book b = record {
  devices = started b;
  sent = map (λ row. []) b.uart;
  holders = map (λ (row : RegionRow). first_holder row.class) b.region;
}

-- ---- ownership

abbrev pub owns_if : (Holder → Bool) → Option Holder → Bool
owns_if test None = false
owns_if test (Some holder) = test holder

abbrev pub owns_state : ℕ → Option mutex.State → Bool
owns_state cpuid None = false
owns_state cpuid (Some state) = owns_mutex (mutex.value_of state 0) cpuid

-- whether core k, which has this cpuid, owns a guard
abbrev pub owns : Book → ℕ → ℕ → Guard → Bool
owns book cpuid k (Mutex index) = owns_state cpuid (slice_get book.devices.mutexes index)
owns book cpuid k (Passed region) = owns_if (λ holder. owns_region holder k) (get_or book.holders region None)

-- the Pointer register of a mailbox
abbrev pub pointer_of : Book → ℕ → ℕ
pointer_of book index = unwrap_or (option_map (λ (state : mailbox.State). state.pointer) (slice_get book.devices.mailboxes index)) 0

-- the cpuid of a core, and how many sets its data cache has
abbrev pub cpuid_of : Board → ℕ → ℕ
cpuid_of b k = unwrap_or (option_map (λ (row : CoreRow). row.cpuid) (slice_get b.core k)) 0

abbrev pub sets_of : Board → ℕ → ℕ
sets_of b k = unwrap_or (option_map (λ (row : CoreRow). row.dcache / 32) (slice_get b.core k)) 0

-- which guards core k of a board owns
abbrev pub owned_by : Board → Book → ℕ → Guard → Bool
owned_by b book k = owns book (cpuid_of b k) k

-- what core k of a board knows of the book, with its past events
abbrev pub knowledge : Board → Book → ℕ → List Past → Knowledge
knowledge b book k past = record {
  core = k;
  cpuid = cpuid_of b k;
  sets = sets_of b k;
  owns = owned_by b book k;
  pointer = pointer_of book;
  past = past;
}

-- ---- what a request and its reply do to the book

-- the passed region that a Pointer lies in
abbrev pub region_at : AddressMap → ℕ → Option ℕ
region_at map pointer = passed_region (class_of map (line pointer))

abbrev pub with_holder : List (Option Holder) → Option ℕ → Holder → List (Option Holder)
with_holder holders None holder = holders
with_holder holders (Some region) holder = slice_set holders region (Some holder)

-- the core that a mailbox is read by
abbrev pub receiver_of : Board → ℕ → ℕ
receiver_of b index = unwrap_or (option_map (λ (row : MailboxRow). row.receiver) (slice_get b.mailbox index)) 0

-- a read of Command that takes a message makes the receiver the holder of the region that its Pointer lies in
abbrev pub holders_read : Board → AddressMap → Book → PartKind → ℕ → Reply → List (Option Holder)
holders_read b map book kinds.Mailbox index reply =
    if reply.took then with_holder book.holders (region_at map reply.pointer) (ByCore (receiver_of b index)) else book.holders
holders_read b map book kind index reply = book.holders

-- a write of Command at the sending side that is taken makes the mailbox the holder of the region that the Pointer
-- register lies in
abbrev pub holders_written : AddressMap → Book → PartKind → ℕ → ℕ → Reply → List (Option Holder)
holders_written map book kinds.Mailbox index offset reply =
    if offset == 0 && reply.took then with_holder book.holders (region_at map (pointer_of book index)) (ByMailbox index) else book.holders
holders_written map book kind index offset reply = book.holders

-- a write of a UART's data register that is taken puts its low byte into the queue
abbrev pub sent_written : Book → PartKind → ℕ → ℕ → ℕ → Reply → List (List ℕ)
sent_written book kinds.Uart index offset value reply =
    if offset == 0 && reply.took then slice_set book.sent index (get_or book.sent index [] ++ value % 2 ^ 8 ∷ []) else book.sent
sent_written book kind index offset value reply = book.sent

-- by the place of the address
abbrev pub holders_after_read : Board → AddressMap → Book → Place → Reply → List (Option Holder)
holders_after_read b map book (places.Device part offset) reply = holders_read b map book part.kind part.index reply
holders_after_read b map book _ reply = book.holders

abbrev pub holders_after_write : AddressMap → Book → Place → Reply → List (Option Holder)
holders_after_write map book (places.Device part offset) reply = holders_written map book part.kind part.index offset reply
holders_after_write map book _ reply = book.holders

abbrev pub sent_after_write : Book → Place → ℕ → Reply → List (List ℕ)
sent_after_write book (places.Device part offset) value reply = sent_written book part.kind part.index offset value reply
sent_after_write book _ value reply = book.sent

-- by the request; other requests change neither
abbrev pub holders_after : Board → AddressMap → Book → Request → Reply → List (Option Holder)
holders_after b map book (requests.Read address width) reply = holders_after_read b map book (place map address) reply
holders_after b map book (requests.Write address width value) reply = holders_after_write map book (place map address) reply
holders_after b map book _ reply = book.holders

abbrev pub sent_after : AddressMap → Book → Request → Reply → List (List ℕ)
sent_after map book (requests.Write address width value) reply = sent_after_write book (place map address) value reply
sent_after map book _ reply = book.sent

-- the book with the devices as a request left them
abbrev pub book_after : Board → AddressMap → Book → Devices → Request → Reply → Book
book_after b map book devices request reply =
    record { devices = devices; sent = sent_after map book request reply; holders = holders_after b map book request reply }

-- ---- what an access does to the ownership of the core that makes it

abbrev pub region_guard : Option ℕ → List Guard
region_guard None = []
region_guard (Some region) = Passed region ∷ []

-- the guards whose owner a read may change: the region of a message that is taken
abbrev pub guards_read : AddressMap → PartKind → Reply → List Guard
guards_read map kinds.Mailbox reply = if reply.took then region_guard (region_at map reply.pointer) else []
guards_read map kind reply = []

-- the guards whose owner a write may change: the mutex, or the region that is posted
abbrev pub guards_written : AddressMap → Book → PartKind → ℕ → ℕ → List Guard
guards_written map book kinds.Mutex index offset = if offset == 0 then Mutex index ∷ [] else []
guards_written map book kinds.Mailbox index offset = if offset == 0 then region_guard (region_at map (pointer_of book index)) else []
guards_written map book kind index offset = []

-- by the place of the address
abbrev pub guards_after_read : AddressMap → Place → Reply → List Guard
guards_after_read map (places.Device part offset) reply = guards_read map part.kind reply
guards_after_read map _ reply = []

abbrev pub guards_after_write : AddressMap → Book → Place → List Guard
guards_after_write map book (places.Device part offset) = guards_written map book part.kind part.index offset
guards_after_write map book _ = []

-- by the request, with the book before it
abbrev pub guards_touched : AddressMap → Book → Request → Reply → List Guard
guards_touched map book (requests.Read address width) reply = guards_after_read map (place map address) reply
guards_touched map book (requests.Write address width value) reply = guards_after_write map book (place map address)
guards_touched map book _ reply = []

-- Got where ownership begins, Gave where it ends
abbrev pub noted : Guard → Bool → Bool → List Past → List Past
noted guard true true past = past
noted guard true false past = Gave guard ∷ past
noted guard false true past = Got guard ∷ past
noted guard false false past = past

-- the past events of a core after an access, by what it owned before and owns after
abbrev pub all_noted : (Guard → Bool) → (Guard → Bool) → List Guard → List Past → List Past
all_noted before after [] past = past
all_noted before after (guard ∷ guards) past = all_noted before after guards (noted guard (before guard) (after guard) past)

-- the past events of core k after its request, by the book before and after it
abbrev pub past_after : Board → AddressMap → ℕ → Book → Book → Request → Reply → List Past → List Past
past_after b map k before after request reply past =
    all_noted (owned_by b before k) (owned_by b after k) (guards_touched map before request reply) past
