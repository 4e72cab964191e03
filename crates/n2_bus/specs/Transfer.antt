-- One transfer: what a request reads and changes of the memories and the devices of a board, and what the bus replies.
use Rattle.std.specs.Prelude.{◌≡◌, ℕ, ◌^◌, ◌<◌, List, [], ◌∷◌, length, true, false, replicate, get_or}
use Rattle.n2_word.specs.declared.Width.{Width}
use Rattle.n2_parts.specs.declared.board.Board.{Board}
use Rattle.n2_parts.specs.declared.board.DeviceEvent.{DeviceEvent}
use Rattle.n2_parts.specs.declared.board.DeviceEvent.TheVariants as events
use Rattle.n2_board.specs.declared.places.Place.{Place}
use Rattle.n2_board.specs.declared.places.Place.TheVariants.{Memory, Device, Nothing}
use Rattle.n2_board.specs.Places.{place_in}
use Rattle.n2_memory.specs.Memories.{Contents, AreWords, line_at, with_line, read_at, written_at}
use Rattle.n2_devices.specs.declared.answer.Answer.{Answer}
use Rattle.n2_devices.specs.Devices.{Devices, Reaction, read_word, write_word, happened}
use Rattle.n2_devices.specs.Wires.{shown}
use Rattle.n2_bus.specs.declared.request.Request.{Request}
use Rattle.n2_bus.specs.declared.request.Request.TheVariants.{FillCode, FillData, WriteBack, Read, Write, Sample, Tick, Receive, Drain}
use Rattle.n2_bus.specs.declared.request.Reply.{Reply}
use Rattle.n2_bus.specs.Wiring.{Wiring, wiring_of}

-- what all actors share behind the bus
pub record Shared : Type 0 where
  pub memory : Contents
  pub devices : Devices

-- a bus: its wiring, and what it holds now
pub record BusState : Type 0 where
  pub wiring : Wiring
  pub shared : Shared

-- what a request leaves behind, and what it is replied
pub record Served : Type 0 where
  pub shared : Shared
  pub reply : Reply

-- ---- replies

-- eight words of a reply that has one value, or none
abbrev pub one_word : ℕ → List ℕ
one_word value = value ∷ replicate 7 0

abbrev pub no_words : List ℕ
no_words = replicate 8 0

-- a line of words
abbrev pub line_reply : List ℕ → Reply
line_reply words = record { words = words; lines = 0; took = false; pointer = 0 }

-- the interrupt lines of a core
abbrev pub lines_of : Wiring → Devices → ℕ → ℕ
lines_of w devices core = shown devices (get_or w.wires core [])

-- the answer of a device, with the core's lines as they are after it
abbrev pub device_reply : Wiring → ℕ → Devices → Answer → Reply
device_reply w core devices answer =
    record { words = one_word answer.value; lines = lines_of w devices core; took = answer.took; pointer = answer.pointer }

-- ---- loads and stores past the caches

abbrev pub device_served : Wiring → ℕ → Shared → Reaction Devices → Served
device_served w core s reaction =
    record { shared = record s { devices = reaction.state }; reply = device_reply w core reaction.state reaction.answer }

abbrev pub unserved : Shared → Served
unserved s = record { shared = s; reply = line_reply no_words }

abbrev pub read_served : Wiring → ℕ → Shared → Place → ℕ → Width → Served
read_served w core s Memory address width =
    record { shared = s; reply = record { words = one_word (read_at s.memory address width); lines = lines_of w s.devices core; took = false; pointer = 0 } }
read_served w core s (Device part offset) address width = device_served w core s (read_word s.devices part offset)
read_served w core s Nothing address width = unserved s

abbrev pub write_served : Wiring → ℕ → Shared → Place → ℕ → Width → ℕ → Served
write_served w core s Memory address width value =
    record {
      shared = record s { memory = written_at s.memory address width value };
      reply = record { words = no_words; lines = lines_of w s.devices core; took = true; pointer = 0 };
    }
write_served w core s (Device part offset) address width value = device_served w core s (write_word s.devices part offset value)
write_served w core s Nothing address width value = unserved s

-- ---- device events

abbrev pub event_served : Shared → Reaction Devices → Served
event_served s reaction =
    record { shared = record s { devices = reaction.state }; reply = record { words = no_words; lines = 0; took = reaction.answer.took; pointer = 0 } }

-- ---- all requests. A line's words go to a core or come from it; `Sample` answers the core's interrupt lines
unfoldable pub served : Wiring → ℕ → Shared → Request → Served
served w actor s (FillCode line) = record { shared = s; reply = line_reply (line_at s.memory line) }
served w actor s (FillData line) = record { shared = s; reply = line_reply (line_at s.memory line) }
served w actor s (WriteBack line words) = record { shared = record s { memory = with_line s.memory line words }; reply = line_reply no_words }
served w actor s (Read address width) = read_served w actor s (place_in w.places address) address width
served w actor s (Write address width value) = write_served w actor s (place_in w.places address) address width value
served w actor s Sample = record { shared = s; reply = record { words = no_words; lines = lines_of w s.devices actor; took = false; pointer = 0 } }
served w actor s (Tick n) = event_served s (happened s.devices (events.Tick n))
served w actor s (Receive uart) = event_served s (happened s.devices (events.Receive uart))
served w actor s (Drain uart) = event_served s (happened s.devices (events.Drain uart))

-- the bus after a request
abbrev pub bus_after : BusState → ℕ → Request → BusState
bus_after bus actor request = record { wiring = bus.wiring; shared = (served bus.wiring actor bus.shared request).shared }

-- the numbers of a request fit its fields
abbrev pub FitsFields : Request → Type 0
FitsFields (WriteBack line words) = (length words ≡ 8) × AreWords words
FitsFields (Write address width value) = value < 2 ^ 32
FitsFields _ = Unit {0}

-- the request for an event
abbrev pub request_for : DeviceEvent → Request
request_for (events.Tick n) = Tick n
request_for (events.Receive uart) = Receive uart
request_for (events.Drain uart) = Drain uart

-- ---- a bus stands for what is shared on a board
pub record StandsFor (b : Board) (bus : BusState) (shared : Shared) : Type 0 where
  pub wiring : bus.wiring ≡ wiring_of b
  pub memory : bus.shared.memory ≡ shared.memory
  pub devices : bus.shared.devices ≡ shared.devices
