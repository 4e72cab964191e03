-- How a bus is wired, which never changes: what stands at each address, and which interrupt lines each core has. It says
-- which requests are proper, whatever memories and devices hold.
use Rattle.std.specs.Prelude.{ℕ, ◌^◌, ◌&&◌, ◌==◌, nat_lt, nat_le, Bool, true, false, List, length}
use Rattle.n2_word.specs.declared.Width.{Width}
use Rattle.n2_word.specs.declared.Width.TheVariants.{Byte, Half, Word}
use Rattle.n2_word.specs.Words.{is_aligned}
use Rattle.n2_parts.specs.declared.board.Board.{Board}
use Rattle.n2_parts.specs.declared.board.MemoryRow.{MemoryRow}
use Rattle.n2_parts.specs.MemoryLines.{line_count, line_place}
use Rattle.n2_board.specs.declared.places.Place.{Place}
use Rattle.n2_board.specs.declared.places.Place.TheVariants.{Memory, Device, Nothing}
use Rattle.n2_board.specs.declared.places.PlaceZone.{PlaceZone}
use Rattle.n2_board.specs.Places.{places_of, place_in}
use Rattle.n2_devices.specs.declared.wires.Wire.{Wire}
use Rattle.n2_devices.specs.Wires.{wires_of}
use Rattle.n2_bus.specs.declared.request.Request.{Request}
use Rattle.n2_bus.specs.declared.request.Request.TheVariants.{FillCode, FillData, WriteBack, Read, Write, Sample, Tick, Receive, Drain}

pub record Wiring : Type 0 where
  pub memories : List MemoryRow
  pub places : List PlaceZone
  -- for each core the wires of its interrupt lines
  pub wires : List (List Wire)
  -- how many UARTs there are
  pub uarts : ℕ

abbrev pub wiring_of : Board → Wiring
wiring_of b = record { memories = b.memory; places = places_of b; wires = wires_of b; uarts = length b.uart }

-- one of the memories has a line
abbrev pub has_line : Wiring → ℕ → Bool
has_line w line = nat_lt (line_place w.memories line) (line_count w.memories)

-- an actor is a core, or it is the device actor, which comes after the last core
abbrev pub is_core : Wiring → ℕ → Bool
is_core w actor = nat_lt actor (length w.wires)

abbrev pub is_device_actor : Wiring → ℕ → Bool
is_device_actor w actor = actor == length w.wires

abbrev pub has_uart : Wiring → ℕ → Bool
has_uart w uart = nat_lt uart w.uarts

-- a memory is accessed in any width, and a device by whole words
abbrev pub is_accessed : Place → Width → Bool
is_accessed Memory width = true
is_accessed (Device part offset) Byte = false
is_accessed (Device part offset) Half = false
is_accessed (Device part offset) Word = true
is_accessed Nothing width = false

-- an aligned access whose address has bit 31 clear
abbrev pub is_access : Wiring → ℕ → Width → Bool
is_access w address width = is_aligned address width && nat_lt address (2 ^ 31) && is_accessed (place_in w.places address) width

-- what an actor may ask for
abbrev pub proper : Wiring → ℕ → Request → Bool
proper w actor (FillCode line) = is_core w actor && has_line w line
proper w actor (FillData line) = is_core w actor && has_line w line
proper w actor (WriteBack line words) = is_core w actor && has_line w line
proper w actor (Read address width) = is_core w actor && is_access w address width
proper w actor (Write address width value) = is_core w actor && is_access w address width
proper w actor Sample = is_core w actor
proper w actor (Tick n) = is_device_actor w actor && nat_le 1 n
proper w actor (Receive uart) = is_device_actor w actor && has_uart w uart
proper w actor (Drain uart) = is_device_actor w actor && has_uart w uart
