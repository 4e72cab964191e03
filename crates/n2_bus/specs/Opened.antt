-- A bus as it is opened, and what it keeps whatever is bus_after.
use Rattle.std.specs.Prelude.{◌≡◌, ℕ, ◌^◌, ◌<◌, List, length, IsTrue}
use Rattle.n2_word.specs.Lines as words
use Rattle.n2_elf.specs.declared.image.Image.{Image}
use Rattle.n2_parts.specs.declared.board.Board.{Board}
use Rattle.n2_parts.specs.declared.board.Part.{Part}
use Rattle.n2_parts.specs.MemoryLines.{HasLine}
use Rattle.n2_board.specs.declared.places.PlaceZone.{PlaceZone}
use Rattle.n2_board.specs.declared.places.Place.TheVariants.{Memory, Device}
use Rattle.n2_board.specs.Places.{place_in}
use Rattle.n2_memory.specs.Memories.{Contents, IsFull}
use Rattle.n2_memory.specs.Start.{start}
use Rattle.n2_devices.specs.Devices.{started, has_word}
use Rattle.n2_devices.specs.Wires.{Wired}
use Rattle.n2_bus.specs.Wiring.{wiring_of}
use Rattle.n2_bus.specs.Transfer.{Shared, BusState}

-- the memories and the devices of a board at the start
abbrev pub shared_at_start : Board → List Image → Shared
shared_at_start b images = record { memory = start b.memory images; devices = started b }

-- the bus of a board at the start
abbrev pub opened : Board → List Image → BusState
opened b images = record { wiring = wiring_of b; shared = shared_at_start b images }

-- the bus of some memories and devices, which stand at these places
abbrev pub bus_of : Contents → Wired → List PlaceZone → BusState
bus_of memory wired places =
    record {
      wiring = record { memories = memory.memories; places = places; wires = wired.wires; uarts = length wired.devices.uarts };
      shared = record { memory = memory; devices = wired.devices };
    }

-- a bus holds what it is wired to: all words of its memories, in which each address of a memory has its line; each
-- word of a device that has an address; and its UARTs
pub record IsSound (bus : BusState) : Type 0 where
  pub memories : bus.shared.memory.memories ≡ bus.wiring.memories
  pub full : IsFull bus.shared.memory
  pub lines : (address : ℕ) → address < 2 ^ 31 → place_in bus.wiring.places address ≡ Memory → HasLine bus.wiring.memories (words.line address)
  pub registers : (address : ℕ) (part : Part) (offset : ℕ) → place_in bus.wiring.places address ≡ Device part offset → IsTrue (has_word bus.shared.devices part offset)
  pub uarts : length bus.shared.devices.uarts ≡ bus.wiring.uarts
