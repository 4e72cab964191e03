-- What stands at an address: the memories and devices of a board.
use Rattle.std.specs.Prelude.{ℕ, zero, suc, ◌+◌, ◌-◌, ◌/◌, List, [], ◌∷◌, ◌++◌, Option, Some, None, if◌then◌else◌}
use Rattle.n2_parts.specs.declared.board.Board.{Board}
use Rattle.n2_parts.specs.declared.board.Part.{Part}
use Rattle.n2_parts.specs.declared.board.PartKind.{PartKind}
use Rattle.n2_parts.specs.declared.board.PartKind.TheVariants as kinds
use Rattle.n2_parts.specs.declared.spans.Spans.{Spans}
use Rattle.n2_parts.specs.Parts.{count_of, part_of, devices}
use Rattle.n2_parts.specs.Rules.{holds, spans_of}
use Rattle.n2_board.specs.declared.places.Place.{Place}
use Rattle.n2_board.specs.declared.places.Place.TheVariants.{Memory, Device, Nothing}
use Rattle.n2_board.specs.declared.places.Area.{Area}
use Rattle.n2_board.specs.declared.places.Area.TheVariants.{InMemory, Words}
use Rattle.n2_board.specs.declared.places.PlaceZone.{PlaceZone}

-- what a memory or a side of a device is; the words of a device are counted from first on
abbrev pub area_of : Part → ℕ → PartKind → Area
area_of part first kinds.Memory = InMemory
area_of part first _ = Words part first

-- the places of a part: of a mailbox the sending side with words 0 to 3, and the receiving side
-- with words 4 to 7
abbrev pub zones_at : Part → Option Spans → List PlaceZone
zones_at part None = []
zones_at part (Some spans) = record { bytes = spans.first; area = area_of part 0 part.kind } ∷ record { bytes = spans.second; area = area_of part 4 part.kind } ∷ []

-- those of n parts of an array from part i on
unfoldable pub kind_zones : Board → PartKind → ℕ → ℕ → List PlaceZone
kind_zones b kind i zero = []
kind_zones b kind i (suc n) = zones_at (part_of kind i) (spans_of b (part_of kind i)) ++ kind_zones b kind (i + 1) n

-- those of all parts of some arrays
unfoldable pub place_zones : Board → List PartKind → List PlaceZone
place_zones b [] = []
place_zones b (kind ∷ kinds) = kind_zones b kind 0 (count_of b kind) ++ place_zones b kinds

abbrev pub place_at : Area → ℕ → ℕ → Place
place_at InMemory from address = Memory
place_at (Words part first) from address = Device part (first + (address - from) / 4)

-- the place of an address
unfoldable pub place_in : List PlaceZone → ℕ → Place
place_in [] address = Nothing
place_in (zone ∷ zones) address = if holds zone.bytes address then place_at zone.area zone.bytes.from address else place_in zones address

-- the places of all memories and devices of a board
abbrev pub places_of : Board → List PlaceZone
places_of b = place_zones b (kinds.Memory ∷ devices)
