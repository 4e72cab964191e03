-- A board with its images, as what stands at each address and who may touch each line.
use Rattle.std.specs.Prelude.{ℕ, List}
use Rattle.n2_elf.specs.declared.image.Image.{Image}
use Rattle.n2_parts.specs.declared.board.Board.{Board}
use Rattle.n2_board.specs.declared.classes.Class.{Class}
use Rattle.n2_board.specs.declared.classes.LineZone.{LineZone}
use Rattle.n2_board.specs.declared.places.Place.{Place}
use Rattle.n2_board.specs.declared.places.PlaceZone.{PlaceZone}
use Rattle.n2_board.specs.Segments.{loaded_segments}
use Rattle.n2_board.specs.Classes.{line_zones, class_in}
use Rattle.n2_board.specs.Places.{places_of, place_in}

pub record AddressMap : Type 0 where
  pub lines : List LineZone
  pub places : List PlaceZone

unfoldable pub address_map : Board → List Image → AddressMap
address_map b images = record { lines = line_zones b (loaded_segments images); places = places_of b }

-- the class of a line
abbrev pub class_of : AddressMap → ℕ → Class
class_of map line = class_in map.lines line

-- the place of an address whose bit 31 is clear
abbrev pub place : AddressMap → ℕ → Place
place map address = place_in map.places address
