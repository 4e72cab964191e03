-- The classes of lines, by the regions of a board and the segments that are loaded.
use Rattle.std.specs.Prelude.{ℕ, ◌+◌, ◌<◌, List, [], ◌∷◌, ◌++◌, length, map, if◌then◌else◌}
use Rattle.std.specs.List.{filter}
use Rattle.n2_parts.specs.declared.board.Board.{Board}
use Rattle.n2_parts.specs.declared.board.RegionRow.{RegionRow}
use Rattle.n2_parts.specs.declared.board.RegionClass.{RegionClass}
use Rattle.n2_parts.specs.declared.board.RegionClass.TheVariants as given
use Rattle.n2_parts.specs.Rules.{holds}
use Rattle.n2_board.specs.declared.classes.Class.{Class}
use Rattle.n2_board.specs.declared.classes.Class.TheVariants.{Code, Private, Mutex, Passed, Uncached, Absent}
use Rattle.n2_board.specs.declared.classes.LineZone.{LineZone}
use Rattle.n2_board.specs.declared.segments.LoadedSegment.{LoadedSegment}
use Rattle.n2_board.specs.Segments.{lines_of}

-- the class that a region gives its lines
abbrev pub class_of_region : ℕ → RegionClass → Class
class_of_region i given.Code = Code
class_of_region i (given.Private core) = Private core
class_of_region i (given.Mutex mutex) = Mutex mutex
class_of_region i (given.Passed holder mailboxes) = Passed i
class_of_region i given.Uncached = Uncached

abbrev pub region_zone : ℕ → RegionRow → LineZone
region_zone i row = record { lines = lines_of row.base row.size; class = class_of_region i row.class }

-- the lines of regions, from region i on
unfoldable pub region_zones : ℕ → List RegionRow → List LineZone
region_zones i [] = []
region_zones i (row ∷ rows) = region_zone i row ∷ region_zones (i + 1) rows

-- the lines of segments that are code
abbrev pub code_zones : List LoadedSegment → List LineZone
code_zones segments = map (λ s. record { lines = s.lines; class = Code }) (filter (λ s. s.code) segments)

-- the lines of segments that are a core's own
abbrev pub own_zones : List LoadedSegment → List LineZone
own_zones segments = map (λ s. record { lines = s.lines; class = Private s.core }) (filter (λ s. s.own) segments)

-- lines and their classes: regions go before code, and code before what is a core's own
unfoldable pub line_zones : Board → List LoadedSegment → List LineZone
line_zones b segments = region_zones 0 b.region ++ code_zones segments ++ own_zones segments

-- the class of a line: that of the first that holds it
unfoldable pub class_in : List LineZone → ℕ → Class
class_in [] line = Absent
class_in (zone ∷ zones) line = if holds zone.lines line then zone.class else class_in zones line

-- what a class names is a part of the board
abbrev pub NamesParts : Board → Class → Type 0
NamesParts b (Private core) = core < length b.core
NamesParts b (Mutex mutex) = mutex < length b.mutex
NamesParts b (Passed region) = region < length b.region
NamesParts b _ = Unit {0}
