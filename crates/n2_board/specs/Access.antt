-- What a load, a store or a fetch reaches, or why it is cut off: the rules of the discipline that
-- depend on the layout and the access alone.
use Rattle.std.specs.Prelude.{ℕ, ◌^◌, Bool, true, false, ◌&&◌, ◌==◌, nat_le, if◌then◌else◌, Option, Some, None, Result, Ok, Err}
use Rattle.n2_word.specs.declared.Width.{Width}
use Rattle.n2_word.specs.declared.Width.TheVariants.{Byte, Half, Word}
use Rattle.n2_word.specs.Lines.{without_bypass, bypasses, line}
use Rattle.n2_parts.specs.declared.board.Part.{Part}
use Rattle.n2_board.specs.declared.classes.Class.{Class}
use Rattle.n2_board.specs.declared.classes.Class.TheVariants.{Code, Private, Mutex, Passed, Uncached, Absent}
use Rattle.n2_board.specs.declared.places.Place.{Place}
use Rattle.n2_board.specs.declared.places.Place.TheVariants.{Memory, Device, Nothing}
use Rattle.n2_board.specs.declared.access.Route.{Route}
use Rattle.n2_board.specs.declared.access.Route.TheVariants.{Cached, Bypassing}
use Rattle.n2_board.specs.declared.access.Direction.{Direction}
use Rattle.n2_board.specs.declared.access.Direction.TheVariants.{Load, Store}
use Rattle.n2_board.specs.declared.access.Target.{Target}
use Rattle.n2_board.specs.declared.access.Target.TheVariants as targets
use Rattle.n2_board.specs.declared.access.Violation.{Violation}
use Rattle.n2_board.specs.declared.access.Violation.TheVariants.{Stray, Separate}
use Rattle.n2_board.specs.AddressMap.{AddressMap, class_of, place}

-- the route of a load or store, by its address and whether its instruction goes past the cache
abbrev pub route_of : ℕ → Bool → Route
route_of address io = if bypasses address io then Bypassing else Cached

abbrev pub is_cached : Route → Bool
is_cached Cached = true
is_cached Bypassing = false

-- a load or store of memory that its line's class allows to a core: code is not written; what is a
-- core's own is for that core and not past the cache; lines with a guard are not accessed past the
-- cache; uncached lines are accessed past the cache alone; other lines are not accessed
abbrev pub allows : Class → ℕ → Route → Direction → Bool
allows Code core route Load = true
allows Code core route Store = false
allows (Private owner) core route direction = is_cached route && owner == core
allows (Mutex mutex) core route direction = is_cached route
allows (Passed region) core route direction = is_cached route
allows Uncached core Cached direction = false
allows Uncached core Bypassing direction = true
allows Absent core route direction = false

-- an access of memory that is allowed reaches it, and is separate otherwise
abbrev pub memory_target : Bool → Result Target Violation
memory_target true = Ok targets.Memory
memory_target false = Err Separate

-- of a device whole words are accessed past the cache; less than a word strays
abbrev pub device_target : Part → ℕ → Width → Route → Result Target Violation
device_target part offset Byte route = Err Stray
device_target part offset Half route = Err Stray
device_target part offset Word Cached = Err Separate
device_target part offset Word Bypassing = Ok (targets.Device part offset)

abbrev pub target_at : Place → Class → ℕ → Width → Route → Direction → Result Target Violation
target_at Memory class core width route direction = memory_target (allows class core route direction)
target_at (Device part offset) class core width route direction = device_target part offset width route
target_at Nothing class core width route direction = Err Stray

-- what a core's load or store reaches, or why it is cut off: it strays where it names nothing, or
-- less than a word of a device; it is separate where its line's class does not allow it to that
-- core, or where it goes to a device through the cache
unfoldable pub data_target : AddressMap → ℕ → ℕ → Width → Route → Direction → Result Target Violation
data_target map core address width route direction = target_at (place map (without_bypass address)) (class_of map (line address)) core width route direction

-- code may be fetched; other lines of memory are separate
abbrev pub fetch_of : Class → Option Violation
fetch_of Code = None
fetch_of _ = Some Separate

abbrev pub fetch_at : Place → Class → Option Violation
fetch_at Memory class = fetch_of class
fetch_at (Device part offset) class = Some Stray
fetch_at Nothing class = Some Stray

-- why a fetch is cut off, if it is: it strays where its address has bit 31 set or is in no memory,
-- and is separate where its line is not code
unfoldable pub fetch_violation : AddressMap → ℕ → Option Violation
fetch_violation map address = if nat_le (2 ^ 31) address then Some Stray else fetch_at (place map address) (class_of map (line address))
