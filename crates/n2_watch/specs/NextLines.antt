-- The lines of memories in rising order.
use Rattle.std.specs.Prelude.{◌≡◌, ℕ, ◌^◌, ◌<◌, ◌≤◌, List, IsTrue, false, Option, Some, None, get_or}
use Rattle.n2_parts.specs.declared.board.MemoryRow.{MemoryRow}
use Rattle.n2_parts.specs.MemoryLines.{memory_has, HasLine}
use Rattle.n2_board.specs.AddressMap.{AddressMap, class_of}
use Rattle.n2_watch.specs.declared.records.Record.{Record}
use Rattle.n2_watch.specs.declared.runs.Run.{Run}
use Rattle.n2_watch.specs.Stands.{AreBuilt, IsRecorded}
use Rattle.n2_watch.specs.Watched.{is_touchable}

abbrev pub no_memory : MemoryRow
no_memory = record { base = 0; size = 0 }

-- none of the first so many memories has a line
abbrev pub NoneHas : List MemoryRow → ℕ → ℕ → Type 0
NoneHas rows many number = (k : ℕ) → k < many → memory_has (get_or rows k no_memory) number ≡ false

-- up to a line all lines from another one on are of a kind; all of them, where there is no such line
abbrev pub IsFirst : (ℕ → Type 0) → ℕ → Option ℕ → Type 0
IsFirst Passed from None = (number : ℕ) → from ≤ number → Passed number
IsFirst Passed from (Some line) = (from ≤ line) × (line < 2 ^ 28) × ((number : ℕ) → from ≤ number → number < line → Passed number)

-- records of the lines of memories below a bound that a core may touch
pub record IsOpen (core : ℕ) (map : AddressMap) (are_runs : List Run) (records : List Record) (bound : ℕ) (memories : List MemoryRow) : Type 0 where
  pub built : AreBuilt map are_runs records bound
  pub whole : (number : ℕ) → number < bound → HasLine memories number → IsTrue (is_touchable core (class_of map number)) → IsRecorded records number
