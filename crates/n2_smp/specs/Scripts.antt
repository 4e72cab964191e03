-- How far the device actor has come in the script of a board.
use Rattle.std.specs.Prelude.{◌≡◌, ℕ, ◌-◌, ◌<◌, List, [], ◌∷◌, ◌++◌, replicate, drop, slice_get, Some}
use Rattle.n2_parts.specs.declared.board.Board.{Board}
use Rattle.n2_parts.specs.declared.board.ScriptRow.{ScriptRow}
use Rattle.n2_parts.specs.declared.board.DeviceEvent.{DeviceEvent}
use Rattle.n2_runs.specs.Machine.{events_of}

-- how many rows it has passed, and how often it made the event of the next
pub record Reached : Type 0 where
  pub row : ℕ
  pub made : ℕ

-- the events that are left of rows, of which the first made its event so often
abbrev pub left_of : ℕ → List ScriptRow → List DeviceEvent
left_of made [] = []
left_of made (row ∷ rows) = replicate (row.times - made) row.event ++ events_of rows

-- the events that are left of a board's script
abbrev pub left : Board → Reached → List DeviceEvent
left b reached = left_of reached.made (drop reached.row b.script)

-- the next row has an event left
abbrev pub IsReached : Board → Reached → Type 0
IsReached b reached = (row : ScriptRow) → slice_get b.script reached.row ≡ Some row → reached.made < row.times
