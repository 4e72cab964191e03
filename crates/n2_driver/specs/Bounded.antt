-- How many turns a run has.
use Rattle.std.specs.Prelude.{ℕ, ◌+◌, ◌≤◌, if◌then◌else◌, List, [], ◌∷◌}
use Rattle.n2_parts.specs.declared.board.Board.{Board}
use Rattle.n2_board.specs.AddressMap.{AddressMap}
use Rattle.n2_runs.specs.Machine.{Machine, turn, is_over}
use Rattle.n2_driver.specs.Chosen.{most_turns}

-- the turns along a list of actors that are made: those of an actor that is not over by then
unfoldable pub made_turns : Board → AddressMap → Machine → List ℕ → ℕ
made_turns b map m [] = 0
made_turns b map m (actor ∷ order) = (if is_over b m actor then 0 else 1) + made_turns b map (turn b map m actor).machine order

-- no list of actors makes more of them from this state on than a run of the board may have
abbrev pub IsBounded : Board → AddressMap → Machine → Type 0
IsBounded b map m = (order : List ℕ) → made_turns b map m order ≤ most_turns b
