-- A machine that makes turns round after round.
use Rattle.std.specs.Prelude.{◌≡◌, ℕ, ◌<◌, ◌≤◌, if◌then◌else◌, Bool, true, false, List}
use Rattle.n2_parts.specs.declared.board.Board.{Board}
use Rattle.n2_board.specs.AddressMap.{AddressMap}
use Rattle.n2_runs.specs.Machine.{Machine, run, is_over, is_finished}
use Rattle.n2_runs.specs.Knows.{IsBookKept}
use Rattle.n2_smp.specs.Standing.{Parts, StandsFor}
use Rattle.n2_driver.specs.Bounded.{made_turns}

-- an actor with a number below this one is not over
pub record RunsNow (b : Board) (m : Machine) (most actor : ℕ) : Type 0 where
  pub within : actor < most
  pub runs : is_over b m actor ≡ false

abbrev pub count_of : Bool → ℕ
count_of made = if made then 1 else 0

-- a machine's value stands for where some list of actors leads from a state, and at least so many of its turns were made
pub record HasMoved (b : Board) (map : AddressMap) (m : Machine) (v : Parts) (turns : ℕ) : Type 0 where
  pub order : List ℕ
  pub stands : StandsFor v (run b map m order)
  pub kept : IsBookKept b map (run b map m order)
  pub made : turns ≤ made_turns b map m order

-- it stands for the end of a finished run
pub record HasEnded (b : Board) (map : AddressMap) (m : Machine) (v : Parts) : Type 0 where
  pub order : List ℕ
  pub stands : StandsFor v (run b map m order)
  pub kept : IsBookKept b map (run b map m order)
  pub finished : is_finished b (run b map m order) ≡ true
