-- A machine that is on its way along a chosen order.
use Rattle.std.specs.Prelude.{◌≡◌, ℕ, List, Bool}
use Rattle.n2_parts.specs.declared.board.Board.{Board}
use Rattle.n2_board.specs.AddressMap.{AddressMap}
use Rattle.n2_order.specs.Choices.{State}
use Rattle.n2_runs.specs.Machine.{Machine, run}
use Rattle.n2_runs.specs.Knows.{IsBookKept}
use Rattle.n2_smp.specs.Standing.{Parts, StandsFor}
use Rattle.n2_driver.specs.Chosen.{overs, chosen}

-- it stands for a state from which the rest of the order leads to where the whole order leads
pub record IsUnderway (b : Board) (map : AddressMap) (end : Machine) (v : Parts) (over : List Bool) (order : State) (left : ℕ) : Type 0 where
  pub state : Machine
  pub stands : StandsFor v state
  pub kept : IsBookKept b map state
  pub over_is : over ≡ overs b state
  pub leads : run b map state (chosen b map left state order) ≡ end
