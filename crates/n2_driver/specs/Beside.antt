-- The machine with caches and the flat machine side by side, along an order.
use Rattle.std.specs.Prelude.{◌≡◌, ℕ, List}
use Rattle.n2_board.specs.AddressMap.{AddressMap}
use Rattle.n2_runs.specs.Machine.{Machine, run, acts}
use Rattle.n2_runs.specs.FlatRun.{Flat, flat}
use Rattle.n2_smp.specs.Standing.{Parts}
use Rattle.n2_smp.specs.Replayed.{Stands}
use Rattle.n2_flat.specs.State.{State, IsWhole}

-- machines of one board and one map: the one stands for a state, and the other is whole
pub record AreBeside (v : Parts) (map : AddressMap) (s : State) : Type 0 where
  pub board : s.board ≡ v.board
  pub map_is : map ≡ v.map
  pub whole : IsWhole map s
  pub state : Machine
  pub stands : Stands v state

-- the machine stands for a state from which what is left of the order leads to where the whole order leads, and the acts of
-- what is left lead the flat machine to where all acts lead
pub record AreUnderway (end : Machine) (flat_end : Flat) (v : Parts) (f : Flat) (left : List ℕ) : Type 0 where
  pub state : Machine
  pub stands : Stands v state
  pub leads : run v.board v.map state left ≡ end
  pub flat_leads : flat v.board v.map f (acts v.board v.map state left) ≡ flat_end
