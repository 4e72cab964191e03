use Rattle.std.proofs.Common.{◌≡◌, ℕ, ◌-◌, ◌++◌, List, replicate}
use Rattle.n2_runs.specs.Machine.{Machine}
use Rattle.n2_runs.specs.FlatRun.{Flat}
use Rattle.n2_flat.specs.State.{machine_of}
use Rattle.n2_driver.specs.Beside.{AreBeside, AreUnderway}
use Rattle.n2_driver.proofs.beside.turns_beside.Given as goal

abbrev pub invariant-loop-made : goal.invariant-loop-made
invariant-loop-made l = record {
  beside : AreBeside l.machine l.layout l.flat;
  board : l.machine.board ≡ l.fn.machine.board;
  map : l.machine.map ≡ l.fn.machine.map;
  flat_board : l.flat.board ≡ l.fn.flat.board;
  underway : (end : Machine) (flat_end : Flat) (left : List ℕ) → AreUnderway end flat_end l.fn.machine (machine_of l.fn.flat) (replicate l.count l.actor ++ left) → AreUnderway end flat_end l.machine (machine_of l.flat) (replicate (l.count - l._made) l.actor ++ left);
}
