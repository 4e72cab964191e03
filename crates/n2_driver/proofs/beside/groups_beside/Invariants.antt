use Rattle.std.proofs.Common.{◌≡◌, drop}
use Rattle.n2_runs.specs.Machine.{Machine}
use Rattle.n2_runs.specs.FlatRun.{Flat}
use Rattle.n2_runs.specs.Recorded.{actors_in}
use Rattle.n2_flat.specs.State.{machine_of}
use Rattle.n2_driver.specs.Beside.{AreBeside, AreUnderway}
use Rattle.n2_driver.proofs.beside.groups_beside.Given as goal

abbrev pub invariant-loop-group : goal.invariant-loop-group
invariant-loop-group l = record {
  beside : AreBeside l.machine l.layout l.flat;
  board : l.machine.board ≡ l.fn.machine.board;
  map : l.machine.map ≡ l.fn.machine.map;
  flat_board : l.flat.board ≡ l.fn.flat.board;
  underway : (end : Machine) (flat_end : Flat) → AreUnderway end flat_end l.fn.machine (machine_of l.fn.flat) (actors_in l.groups) → AreUnderway end flat_end l.machine (machine_of l.flat) (actors_in (drop l.group-index l.groups));
}
