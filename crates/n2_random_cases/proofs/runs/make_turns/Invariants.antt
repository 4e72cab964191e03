use Rattle.std.proofs.Common.{◌≡◌, length}
use Rattle.n2_driver.specs.Beside.{AreBeside}
use Rattle.n2_random_cases.proofs.runs.make_turns.Given as goal

abbrev pub invariant-loop-i : goal.invariant-loop-i
invariant-loop-i l = record {
  beside : AreBeside l.machine l.layout l.flat;
  board : l.machine.board ≡ l.fn.machine.board;
  cores : l.cores ≡ length l.machine.board.core;
}
