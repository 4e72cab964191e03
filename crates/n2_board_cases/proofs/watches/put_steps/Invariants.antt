use Rattle.std.proofs.Common.{◌<◌, ◌≤◌, length}
use Rattle.n2_board.specs.declared.guards.Guard.{Guard}
use Rattle.n2_watch.specs.Table.{slot_of}
use Rattle.n2_watch.specs.Watched.{IsGuardOf}
use Rattle.n2_board_cases.proofs.watches.put_steps.Given as goal

abbrev pub invariant-steps : goal.invariant-steps
invariant-steps l = record {
  clock : l.watch.table.clock ≤ l.number;
  number : l.number ≤ 4000000;
  slots : (guard : Guard) → IsGuardOf l.watch.board guard → slot_of guard < length l.watch.table.got;
}
