use Rattle.std.proofs.Common.{◌<◌, ◌≤◌, ◌+◌, ◌^◌, length}
use Rattle.n2_board.specs.declared.guards.Guard.{Guard}
use Rattle.n2_watch.specs.Table.{slot_of}
use Rattle.n2_watch.specs.Watched.{IsGuardOf}
use Rattle.n2_rates.proofs.watches.note_lines.Given as goal

abbrev pub invariant-notes : goal.invariant-notes
invariant-notes l = record {
  clock : l.watch.table.clock ≤ l.initial.watch.table.clock + l.i;
  at : l.at < l.lines;
  slots : (guard : Guard) → IsGuardOf l.watch.board guard → slot_of guard < length l.watch.table.got;
}
