use Rattle.std.proofs.Common.{◌<◌, ◌≤◌, ◌+◌}
use Rattle.n2_rates.proofs.watches.pass_lines.Given as goal

abbrev pub invariant-accesses : goal.invariant-accesses
invariant-accesses l = record {
  clock : l.watch.table.clock ≤ l.initial.watch.table.clock + l.i;
  at : l.at < l.lines;
}
