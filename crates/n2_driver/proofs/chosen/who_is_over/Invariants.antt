use Rattle.std.proofs.Common.{◌≡◌, length}
use Rattle.n2_runs.specs.Machine.{Machine as Caching}
use Rattle.n2_smp.specs.Standing.{StandsFor}
use Rattle.n2_driver.specs.Chosen.{overs_from}
use Rattle.n2_driver.proofs.chosen.who_is_over.Given as goal

abbrev pub invariant-loop-actor : goal.invariant-loop-actor
invariant-loop-actor l = record {
  count : length l.over.items ≡ l.actor;
  over : (m : Caching) → StandsFor l.machine m → length m.cores ≡ length l.board.core → l.over.items ≡ overs_from l.board m 0 l.actor;
}
