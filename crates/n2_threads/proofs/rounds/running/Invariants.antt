use Rattle.std.proofs.Common.{◌≡◌, ◌≤◌, length}
use Rattle.n2_runs.specs.Machine.{Machine as Caching}
use Rattle.n2_smp.specs.Standing.{StandsFor}
use Rattle.n2_order.specs.Choices as orders
use Rattle.n2_driver.specs.Chosen.{overs_from}
use Rattle.n2_threads.proofs.rounds.running.Given as goal

abbrev pub invariant-loop-actor : goal.invariant-loop-actor
invariant-loop-actor l = record {
  count : length l.running.items ≤ l.actor;
  running : (m : Caching) → StandsFor l.machine m → length m.cores ≡ length l.board.core → l.running.items ≡ orders.running 0 (overs_from l.board m 0 l.actor);
}
