use Rattle.std.proofs.Common.{◌≡◌}
use Rattle.n2_runs.specs.Machine.{Machine as Caching}
use Rattle.n2_runs.specs.Knows.{IsBookKept}
use Rattle.n2_smp.specs.Standing.{StandsFor}
use Rattle.n2_threads.specs.Rounds.{HasMoved}
use Rattle.n2_threads.proofs.rounds.run_rounds.Given as goal

abbrev pub invariant-loop-round : goal.invariant-loop-round
invariant-loop-round g l = record {
  board : l.machine.board ≡ l.board;
  map : l.machine.map ≡ l.fn.machine.map;
  moved : (m : Caching) → StandsFor l.fn.machine m → IsBookKept l.board l.fn.machine.map m → HasMoved l.board l.fn.machine.map m l.machine l.round;
}
