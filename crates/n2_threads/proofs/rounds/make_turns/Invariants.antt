use Rattle.std.proofs.Common.{◌≡◌, false}
use Rattle.n2_runs.specs.Machine.{Machine as Caching}
use Rattle.n2_runs.specs.Knows.{IsBookKept}
use Rattle.n2_smp.specs.Standing.{StandsFor}
use Rattle.n2_threads.specs.Rounds.{HasMoved, count_of}
use Rattle.n2_threads.proofs.rounds.make_turns.Given as goal

abbrev pub invariant-loop-actor : goal.invariant-loop-actor
invariant-loop-actor l = record {
  board : l.machine.board ≡ l.board;
  map : l.machine.map ≡ l.fn.machine.map;
  same : l.made ≡ false → l.machine ≡ l.fn.machine;
  moved : (m : Caching) → StandsFor l.fn.machine m → IsBookKept l.board l.fn.machine.map m → HasMoved l.board l.fn.machine.map m l.machine (count_of l.made);
}
