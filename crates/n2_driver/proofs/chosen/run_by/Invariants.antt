use Rattle.std.proofs.Common.{◌≡◌, ◌-◌, ◌+◌, length}
use Rattle.n2_runs.specs.Machine.{Machine as Caching, run}
use Rattle.n2_runs.specs.Knows.{IsBookKept}
use Rattle.n2_smp.specs.Standing.{StandsFor}
use Rattle.n2_driver.specs.Chosen.{overs, most_turns, chosen_order}
use Rattle.n2_driver.specs.Driving.{IsUnderway}
use Rattle.n2_driver.proofs.chosen.run_by.Given as goal

abbrev pub invariant-loop-turn : goal.invariant-loop-turn
invariant-loop-turn l = record {
  board : l.machine.board ≡ l.board;
  map : l.machine.map ≡ l.fn.machine.map;
  actors : l.chooser.actors ≡ length l.board.core + 1;
  over : length l.over ≡ length l.board.core + 1;
  underway : (m : Caching) → StandsFor l.fn.machine m → IsBookKept l.board l.fn.machine.map m → l.fn.over ≡ overs l.board m → IsUnderway l.board l.fn.machine.map (run l.board l.fn.machine.map m (chosen_order l.board l.fn.machine.map m l.fn.chooser.state)) l.machine l.over l.chooser.state (most_turns l.board - l.turn);
}
