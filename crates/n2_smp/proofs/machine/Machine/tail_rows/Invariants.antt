use Rattle.std.proofs.Common.{◌≡◌, ℕ, ◌+◌, ◌≤◌, drop}
use Rattle.n2_parts.specs.declared.board.Board.{Board}
use Rattle.n2_board.specs.AddressMap.{AddressMap}
use Rattle.n2_runs.specs.Machine.{Machine}
use Rattle.n2_runs.specs.Knows.{IsBookKept}
use Rattle.n2_runs.specs.Replay.{tail_rows}
use Rattle.n2_smp.specs.Standing.{StandsFor}
use Rattle.n2_smp.proofs.Following.{IsOnTheWay}
use Rattle.n2_smp.proofs.machine.Machine.tail_rows.Given as goal

abbrev pub invariant-loop-core : goal.invariant-loop-core
invariant-loop-core l = record {
  few : l.core ≤ l.count;
  board : l.self.board ≡ l.initial.self.board;
  map : l.self.map ≡ l.initial.self.map;
  way : (m : Machine) → StandsFor l.initial.self m → IsBookKept l.initial.self.board l.initial.self.map m → IsOnTheWay l.self (tail_rows l.initial.self.board l.initial.self.map l.first 0 l.tails m) (λ (b : Board) (g : AddressMap) (x : Machine). tail_rows b g (l.first + l.core) l.core (drop l.core l.tails) x);
}
