use Rattle.std.proofs.Common.{◌≡◌, ℕ, ◌+◌, drop}
use Rattle.n2_parts.specs.declared.board.Board.{Board}
use Rattle.n2_board.specs.AddressMap.{AddressMap}
use Rattle.n2_runs.specs.Machine.{Machine}
use Rattle.n2_runs.specs.Knows.{IsBookKept}
use Rattle.n2_runs.specs.Replay.{entry_rows}
use Rattle.n2_smp.specs.Standing.{StandsFor}
use Rattle.n2_smp.proofs.Following.{IsOnTheWay}
use Rattle.n2_smp.proofs.machine.Machine.entry_rows.Given as goal

abbrev pub invariant-loop-i : goal.invariant-loop-i
invariant-loop-i l = record {
  board : l.self.board ≡ l.initial.self.board;
  map : l.self.map ≡ l.initial.self.map;
  way : (m : Machine) → StandsFor l.initial.self m → IsBookKept l.initial.self.board l.initial.self.map m → IsOnTheWay l.self (entry_rows l.initial.self.board l.initial.self.map 2 l.entries m) (λ (b : Board) (g : AddressMap) (x : Machine). entry_rows b g (l.i + 2) (drop l.i l.entries) x);
}
