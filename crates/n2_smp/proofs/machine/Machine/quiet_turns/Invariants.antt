use Rattle.std.proofs.Common.{◌≡◌, ℕ, ◌-◌}
use Rattle.n2_parts.specs.declared.board.Board.{Board}
use Rattle.n2_board.specs.AddressMap.{AddressMap}
use Rattle.n2_runs.specs.Machine.{Machine}
use Rattle.n2_runs.specs.Knows.{IsBookKept}
use Rattle.n2_runs.specs.Replay.{quiet_turns}
use Rattle.n2_smp.specs.Standing.{StandsFor}
use Rattle.n2_smp.proofs.Following.{IsOnTheWay}
use Rattle.n2_smp.proofs.machine.Machine.quiet_turns.Given as goal

abbrev pub invariant-loop-made : goal.invariant-loop-made
invariant-loop-made l = record {
  board : l.self.board ≡ l.initial.self.board;
  map : l.self.map ≡ l.initial.self.map;
  way : (m : Machine) → StandsFor l.initial.self m → IsBookKept l.initial.self.board l.initial.self.map m → IsOnTheWay l.self (quiet_turns l.initial.self.board l.initial.self.map l.actor l.count m) (λ (b : Board) (g : AddressMap) (x : Machine). quiet_turns b g l.actor (l.count - l._made) x);
}
