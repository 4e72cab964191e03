use Rattle.std.proofs.Common.{◌≡◌, ◌<◌, length, map, ◌++◌, take, get_or}
use Rattle.n2_board.proofs.Finding.{first_holding, AreUpTo}
use Rattle.n2_board.proofs.finder.both_found.Given as goal

abbrev pub invariant-loop-point : goal.invariant-loop-point
invariant-loop-point l = record {
  so_far : l.found.items ≡ map (λ point. first_holding (l.first.0 ++ l.second.0) point) (take l.point-index l.points);
  first : l.point-index < length l.points → AreUpTo l.first.1 l.in_first (get_or l.points l.point-index 0);
  second : l.point-index < length l.points → AreUpTo l.second.1 l.in_second (get_or l.points l.point-index 0);
}
