use Rattle.std.proofs.Common.{◌≡◌, map, take}
use Rattle.std.specs.Prelude.{position}
use Rattle.n2_parts.specs.Rules.{holds}
use Rattle.n2_board.proofs.finder.all_found.Given as goal

abbrev pub invariant-loop-point : goal.invariant-loop-point
invariant-loop-point l = l.found.items ≡ map (λ point. position (λ span. holds span point) l.spans) (take l.point-index l.points)
