use Rattle.std.proofs.Common.{◌≡◌, ◌-◌, ◌++◌}
use Rattle.n2_board.specs.Places.{kind_zones}
use Rattle.n2_board.proofs.places.put_kind.Given as goal

abbrev pub invariant-loop-index : goal.invariant-loop-index
invariant-loop-index l = l.out.items ++ kind_zones l.board l.kind l.index (l.count - l.index) ≡ l.fn.out.items ++ kind_zones l.board l.kind 0 l.count
