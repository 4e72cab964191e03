use Rattle.std.proofs.Common.{◌≡◌, ◌++◌, drop}
use Rattle.n2_board.specs.Places.{place_zones}
use Rattle.n2_board.proofs.places.put_kinds.Given as goal

abbrev pub invariant-loop-kind : goal.invariant-loop-kind
invariant-loop-kind l = l.out.items ++ place_zones l.board (drop l.kind-index l.kinds) ≡ l.fn.out.items ++ place_zones l.board l.kinds
