use Rattle.std.proofs.Common.{◌≡◌, ◌++◌, drop}
use Rattle.n2_board.specs.Classes.{region_zones}
use Rattle.n2_board.proofs.classes.region_zones.Given as goal

abbrev pub invariant-loop-row : goal.invariant-loop-row
invariant-loop-row l = record {
  count : l.i ≡ l.row-index;
  rest : l.out.items ++ region_zones l.i (drop l.row-index l.rows) ≡ region_zones 0 l.rows;
}
