use Rattle.std.proofs.Common.{[], ◌∷◌, ◌++◌, ap, ◌∙◌, arith}
use Rattle.n2_board.specs.declared.classes.LineZone.{LineZone}
use Rattle.n2_board.proofs.Zones.{regions-more, regions-done}
use Rattle.n2_board.proofs.classes.region_zones.Goals as goal

pub loop-row-preserved : goal.loop-row-preserved
loop-row-preserved c = record {
  count = omega arith;
  rest = regions-more c.loop-row.i c.loop-row.out.items _ _ c.args.rows.now c.loop-row.row-index c.row-item.result c.loop-row-test.true c.row-item.is
      (c.in_ok-push.ensures.items ∙ ap (λ (z : LineZone). c.loop-row.out.items ++ z ∷ []) c.region_zone.ensures) c.loop-row.invariant.rest;
}

pub returns : goal.returns
returns c = regions-done c.loop-row.i c.loop-row.out.items _ c.args.rows.now c.loop-row.row-index (omega arith) c.loop-row.invariant.rest
