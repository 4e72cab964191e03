use Rattle.std.proofs.Common.{sym, ◌∙◌, arith}
use Rattle.n2_parts.proofs.Steps.{first_from-step, first_from-done}
use Rattle.n2_board.proofs.overlaps.overlap_in.Goals as goal

pub returns-in-Some : goal.returns-in-Some
returns-in-Some c = first_from-step _ c.loop-a.a c.args.count _ _ c.loop-a-test.true c.in-Some.ensures c.loop-a.invariant

pub loop-a-preserved : goal.loop-a-preserved
loop-a-preserved c = first_from-step _ c.loop-a.a c.args.count _ _ c.loop-a-test.true c.in-None.ensures c.loop-a.invariant

pub returns : goal.returns
returns c = sym (first_from-done _ c.loop-a.a c.args.count (omega arith)) ∙ c.loop-a.invariant
