use Rattle.std.proofs.Common.{sym, ◌∙◌, arith}
use Rattle.n2_parts.proofs.Steps.{first_from-step, first_from-done}
use Rattle.n2_board.proofs.placement.entry_faults.Goals as goal

pub returns-in-Some : goal.returns-in-Some
returns-in-Some c = first_from-step _ c.loop-k.k c.args.count _ _ c.loop-k-test.true c.in-Some.ensures c.loop-k.invariant

pub loop-k-preserved : goal.loop-k-preserved
loop-k-preserved c = first_from-step _ c.loop-k.k c.args.count _ _ c.loop-k-test.true c.in-None.ensures c.loop-k.invariant

pub returns : goal.returns
returns c = sym (first_from-done _ c.loop-k.k c.args.count (omega arith)) ∙ c.loop-k.invariant
