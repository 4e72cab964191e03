use Rattle.std.proofs.Common.{arith, length, length-drop, ap, ◌∙◌}
use Rattle.std.proofs.lemmas.Grind.{common_steps}
use Rattle.n2_outside.proofs.Appends.{appended-more}
use Rattle.n2_outside.proofs.put_all.Goals as goal

pub loop-at-preserved : goal.loop-at-preserved
loop-at-preserved g c = (
  omega (arith, c.in_ok-at.ensures.part.0, length-drop c.loop-at.at c.args.text.now),
  appended-more _ _ _ c.args.text.now _ c.loop-at.at c.in_ok-at.field-0 c.loop-at.invariant.1 c.in_ok-at.ensures.bytes (grind (arith, common_steps)),
  c.in_ok-at.ensures.cause.kept ∙ c.loop-at.invariant.2,
  λ none. absurd (omega (arith, ap length none)),
)
