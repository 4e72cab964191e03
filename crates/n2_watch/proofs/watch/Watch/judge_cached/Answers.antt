use Rattle.std.proofs.Common.{◌≡◌, true, sym, ◌∙◌, arith}
use Rattle.std.proofs.lemmas.Bool.Decides.{nat_tests}
use Rattle.n2_watch.specs.Watched.{is_again}
use Rattle.n2_watch.proofs.Again.{passes_now}
use Rattle.n2_watch.proofs.Judging.{touch_judged}
use Rattle.n2_watch.proofs.watch.Watch.judge_cached.Goals as goal

pub returns-then-is_again-clause-breach : goal.returns-then-is_again-clause-breach
returns-then-is_again-clause-breach c = λ b book past h.
    let is : is_again c.args.self.now _ c.args.store ≡ true = sym c.is_again.ensures ∙ c.if-is_again.true in
    sym (passes_now b c.args.layout.now c.args.self.now book past h _ c.args.address c.args.store c.args.width c.line_of.ensures is)

pub returns-then-place-clause-breach : goal.returns-then-place-clause-breach
returns-then-place-clause-breach c = λ b book past h.
    touch_judged b c.args.layout.now c.args.self.now book past h c.args.address c.args.store c.args.width _ (c.passing_place-place.ensures past c.args.width h.lines (λ e. let t = c.if-place.true in absurd (grind (arith, nat_tests))))

pub returns-clause-breach : goal.returns-clause-breach
returns-clause-breach c = λ b book past h.
    touch_judged b c.args.layout.now c.args.self.now book past h c.args.address c.args.store c.args.width _ (c.judge_touch.ensures.breach past h.lines)
