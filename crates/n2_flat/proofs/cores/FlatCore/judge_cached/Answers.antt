use Rattle.std.proofs.Common.{ℕ, Some, None, sym, ap, subst, ◌∙◌}
use Rattle.n2_parts.specs.declared.stops.Stop.{Stop}
use Rattle.n2_watch.specs.Discipline.{Strays, Breaks}
use Rattle.n2_front.specs.Tasks.{stop_for}
use Rattle.n2_flat.proofs.Noted.{core_with}
use Rattle.n2_flat.proofs.Judged.{IsTouchStop, touch_stop}
use Rattle.n2_flat.proofs.cores.FlatCore.judge_cached.Goals as goal

pub returns-in-Passed : goal.returns-in-Passed
returns-in-Passed c = λ b k book.
    let i = c.self.inside in
    subst (IsTouchStop b c.args.layout.now k book c.args.address c.args.store c.args.width c.args.word None) c.self.view_is
    (touch_stop b c.args.layout.now k book c.args.address c.args.store c.args.width c.args.word i.regs i.stop i.past i.watch None (c.in-Passed.ensures.breach b book i.past))

pub returns-in-Refused : goal.returns-in-Refused
returns-in-Refused c = λ b k book.
    let i = c.self.inside in
    let broken = c.in-Refused.broken in
    let same = c.refused.ensures ∙ ap (λ (n : ℕ). stop_for (Breaks broken.kind broken.line) i.regs.pc c.args.word n) c.in-Refused.ensures.address in
    subst (IsTouchStop b c.args.layout.now k book c.args.address c.args.store c.args.width c.args.word (Some c.refused.result)) c.self.view_is
    (subst (λ (stop : Stop). IsTouchStop b c.args.layout.now k book c.args.address c.args.store c.args.width c.args.word (Some stop) (core_with i.regs i.stop i.past i.watch)) (sym same)
    (touch_stop b c.args.layout.now k book c.args.address c.args.store c.args.width c.args.word i.regs i.stop i.past i.watch (Some (Breaks broken.kind broken.line)) (c.in-Refused.ensures.breach b book i.past)))

pub returns-in-Stray : goal.returns-in-Stray
returns-in-Stray c = λ b k book.
    let i = c.self.inside in
    subst (IsTouchStop b c.args.layout.now k book c.args.address c.args.store c.args.width c.args.word _) c.self.view_is
    (touch_stop b c.args.layout.now k book c.args.address c.args.store c.args.width c.args.word i.regs i.stop i.past i.watch (Some Strays) (c.in-Stray.ensures.breach b book i.past))
