use Rattle.std.proofs.Common.{◌≡◌, Some, sym, ap, ◌∙◌}
use Rattle.n2_bus.specs.declared.request.Request.{Request}
use Rattle.n2_cpu.proofs.Proper.{wanted_proper}
use Rattle.n2_cpu.proofs.state.State.plan.Goals as goal

pub returns-in-Some-clause-proper : goal.returns-in-Some-clause-proper
returns-in-Some-clause-proper c = λ b k row d w request h found e.
    let same : c.in-Some.request ≡ request = cc in
    wanted_proper b c.args.layout.now row c.args.self.now d w c.aim-aim.new.regs c.aim-aim.result k h found
    (λ x. c.aim-aim.ensures.intent b w.book row d x h.regs h.data_slots h.code_slots h.holds.code_lines h.holds.watch)
    c.aim-aim.ensures.fit request
    (sym (c.wants.ensures d.front c.aim-aim.new.regs) ∙ c.in-Some.is ∙ ap (λ (x : Request). Some x) same)
