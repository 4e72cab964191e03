use Rattle.std.proofs.Common.{Some, true, refl, sym, ◌∙◌}
use Rattle.n2_cpu.proofs.Making.{makes_next, wanted_by}
use Rattle.n2_cpu.proofs.state.State.answer.Goals as goal

pub returns-clause-next : goal.returns-clause-next
returns-clause-next c = λ b k row d w request h shared found running wanted replied.
    let s = c.args.self.now in
    let r = c.aim-aim.new.regs in
    let a = c.aim-aim.result in
    makes_next b c.args.layout.now s w r a c.make.new.self c.make.result true c.args.reply.now d row k h shared found running
    (λ x. c.aim-aim.ensures.intent b w.book row d x h.regs h.data_slots h.code_slots h.holds.code_lines h.holds.watch)
    c.aim-aim.ensures.kept (Some request)
    (sym (wanted_by b c.args.layout.now k row s d w r a h found (λ x. c.aim-aim.ensures.intent b w.book row d x h.regs h.data_slots h.code_slots h.holds.code_lines h.holds.watch)) ∙ wanted)
    refl replied (c.make.ensures.made b w d.front.past)
