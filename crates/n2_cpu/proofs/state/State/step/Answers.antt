use Rattle.std.proofs.Common.{◌≡◌, Some, None, false, refl, sym, ap, subst, ◌∙◌}
use Rattle.n2_exec.specs.declared.Asked.{Asked}
use Rattle.n2_exec.specs.declared.Asked.TheVariants.{Done}
use Rattle.n2_bus.specs.declared.request.Request.{Request}
use Rattle.n2_front.specs.Core.{stop_of}
use Rattle.n2_front.specs.Turn.{wants_by}
use Rattle.n2_cpu.specs.declared.turns.TheConstants.{NOTHING}
use Rattle.n2_cpu.specs.declared.aim.Aim.{Aim}
use Rattle.n2_cpu.specs.declared.aim.Aim.TheVariants.{Do}
use Rattle.n2_cpu.specs.Aims.{intent_of, Keeps}
use Rattle.n2_cpu.proofs.Proper.{wanted_proper}
use Rattle.n2_cpu.proofs.Making.{makes_next, wanted_by, step_made, none_of}
use Rattle.n2_cpu.proofs.state.State.step.Goals as goal

pub returns-in-None-clause-step : goal.returns-in-None-clause-step
returns-in-None-clause-step c = λ b k row d w h shared found.
    let s = c.args.self.now in
    let r = c.aim-aim.new.regs in
    let a = c.aim-aim.result in
    let running : stop_of d ≡ None = sym h.stop ∙ none_of s.stop (sym c.is_some.ensures ∙ c.if-is_some.false) in
    let wanted : wants_by s.dcache (intent_of d.front r a) ≡ None = sym (c.wants.ensures d.front r) ∙ c.in-None.is in
    step_made b c.args.layout.now k row s c.make_apart.new.self c.make_apart.result d w running
    (wanted_by b c.args.layout.now k row s d w r a h found (λ x. c.aim-aim.ensures.intent b w.book row d x h.regs h.data_slots h.code_slots h.holds.code_lines h.holds.watch) ∙ wanted)
    (makes_next b c.args.layout.now s w r a c.make_apart.new.self c.make_apart.result false NOTHING d row k h shared found running
    (λ x. c.aim-aim.ensures.intent b w.book row d x h.regs h.data_slots h.code_slots h.holds.code_lines h.holds.watch)
    c.aim-aim.ensures.kept None wanted refl refl (c.make_apart.ensures.made b w d.front.past))

pub returns-in-Do-Done-default-clause-step : goal.returns-in-Do-Done-default-clause-step
returns-in-Do-Done-default-clause-step c = λ b k row d w h shared found.
    let s = c.args.self.now in
    let r = c.aim-aim.new.regs in
    let a = Do Done c.in-Do-Done-default.place in
    let asks : c.in-Do-Done-default.field-0 ≡ Done = rw c.in-Do-Done-default.is at c.in-Do-Done-default.field-0-is in
    let is : c.aim-aim.result ≡ a = c.in-Do-Done-default.is ∙ ap (λ (what : Asked). Do what c.in-Do-Done-default.place) asks in
    let running : stop_of d ≡ None = sym h.stop ∙ none_of s.stop (sym c.is_some.ensures ∙ c.if-is_some.false) in
    step_made b c.args.layout.now k row s c.make.new.self c.make.result d w running
    (wanted_by b c.args.layout.now k row s d w r a h found (λ x. c.aim-aim.ensures.intent b w.book row d x h.regs h.data_slots h.code_slots h.holds.code_lines h.holds.watch ∙ ap (λ (y : Aim). intent_of d.front r y) is))
    (makes_next b c.args.layout.now s w r a c.make.new.self c.make.result false NOTHING d row k h shared found running
    (λ x. c.aim-aim.ensures.intent b w.book row d x h.regs h.data_slots h.code_slots h.holds.code_lines h.holds.watch ∙ ap (λ (y : Aim). intent_of d.front r y) is)
    (subst (λ (y : Aim). Keeps y s.regs r) is c.aim-aim.ensures.kept) None refl refl refl (c.make.ensures.made b w d.front.past))

pub returns-in-Some-clause-proper : goal.returns-in-Some-clause-proper
returns-in-Some-clause-proper c = λ b k row d w request h found e.
    let same : c.in-Some.request ≡ request = cc in
    wanted_proper b c.args.layout.now row c.args.self.now d w c.aim-aim.new.regs c.aim-aim.result k h found
    (λ x. c.aim-aim.ensures.intent b w.book row d x h.regs h.data_slots h.code_slots h.holds.code_lines h.holds.watch)
    c.aim-aim.ensures.fit request
    (sym (c.wants.ensures d.front c.aim-aim.new.regs) ∙ c.in-Some.is ∙ ap (λ (x : Request). Some x) same)
