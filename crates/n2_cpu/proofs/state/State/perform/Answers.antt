use Rattle.std.proofs.Common.{◌≡◌, subst}
use Rattle.n2_cpu.specs.declared.aim.Aim.{Aim}
use Rattle.n2_cpu.specs.declared.aim.Aim.TheVariants as aims
use Rattle.n2_front.specs.Turn.{served_by, wants_by}
use Rattle.n2_cpu.specs.Aims.{intent_of, IsMeant}
use Rattle.n2_cpu.specs.Stands.{core_now}
use Rattle.n2_cpu.proofs.Doing.{answers, answers_sample, answers_evict, answers_fill}
use Rattle.n2_cpu.proofs.state.State.perform.Goals as goal

pub returns-in-Sample-clause-turned : goal.returns-in-Sample-clause-turned
returns-in-Sample-clause-turned c = λ b w past h shared core m r.
    let s = c.args.self.now in
    let replied = subst (λ (a : Aim). c.args.reply.now ≡ (served_by b c.args.layout.now s.clock.number w (wants_by s.dcache (intent_of (core_now s past).front s.regs a))).reply) c.in-Sample.is r in
    answers b c.args.layout.now w past s _ _ c.args.aim aims.Sample c.in-Sample.is (answers_sample b c.args.layout.now w past s _ _ c.args.reply.now replied (c.sample.ensures.turned b c.args.layout.now w.book past h))

pub returns-in-Evict-clause-turned : goal.returns-in-Evict-clause-turned
returns-in-Evict-clause-turned c = λ b w past h shared core m r.
    let s = c.args.self.now in
    answers b c.args.layout.now w past s _ _ c.args.aim (aims.Evict c.in-Evict.set) c.in-Evict.is (answers_evict b c.args.layout.now w past s _ _ c.in-Evict.set (c.evict.ensures.turned b c.args.layout.now w.book past h))

pub returns-in-Interrupt-clause-turned : goal.returns-in-Interrupt-clause-turned
returns-in-Interrupt-clause-turned c = λ b w past h shared core m r.
    answers b c.args.layout.now w past c.args.self.now _ _ c.args.aim aims.Interrupt c.in-Interrupt.is (c.interrupt.ensures.turned b c.args.layout.now w.book past h)

pub returns-in-Stop-clause-turned : goal.returns-in-Stop-clause-turned
returns-in-Stop-clause-turned c = λ b w past h shared core m r.
    answers b c.args.layout.now w past c.args.self.now _ _ c.args.aim (aims.Stop c.in-Stop.stop) c.in-Stop.is (c.halt.ensures.turned b c.args.layout.now w.book past h)

pub returns-in-FillCode-clause-turned : goal.returns-in-FillCode-clause-turned
returns-in-FillCode-clause-turned c = λ b w past h shared core m r.
    let s = c.args.self.now in
    let replied = subst (λ (a : Aim). c.args.reply.now ≡ (served_by b c.args.layout.now s.clock.number w (wants_by s.dcache (intent_of (core_now s past).front s.regs a))).reply) c.in-FillCode.is r in
    let meant = subst (λ (a : Aim). IsMeant b c.args.layout.now s.clock.number w.book past (intent_of (core_now s past).front s.regs a)) c.in-FillCode.is m in
    answers b c.args.layout.now w past s _ _ c.args.aim (aims.FillCode c.in-FillCode.line) c.in-FillCode.is (answers_fill b c.args.layout.now w past s _ _ c.in-FillCode.line c.args.reply.now replied (c.fill_code.ensures.turned b c.args.layout.now w.book past h meant.0 meant.1))
