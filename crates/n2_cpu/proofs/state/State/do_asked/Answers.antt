use Rattle.std.proofs.Common.{◌≡◌, None, ap, subst}
use Rattle.n2_watch.specs.Book.{knowledge}
use Rattle.n2_front.specs.Tasks.{Task, task_of, task_breach}
use Rattle.n2_front.specs.Tasks as tasks
use Rattle.n2_front.specs.Turn.{served_by, wants_task}
use Rattle.n2_cpu.proofs.Doing.{does, does_done, does_raise, does_break, does_code, does_op, does_load, does_store, load_task, store_task}
use Rattle.n2_cpu.proofs.state.State.do_asked.Goals as goal

pub returns-in-Done-clause-turned : goal.returns-in-Done-clause-turned
returns-in-Done-clause-turned c = λ b w past h shared core br r.
    does b c.args.layout.now w past c.args.self.now _ _ c.args.asked tasks.Done (ap task_of c.in-Done.is) (does_done b c.args.layout.now w past c.args.self.now _ _ (c.finish.ensures.turned b c.args.layout.now w.book past h))

pub returns-in-Raise-clause-turned : goal.returns-in-Raise-clause-turned
returns-in-Raise-clause-turned c = λ b w past h shared core br r.
    does b c.args.layout.now w past c.args.self.now _ _ c.args.asked tasks.Raise (ap task_of c.in-Raise.is) (does_raise b c.args.layout.now w past c.args.self.now _ _ (c.raise.ensures.turned b c.args.layout.now w.book past h))

pub returns-in-Broke-clause-turned : goal.returns-in-Broke-clause-turned
returns-in-Broke-clause-turned c = λ b w past h shared core br r.
    does b c.args.layout.now w past c.args.self.now _ _ c.args.asked tasks.Break (ap task_of c.in-Broke.is) (does_break b c.args.layout.now w past c.args.self.now _ _ (c.halt.ensures.turned b c.args.layout.now w.book past h))

pub returns-in-CodeOp-clause-turned : goal.returns-in-CodeOp-clause-turned
returns-in-CodeOp-clause-turned c = λ b w past h shared core br r.
    does b c.args.layout.now w past c.args.self.now _ _ c.args.asked (tasks.CodeOp c.in-CodeOp.address) (ap task_of c.in-CodeOp.is) (does_code b c.args.layout.now w past c.args.self.now _ _ c.in-CodeOp.address (c.drop_code.ensures.turned b c.args.layout.now w.book past h))

pub returns-in-LineOp-clause-turned : goal.returns-in-LineOp-clause-turned
returns-in-LineOp-clause-turned c = λ b w past h shared core br r.
    does b c.args.layout.now w past c.args.self.now _ _ c.args.asked (tasks.LineOp c.in-LineOp.op c.in-LineOp.address) (ap task_of c.in-LineOp.is) (does_op b c.args.layout.now w past c.args.self.now _ _ c.in-LineOp.op c.in-LineOp.address (c.clean.ensures.turned b c.args.layout.now w.book past h))

pub returns-in-Cached-clause-turned : goal.returns-in-Cached-clause-turned
returns-in-Cached-clause-turned c = λ b w past h shared core br r.
    let s = c.args.self.now in
    let e = load_task c.args.asked _ _ _ _ _ _ c.in-Load.is c.of.ensures c.in-Cached.is in
    let unbroken = subst (λ (t : Task). task_breach b c.args.layout.now (knowledge b w.book s.clock.number past) t ≡ None) e br in
    let replied = subst (λ (t : Task). c.args.reply.now ≡ (served_by b c.args.layout.now s.clock.number w (wants_task s.dcache t)).reply) e r in
    does b c.args.layout.now w past s _ _ c.args.asked _ e (does_load b c.args.layout.now w past s _ _ c.in-Load.address c.in-Load.width c.in-Load.signed c.in-Load.to c.args.reply.now replied (c.load.ensures.turned b c.args.layout.now w.book past h unbroken))

pub returns-in-Cached-of-clause-turned : goal.returns-in-Cached-of-clause-turned
returns-in-Cached-of-clause-turned c = λ b w past h shared core br r.
    let s = c.args.self.now in
    let e = store_task c.args.asked _ _ _ _ _ c.in-Store.is c.of-in-Store.ensures c.in-Cached-of.is in
    let unbroken = subst (λ (t : Task). task_breach b c.args.layout.now (knowledge b w.book s.clock.number past) t ≡ None) e br in
    let replied = subst (λ (t : Task). c.args.reply.now ≡ (served_by b c.args.layout.now s.clock.number w (wants_task s.dcache t)).reply) e r in
    does b c.args.layout.now w past s _ _ c.args.asked _ e (does_store b c.args.layout.now w past s _ _ c.in-Store.address c.in-Store.width c.in-Store.value c.args.reply.now replied (c.store.ensures.turned b c.args.layout.now w.book past h unbroken))
