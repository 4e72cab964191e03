use Rattle.std.proofs.Common.{false, refl, ap}
use Rattle.n2_word.specs.declared.Width.TheVariants.{Word}
use Rattle.n2_watch.specs.Book.{knowledge}
use Rattle.n2_watch.specs.declared.access.Access.TheVariants.{Op}
use Rattle.n2_front.specs.Tasks.{task_of}
use Rattle.n2_cpu.proofs.Doing.{load_task, store_task, load_past_task, store_past_task}
use Rattle.n2_cpu.proofs.Straying.{asked_stops, op_strays}
use Rattle.n2_cpu.proofs.judging.judge_asked.Goals as goal

pub returns-in-Cached-clause-judged : goal.returns-in-Cached-clause-judged
returns-in-Cached-clause-judged c = λ b book past h.
    asked_stops b c.args.layout.now (knowledge b book c.args.core past) c.args.pc c.args.word c.args.asked.now _ _ (load_task c.args.asked.now _ _ _ _ _ _ c.in-Load.is c.of.ensures c.in-Cached.is) (c.judge_cached.ensures b book c.args.core past h)

pub returns-in-Bypassing-clause-judged : goal.returns-in-Bypassing-clause-judged
returns-in-Bypassing-clause-judged c = λ b book past h.
    asked_stops b c.args.layout.now (knowledge b book c.args.core past) c.args.pc c.args.word c.args.asked.now _ _ (load_past_task c.args.asked.now _ _ _ _ _ _ c.in-Load.is c.of.ensures c.in-Bypassing.is) (c.judge_past.ensures b book past h)

pub returns-in-Cached-of-clause-judged : goal.returns-in-Cached-of-clause-judged
returns-in-Cached-of-clause-judged c = λ b book past h.
    asked_stops b c.args.layout.now (knowledge b book c.args.core past) c.args.pc c.args.word c.args.asked.now _ _ (store_task c.args.asked.now _ _ _ _ _ c.in-Store.is c.of-in-Store.ensures c.in-Cached-of.is) (c.judge_cached-in-Cached-of.ensures b book c.args.core past h)

pub returns-in-Bypassing-of-clause-judged : goal.returns-in-Bypassing-of-clause-judged
returns-in-Bypassing-of-clause-judged c = λ b book past h.
    asked_stops b c.args.layout.now (knowledge b book c.args.core past) c.args.pc c.args.word c.args.asked.now _ _ (store_past_task c.args.asked.now _ _ _ _ _ c.in-Store.is c.of-in-Store.ensures c.in-Bypassing-of.is) (c.judge_past-in-Bypassing-of.ensures b book past h)

pub returns-in-LineOp-clause-judged : goal.returns-in-LineOp-clause-judged
returns-in-LineOp-clause-judged c = λ b book past h.
    asked_stops b c.args.layout.now (knowledge b book c.args.core past) c.args.pc c.args.word c.args.asked.now _ _ (ap task_of c.in-LineOp.is)
    (c.judge.ensures b book c.args.core past Word h (op_strays b c.args.layout.now (knowledge b book c.args.core past) (Op _ _) Word c.args.core refl false _ _ refl refl))
