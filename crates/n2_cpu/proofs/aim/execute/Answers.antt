use Rattle.std.proofs.Common.{◌≡◌, Option, Some, None, sym, ap, ◌∙◌}
use Rattle.n2_exec.specs.declared.registers.Regs.{Regs}
use Rattle.n2_exec.specs.declared.Asked.TheVariants.{Done}
use Rattle.n2_exec.specs.Outcomes.{regs_of}
use Rattle.n2_exec.specs.Effect.{effect_of_word}
use Rattle.n2_parts.specs.declared.stops.Stop.{Stop}
use Rattle.n2_cpu.proofs.Stepping.{unchanged, executes_stop, executes_does}
use Rattle.n2_cpu.proofs.aim.execute.Goals as goal

pub returns-in-Err-clause-intent : goal.returns-in-Err-clause-intent
returns-in-Err-clause-intent c = λ b book f e h.
    let o = effect_of_word c.args.regs.now c.args.word in
    executes_stop b c.args.layout.now c.args.core book f c.args.word o c.act_word-asked.new.regs c.act_word-asked.result (c.act_word-asked.ensures.registers ∙ ap (λ (r : Regs). regs_of r o) (sym e)) c.act_word-asked.ensures.asked c.in-Err.stop (c.in-Err.ensures.judged b book f.past h)

pub returns-in-Ok-clause-intent : goal.returns-in-Ok-clause-intent
returns-in-Ok-clause-intent c = λ b book f e h.
    let o = effect_of_word c.args.regs.now c.args.word in
    executes_does b c.args.layout.now c.args.core book f c.args.word o c.act_word-asked.new.regs c.act_word-asked.result (c.act_word-asked.ensures.registers ∙ ap (λ (r : Regs). regs_of r o) (sym e)) c.act_word-asked.ensures.asked (c.in-Ok.ensures.judged b book f.past h)

pub returns-in-Err-clause-kept : goal.returns-in-Err-clause-kept
returns-in-Err-clause-kept c =
    c.act_word-asked.ensures.registers ∙ unchanged c.args.regs.now (effect_of_word c.args.regs.now c.args.word) c.act_word-asked.result c.act_word-asked.ensures.asked (λ (d : c.act_word-asked.result ≡ Done). let z : ◌≡◌ {A = Option Stop} (Some c.in-Err.stop) None = c.in-Err.ensures.done d in absurd (cc))
