use Rattle.std.proofs.Common.{◌≡◌, ℕ, false, List, Option, Some, None, option_map, sym, ap, ◌∙◌, subst}
use Rattle.n2_word.specs.declared.Width.TheVariants.{Word}
use Rattle.n2_word.specs.Lines.{line}
use Rattle.n2_exec.specs.declared.registers.Regs.{Regs}
use Rattle.n2_exec.specs.Registers.{is_waiting}
use Rattle.n2_exec.specs.Effect.{effect_of_word}
use Rattle.n2_dcache.specs.declared.Held.{Held}
use Rattle.n2_front.specs.Retire.{who}
use Rattle.n2_front.specs.Tasks.{stop_for}
use Rattle.n2_parts.specs.declared.stops.Stop.{Stop}
use Rattle.n2_watch.specs.declared.access.Access.TheVariants.{Fetch}
use Rattle.n2_watch.specs.Discipline.{breach}
use Rattle.n2_front.specs.Turn.{executes, FillsCode}
use Rattle.n2_cpu.specs.Aims.{AreCode, held_word}
use Rattle.n2_cpu.proofs.Stepping.{steps_wait, steps_hold, steps_stop, steps_fill}
use Rattle.n2_cpu.proofs.aim.step.Goals as goal

held_like : (slots slots' : List (Option Held)) (regs regs' : Regs) (o : Option ℕ) → slots ≡ slots' → regs ≡ regs' → o ≡ held_word slots' regs'.pc → held_word slots regs.pc ≡ o
held_like slots slots' regs regs' o e f h = ap (λ (x : List (Option Held)). held_word x regs.pc) e ∙ ap (λ (r : Regs). held_word slots' r.pc) f ∙ sym h

pub returns-then-waiting-clause-intent : goal.returns-then-waiting-clause-intent
returns-then-waiting-clause-intent c = λ b book d e f code h.
    steps_wait b c.args.layout.now c.args.core book d (ap (λ (r : Regs). is_waiting r) e ∙ sym c.waiting.ensures ∙ c.if-waiting.true)

pub returns-in-Some-clause-intent : goal.returns-in-Some-clause-intent
returns-in-Some-clause-intent c = λ b book d e f code h.
    let busy : is_waiting d.front.regs ≡ false = ap (λ (r : Regs). is_waiting r) e ∙ sym c.waiting.ensures ∙ c.if-waiting.false in
    let held = held_like d.code_slots c.args.code.now d.front.regs c.args.regs.now _ f e c.in-Some.ensures in
    steps_hold b c.args.layout.now c.args.core book d c.in-Some.word busy h.map_of (subst (λ (x : List (Option Held)). AreCode b c.args.layout.now x) (sym f) code) held
    ∙ ap (λ (r : Regs). executes b c.args.layout.now c.args.core book d.front c.in-Some.word (effect_of_word r c.in-Some.word)) e
    ∙ c.execute.ensures.intent b book d.front e h

pub returns-in-Some-judge_fetch-clause-intent : goal.returns-in-Some-judge_fetch-clause-intent
returns-in-Some-judge_fetch-clause-intent c = λ b book d e f code h.
    let busy : is_waiting d.front.regs ≡ false = ap (λ (r : Regs). is_waiting r) e ∙ sym c.waiting.ensures ∙ c.if-waiting.false in
    let judged = c.in-Some-judge_fetch.ensures b (who b c.args.core d.front book) Word in
    steps_stop b c.args.layout.now c.args.core book d c.in-Some-judge_fetch.stop busy
    (subst (λ (r : Regs). Some c.in-Some-judge_fetch.stop ≡ option_map (λ why. stop_for why r.pc 0 r.pc) (breach b c.args.layout.now (who b c.args.core d.front book) (Fetch r.pc) Word)) (sym e) judged)

pub returns-in-None-judge_fetch-clause-intent : goal.returns-in-None-judge_fetch-clause-intent
returns-in-None-judge_fetch-clause-intent c = λ b book d e f code h.
    let busy : is_waiting d.front.regs ≡ false = ap (λ (r : Regs). is_waiting r) e ∙ sym c.waiting.ensures ∙ c.if-waiting.false in
    let held = held_like d.code_slots c.args.code.now d.front.regs c.args.regs.now _ f e c.in-None.ensures in
    let judged = c.in-None-judge_fetch.ensures b (who b c.args.core d.front book) Word in
    steps_fill b c.args.layout.now c.args.core book d busy held
    (subst (λ (r : Regs). ◌≡◌ {A = Option Stop} None (option_map (λ why. stop_for why r.pc 0 r.pc) (breach b c.args.layout.now (who b c.args.core d.front book) (Fetch r.pc) Word))) (sym e) judged)
    ∙ ap (λ (n : ℕ). FillsCode n) (ap (λ (r : Regs). line r.pc) e ∙ sym c.line_of.ensures)
