use Rattle.std.proofs.Common.{◌≡◌, ap, ◌∙◌}
use Rattle.n2_exec.specs.declared.registers.Regs.{Regs}
use Rattle.n2_exec.specs.declared.Asked.{Asked}
use Rattle.n2_exec.specs.Outcomes.{regs_of}
use Rattle.n2_exec.specs.Effect.{effect_of_word}
use Rattle.n2_front.specs.Tasks.{task_of}
use Rattle.n2_front.specs.Retire.{performed, with_word, executed}
use Rattle.n2_flat.specs.State.{CoreState, acted_by}
use Rattle.n2_flat.proofs.Tasked.{on_ok}
use Rattle.n2_flat.proofs.cores.FlatCore.execute.Goals as goal

pub returns-clause-done : goal.returns-clause-done
unfolding executed
returns-clause-done c =
    let i = c.self.inside in
    let w = c.args.common.now.world in
    on_ok c.perform.result _ _
    (λ (e : acted_by c.perform.new.self c.perform.new.common ≡ performed c.args.board.now c.args.layout.now c.args.k (record { regs = c.act_word-asked.new.regs; stop = i.stop; past = i.past }) w c.args.word (task_of c.act_word-asked.result)).
    e
    ∙ ap (λ (r : Regs). performed c.args.board.now c.args.layout.now c.args.k (record { regs = r; stop = i.stop; past = i.past }) w c.args.word (task_of c.act_word-asked.result)) c.act_word-asked.ensures.registers
    ∙ ap (λ (a : Asked). performed c.args.board.now c.args.layout.now c.args.k (record { regs = regs_of i.regs (effect_of_word i.regs c.args.word); stop = i.stop; past = i.past }) w c.args.word (task_of a)) c.act_word-asked.ensures.asked
    ∙ ap (λ (s : CoreState). with_word c.args.board.now c.args.layout.now c.args.k s.front w c.args.word) c.self.view_is)
    c.perform.ensures.done
