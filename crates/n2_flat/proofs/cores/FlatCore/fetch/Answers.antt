use Rattle.std.proofs.Common.{◌≡◌, ℕ, ap, ◌∙◌}
use Rattle.n2_word.specs.declared.Width.TheVariants.{Word}
use Rattle.n2_word.specs.Lines.{line}
use Rattle.n2_memory.specs.Memories.{read_at}
use Rattle.n2_board.specs.Access.{fetch_violation}
use Rattle.n2_watch.specs.Discipline.{violation}
use Rattle.n2_front.specs.Tasks.{stop_for}
use Rattle.n2_front.specs.Retire.{with_word}
use Rattle.n2_flat.specs.State.{CoreState, acted_by}
use Rattle.n2_flat.proofs.Fetched.{fetch_stop, fetch_goes}
use Rattle.n2_flat.proofs.cores.FlatCore.fetch.Goals as goal

pub returns-in-Some-clause-done : goal.returns-in-Some-clause-done
returns-in-Some-clause-done c =
    let pc : c.self.inside.regs.pc ≡ c.args.self.now.front.regs.pc = ap (λ (s : CoreState). s.front.regs.pc) c.self.view_is in
    fetch_stop c.args.board.now c.args.layout.now c.args.k c.args.self.now.front c.args.common.now.world c.halt.new.self.front c.in-Some.wrong c.cut_off.result
    (c.in-Some.ensures.wrong ∙ ap (λ (n : ℕ). fetch_violation c.args.layout.now n) pc)
    (c.cut_off.ensures ∙ ap (λ (n : ℕ). stop_for (violation c.in-Some.wrong (line n)) n 0 n) pc)
    c.halt.ensures.front

pub returns-in-Ok-clause-done : goal.returns-in-Ok-clause-done
returns-in-Ok-clause-done c =
    let pc : c.self.inside.regs.pc ≡ c.args.self.now.front.regs.pc = ap (λ (s : CoreState). s.front.regs.pc) c.self.view_is in
    let w = c.args.common.now.world in
    let e : acted_by c.execute.new.self c.execute.new.common ≡ with_word c.args.board.now c.args.layout.now c.args.k c.args.self.now.front w c.word-word.result = c.in-Ok.ensures.done in
    e
    ∙ ap (λ (x : ℕ). with_word c.args.board.now c.args.layout.now c.args.k c.args.self.now.front w x) (c.word-word.ensures ∙ ap (λ (n : ℕ). read_at w.memory n Word) pc)
    ∙ fetch_goes c.args.board.now c.args.layout.now c.args.k c.args.self.now.front w (c.in-None.ensures.wrong ∙ ap (λ (n : ℕ). fetch_violation c.args.layout.now n) pc)
