use Rattle.std.proofs.Common.{◌≡◌, subst, ◌∙◌}
use Rattle.n2_runs.specs.FlatRun.{sampled_by}
use Rattle.n2_flat.specs.State.{CoreState}
use Rattle.n2_front.specs.Retire.{acted}
use Rattle.n2_flat.proofs.Whole.{sampled_done, sample_left}
use Rattle.n2_flat.proofs.cores.FlatCore.sample.Goals as goal

pub returns-clause-done : goal.returns-clause-done
returns-clause-done c =
    let i = c.self.inside in
    subst (λ (s : CoreState). acted (record { regs = c.latch_lines.new.self; stop = i.stop; past = i.past }) c.args.common.now.world ≡ sampled_by c.args.board.now c.args.layout.now c.args.k s.front c.args.common.now.world) c.self.view_is
    (sampled_done c.args.board.now c.args.layout.now c.args.k (record { regs = i.regs; stop = i.stop; past = i.past }) c.args.common.now.world c.args.common.now.wiring c.latch_lines.new.self c.transfer-reply.result c.requires.common.wiring c.latch_lines.ensures c.transfer-reply.ensures.reply)

pub returns-clause-common : goal.returns-clause-common
returns-clause-common c = c.transfer-reply.ensures.after ∙ sample_left c.args.common.now.wiring c.args.k c.args.common.now.world
