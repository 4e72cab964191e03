use Rattle.std.proofs.Common.{◌∙◌}
use Rattle.n2_exec.specs.Effect.{effect_of}
use Rattle.n2_exec.proofs.Proper.{put_together}
use Rattle.n2_exec.proofs.effect.Goals as goal

pub returns-clause-row : goal.returns-clause-row
returns-clause-row c =
    c.whole.ensures ∙ put_together c.args.regs.now c.act-asked.new.regs c.act-asked.result (effect_of c.args.regs.now c.args.insn.now) c.act-asked.ensures.registers c.act-asked.ensures.asked
