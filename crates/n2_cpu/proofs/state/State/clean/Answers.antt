use Rattle.std.proofs.Common.{refl}
use Rattle.n2_cpu.proofs.Lines.{there_op}
use Rattle.n2_cpu.proofs.state.State.clean.Goals as goal

pub returns-clause-turned : goal.returns-clause-turned
returns-clause-turned c = λ b map book past h. record {
  regs = c.advance.ensures;
  stop = refl;
  data_slots = c.drop_for.ensures;
  code_slots = refl;
  act = c.retired.ensures;
  holds = record {
    watch = c.note_clean.ensures.stands b map c.args.self.now.clock.number book past h.watch;
    data_lines = rw c.drop_for.ensures (there_op b c.args.self.now.dcache h.data_lines c.args.op c.args.address);
    code_lines = h.code_lines;
  };
}
