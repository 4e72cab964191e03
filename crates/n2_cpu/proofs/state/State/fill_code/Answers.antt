use Rattle.std.proofs.Common.{refl}
use Rattle.n2_cpu.proofs.Lines.{code_filled}
use Rattle.n2_cpu.proofs.state.State.fill_code.Goals as goal

pub returns-clause-turned : goal.returns-clause-turned
returns-clause-turned c = λ b map book past h there code. record {
  regs = refl;
  stop = refl;
  data_slots = refl;
  code_slots = c.fill.ensures;
  act = refl;
  holds = record {
    watch = h.watch;
    data_lines = h.data_lines;
    code_lines = rw c.fill.ensures (code_filled b map c.args.self.now.icache c.args.line c.args.reply.now.words h.code_lines there code);
  };
}
