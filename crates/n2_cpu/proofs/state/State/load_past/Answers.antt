use Rattle.std.proofs.Common.{refl}
use Rattle.n2_cpu.proofs.Bypassing.{load_regs}
use Rattle.n2_cpu.proofs.state.State.load_past.Goals as goal

pub returns-clause-turned : goal.returns-clause-turned
returns-clause-turned c = λ b w past h shared lt br r. record {
  regs = load_regs c.args.self.now.regs c.args.reply.now _ c.args.width c.args.signed c.args.to _ _ _ r c.extended-value.ensures c.put_loaded.ensures c.latch_lines.ensures;
  stop = refl;
  data_slots = refl;
  code_slots = refl;
  act = c.retired.ensures;
  holds = record {
    watch = c.note_load.ensures.stands b c.args.self.now.clock.number w past c.args.width h.watch shared lt br r;
    data_lines = h.data_lines;
    code_lines = h.code_lines;
  };
}
