use Rattle.std.proofs.Common.{refl}
use Rattle.n2_cpu.proofs.Bypassing.{store_regs}
use Rattle.n2_cpu.proofs.state.State.store_past.Goals as goal

pub returns-clause-turned : goal.returns-clause-turned
returns-clause-turned c = λ b w past h shared lt br r. record {
  regs = store_regs c.args.self.now.regs _ _ c.args.reply.now _ r c.advance.ensures c.latch_lines.ensures;
  stop = refl;
  data_slots = refl;
  code_slots = refl;
  act = c.retired.ensures;
  holds = record {
    watch = c.note_store.ensures.stands b c.args.self.now.clock.number w past c.args.width h.watch shared lt br r;
    data_lines = h.data_lines;
    code_lines = h.code_lines;
  };
}
