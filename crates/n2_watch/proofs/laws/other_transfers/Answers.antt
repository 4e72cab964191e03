use Rattle.std.proofs.Common.{◌∙◌}
use Rattle.n2_watch.proofs.laws.other_transfers.Goals as goal

pub returns : goal.returns
returns c = λ b map core w book other past h owns points. record {
  map_of = h.map_of;
  board = h.board;
  core_is = h.core_is;
  cpuid = h.cpuid;
  sets = h.sets;
  lines = h.lines;
  recorded = h.recorded;
  slots = h.slots;
  registers = h.registers;
  owned = λ guard. h.owned guard ∙ owns guard;
  pointers = λ index row e s. h.pointers index row e s ∙ points index row e s;
  again = h.again;
}
