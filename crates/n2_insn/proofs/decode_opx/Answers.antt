use Rattle.std.proofs.Common.{rules, tests}
use Rattle.n2_insn.specs.Table.{table_insn}
use Rattle.n2_insn.proofs.decode_opx.Goals as goal

pub returns-in_default : goal.returns-in_default
unfolding table_insn
returns-in_default c = rw c.requires (search (tests, rules))
