use Rattle.n2_insn.proofs.Again.{again}
use Rattle.n2_insn.proofs.laws.every_instruction.Goals as goal

pub returns-clause-again : goal.returns-clause-again
returns-clause-again c = again
