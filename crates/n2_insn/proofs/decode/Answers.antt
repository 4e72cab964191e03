use Rattle.std.proofs.Common.{arith}
use Rattle.n2_insn.proofs.Fits.{found_valid}
use Rattle.n2_insn.proofs.decode.Goals as goal

pub returns-then-word-eq58-clause-valid : goal.returns-then-word-eq58-clause-valid
returns-then-word-eq58-clause-valid c = found_valid c.args.word c.decode_opx.result (omega arith) c.decode_opx.ensures

pub returns-else-word-eq58-clause-valid : goal.returns-else-word-eq58-clause-valid
returns-else-word-eq58-clause-valid c = found_valid c.args.word c.decode_op.result (omega arith) c.decode_op.ensures
