use Rattle.n2_exec.proofs.Shifts.{bit-and, bit-or, bit-xor, bit-nor}
use Rattle.n2_exec.proofs.laws.every_logic.Goals as goal

pub returns-clause-and : goal.returns-clause-and
returns-clause-and c = bit-and

pub returns-clause-or : goal.returns-clause-or
returns-clause-or c = bit-or

pub returns-clause-xor : goal.returns-clause-xor
returns-clause-xor c = bit-xor

pub returns-clause-nor : goal.returns-clause-nor
returns-clause-nor c = bit-nor
