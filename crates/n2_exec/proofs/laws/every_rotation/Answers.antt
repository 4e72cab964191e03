use Rattle.n2_exec.proofs.Shifts.{bit-rol, bit-rotate_left, bit-ror}
use Rattle.n2_exec.proofs.laws.every_rotation.Goals as goal

pub returns-clause-left : goal.returns-clause-left
returns-clause-left c = bit-rol

pub returns-clause-left_by : goal.returns-clause-left_by
returns-clause-left_by c = bit-rotate_left

pub returns-clause-right : goal.returns-clause-right
returns-clause-right c = bit-ror
