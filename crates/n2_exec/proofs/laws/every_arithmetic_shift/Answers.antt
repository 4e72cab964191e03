use Rattle.std.proofs.Common.{◌%◌}
use Rattle.n2_exec.proofs.Shifts.{bit-shifted_right_signed}
use Rattle.n2_exec.proofs.laws.every_arithmetic_shift.Goals as goal

pub returns-clause-right : goal.returns-clause-right
returns-clause-right c = λ a b. bit-shifted_right_signed a (b % 32)

pub returns-clause-right_by : goal.returns-clause-right_by
returns-clause-right_by c = bit-shifted_right_signed
