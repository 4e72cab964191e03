use Rattle.n2_exec.proofs.Bits.{bits, passed-bits, loaded-bits, raised-bits, latched-bits, reset-bits}
use Rattle.n2_exec.proofs.laws.every_status.Goals as goal

pub returns-clause-effect : goal.returns-clause-effect
returns-clause-effect c = bits

pub returns-clause-passed : goal.returns-clause-passed
returns-clause-passed c = passed-bits

pub returns-clause-loaded : goal.returns-clause-loaded
returns-clause-loaded c = loaded-bits

pub returns-clause-raised : goal.returns-clause-raised
returns-clause-raised c = raised-bits

pub returns-clause-latched : goal.returns-clause-latched
returns-clause-latched c = latched-bits

pub returns-clause-reset : goal.returns-clause-reset
returns-clause-reset c = reset-bits
