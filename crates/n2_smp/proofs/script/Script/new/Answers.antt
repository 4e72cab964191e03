use Rattle.std.proofs.Common.{◌<◌, arith}
use Rattle.n2_smp.proofs.Passing.{times_between}
use Rattle.n2_smp.proofs.script.Script.new.Goals as goal

pub returns-clause-reached : goal.returns-clause-reached
returns-clause-reached c = λ b valid row e. let t = times_between b valid 0 row e in omega arith
