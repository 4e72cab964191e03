use Rattle.n2_exec.proofs.Integers.{divu, div}
use Rattle.n2_exec.proofs.laws.every_quotient.Goals as goal

pub returns-clause-unsigned : goal.returns-clause-unsigned
returns-clause-unsigned c = divu

pub returns-clause-signed : goal.returns-clause-signed
returns-clause-signed c = div
