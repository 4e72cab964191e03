use Rattle.n2_board.proofs.Owners.{one_cpuid, one_holder}
use Rattle.n2_parts.proofs.Sound.{one_cpuid as same_core}
use Rattle.n2_board.proofs.laws.one_owner.Goals as goal

pub returns-clause-mutex : goal.returns-clause-mutex
returns-clause-mutex c = λ b valid i j first second here there register p q. same_core b valid i j first second here there (one_cpuid register first.cpuid second.cpuid p q)

pub returns-clause-region : goal.returns-clause-region
returns-clause-region c = one_holder
