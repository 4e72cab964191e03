use Rattle.n2_exec.proofs.Proper.{again, proper}
use Rattle.n2_exec.proofs.laws.every_outcome.Goals as goal

pub returns-clause-parts : goal.returns-clause-parts
returns-clause-parts c = again

pub returns-clause-proper : goal.returns-clause-proper
returns-clause-proper c = proper
