use Rattle.n2_runs.proofs.Limits as proofs
use Rattle.n2_runs.proofs.laws.journals.counts.Goals as goal

pub returns-clause-limits : goal.returns-clause-limits
returns-clause-limits c = proofs.counts

pub returns-clause-order : goal.returns-clause-order
returns-clause-order c = proofs.has_order
