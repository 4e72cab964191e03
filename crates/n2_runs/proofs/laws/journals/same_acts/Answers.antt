use Rattle.n2_runs.proofs.Ahead as proofs
use Rattle.n2_runs.proofs.laws.journals.same_acts.Goals as goal

pub returns : goal.returns
returns c = λ b images map' order actor valid is long. proofs.same_acts b images map' order valid is long actor
