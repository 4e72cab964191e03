use Rattle.n2_runs.proofs.Stopped as proofs
use Rattle.n2_runs.proofs.laws.turns.only_the_stop.Goals as goal

pub returns : goal.returns
returns c = proofs.only_the_stop
