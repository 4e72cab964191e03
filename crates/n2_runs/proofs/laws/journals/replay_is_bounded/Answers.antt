use Rattle.n2_runs.proofs.Bounded.{bounded}
use Rattle.n2_runs.proofs.laws.journals.replay_is_bounded.Goals as goal

pub returns : goal.returns
returns c = bounded
