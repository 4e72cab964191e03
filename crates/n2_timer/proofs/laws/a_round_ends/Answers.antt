use Rattle.n2_timer.proofs.Ticks.{ticks-round}
use Rattle.n2_timer.proofs.laws.a_round_ends.Goals as goal

pub returns : goal.returns
returns c = ticks-round
