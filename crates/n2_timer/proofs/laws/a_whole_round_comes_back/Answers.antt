use Rattle.n2_timer.proofs.Ticks.{ticks-whole_round}
use Rattle.n2_timer.proofs.laws.a_whole_round_comes_back.Goals as goal

pub returns : goal.returns
returns c = ticks-whole_round
