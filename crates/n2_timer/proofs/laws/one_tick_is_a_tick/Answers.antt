use Rattle.n2_timer.proofs.Ticks.{ticks-one}
use Rattle.n2_timer.proofs.laws.one_tick_is_a_tick.Goals as goal

pub returns : goal.returns
returns c = ticks-one
