use Rattle.n2_timer.proofs.Ticks.{ticks-add}
use Rattle.n2_timer.proofs.laws.ticks_add_up.Goals as goal

pub returns : goal.returns
returns c = ticks-add
