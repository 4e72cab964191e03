use Rattle.n2_timer.proofs.Ticks.{ticks-stopped}
use Rattle.n2_timer.proofs.laws.a_stopped_timer_stands.Goals as goal

pub returns : goal.returns
returns c = ticks-stopped
