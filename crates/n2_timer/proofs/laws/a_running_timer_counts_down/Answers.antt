use Rattle.n2_timer.proofs.Ticks.{ticks-running}
use Rattle.n2_timer.proofs.laws.a_running_timer_counts_down.Goals as goal

pub returns : goal.returns
returns c = ticks-running
