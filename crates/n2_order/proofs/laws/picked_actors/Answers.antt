use Rattle.n2_order.proofs.Picks.{picked_runs, none_exactly}
use Rattle.n2_order.proofs.laws.picked_actors.Goals as goal

pub returns-clause-running : goal.returns-clause-running
returns-clause-running c = λ state after over actor e. picked_runs state over actor after e

pub returns-clause-none : goal.returns-clause-none
returns-clause-none c = none_exactly
