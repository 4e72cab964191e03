use Rattle.n2_cpu.proofs.Others.{shared_start, shared_turn, shared_request}
use Rattle.n2_cpu.proofs.laws.shared.Goals as goal

pub returns-clause-start : goal.returns-clause-start
returns-clause-start c = shared_start

pub returns-clause-turn : goal.returns-clause-turn
returns-clause-turn c = shared_turn

pub returns-clause-request : goal.returns-clause-request
returns-clause-request c = shared_request
