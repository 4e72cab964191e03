use Rattle.n2_cpu.proofs.Others.{turn_stands, access_stands, other_stands}
use Rattle.n2_cpu.proofs.laws.other_actors.Goals as goal

pub returns-clause-turn : goal.returns-clause-turn
returns-clause-turn c = turn_stands

pub returns-clause-access : goal.returns-clause-access
returns-clause-access c = access_stands

pub returns-clause-request : goal.returns-clause-request
returns-clause-request c = other_stands
