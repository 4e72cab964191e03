use Rattle.n2_runs.proofs.Known.{wants_same, local_world, local_core, local_act}
use Rattle.n2_runs.proofs.laws.turns.local_turns.Goals as goal

pub returns-clause-world : goal.returns-clause-world
returns-clause-world c = local_world

pub returns-clause-wants : goal.returns-clause-wants
returns-clause-wants c = λ b map' k row c w v same. wants_same b map' k w.book v.book same row c

pub returns-clause-core : goal.returns-clause-core
returns-clause-core c = local_core

pub returns-clause-act : goal.returns-clause-act
returns-clause-act c = local_act
