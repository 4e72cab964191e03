use Rattle.n2_top.proofs.Written.{recorded_replay, recorded_flat, flat_parts_of}
use Rattle.n2_top.proofs.laws.recorded_runs.Goals as goal

pub returns-clause-replay : goal.returns-clause-replay
returns-clause-replay c = recorded_replay

pub returns-clause-flat : goal.returns-clause-flat
returns-clause-flat c = recorded_flat

pub returns-clause-flat_part : goal.returns-clause-flat_part
returns-clause-flat_part c = flat_parts_of
