use Rattle.n2_runs.proofs.Turns.{turn_keeps}
use Rattle.n2_runs.proofs.Begins.{starts_along}
use Rattle.n2_runs.proofs.Agreed.{agreed}
use Rattle.n2_runs.proofs.laws.along_a_run.Goals as goal

pub returns-clause-start : goal.returns-clause-start
returns-clause-start c = starts_along

pub returns-clause-turn : goal.returns-clause-turn
returns-clause-turn c = λ b images map' first m f actor valid is h. turn_keeps b images map' valid is first m f h actor

pub returns-clause-agrees : goal.returns-clause-agrees
returns-clause-agrees c = agreed
