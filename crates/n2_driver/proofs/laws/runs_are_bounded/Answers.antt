use Rattle.n2_driver.proofs.Ending.{start_bounded}
use Rattle.n2_driver.proofs.laws.runs_are_bounded.Goals as goal

pub returns : goal.returns
returns c = λ b images map' valid long. start_bounded b images map' valid long
