use Rattle.n2_timer.proofs.Ranges.{value_of-below}
use Rattle.n2_timer.proofs.laws.a_read_answers_a_half.Goals as goal

pub returns : goal.returns
returns c = value_of-below
