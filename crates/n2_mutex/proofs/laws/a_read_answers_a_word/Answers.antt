use Rattle.n2_mutex.proofs.Ranges.{value_of-below}
use Rattle.n2_mutex.proofs.laws.a_read_answers_a_word.Goals as goal

pub returns : goal.returns
returns c = value_of-below
