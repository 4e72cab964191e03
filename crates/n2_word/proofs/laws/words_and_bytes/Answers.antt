use Rattle.n2_word.proofs.Lanes.{extracted-small}
use Rattle.n2_word.proofs.laws.words_and_bytes.Goals as goal

pub returns-clause-small : goal.returns-clause-small
returns-clause-small c = extracted-small
