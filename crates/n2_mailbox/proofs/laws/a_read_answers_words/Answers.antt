use Rattle.n2_mailbox.proofs.Ranges.{value_of-below, pointer_taken-below}
use Rattle.n2_mailbox.proofs.laws.a_read_answers_words.Goals as goal

pub returns-clause-value : goal.returns-clause-value
returns-clause-value c = value_of-below

pub returns-clause-pointer : goal.returns-clause-pointer
returns-clause-pointer c = pointer_taken-below
