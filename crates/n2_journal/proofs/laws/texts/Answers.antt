use Rattle.n2_journal.proofs.Runs.{read_again, read_spelled, read_within}
use Rattle.n2_journal.proofs.laws.texts.Goals as goal

pub returns-clause-read : goal.returns-clause-read
returns-clause-read c = read_again

pub returns-clause-spelled : goal.returns-clause-spelled
returns-clause-spelled c = read_spelled

pub returns-clause-within : goal.returns-clause-within
returns-clause-within c = read_within
