use Rattle.n2_runs.proofs.Named.{entries_before, no_entry, no_tail}
use Rattle.n2_runs.proofs.laws.journals.first_row.Goals as goal

pub returns-clause-before : goal.returns-clause-before
returns-clause-before c = λ b images map' j why before after entry long wrong is row. entries_before b images map' j why long wrong before after entry is row

pub returns-clause-entry : goal.returns-clause-entry
returns-clause-entry c = λ b images map' j why before after entry long wrong is row valid at order more. no_entry b images map' j why long wrong before after entry is row valid at order more

pub returns-clause-tail : goal.returns-clause-tail
returns-clause-tail c = λ b images map' j why before after tail long wrong is row k h more. no_tail b images map' j why long wrong before after tail is row k h more
