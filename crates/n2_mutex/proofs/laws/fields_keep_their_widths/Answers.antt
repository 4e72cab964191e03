use Rattle.n2_mutex.proofs.Ranges.{started-in_range, after_write-in_range}
use Rattle.n2_mutex.proofs.laws.fields_keep_their_widths.Goals as goal

pub returns-clause-start : goal.returns-clause-start
returns-clause-start c = started-in_range

pub returns-clause-write : goal.returns-clause-write
returns-clause-write c = after_write-in_range
