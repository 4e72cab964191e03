use Rattle.n2_mailbox.proofs.Ranges.{started-in_range, after_read-in_range, after_write-in_range}
use Rattle.n2_mailbox.proofs.laws.fields_keep_their_widths.Goals as goal

pub returns-clause-start : goal.returns-clause-start
returns-clause-start c = started-in_range

pub returns-clause-read : goal.returns-clause-read
returns-clause-read c = after_read-in_range

pub returns-clause-write : goal.returns-clause-write
returns-clause-write c = after_write-in_range
