use Rattle.n2_timer.proofs.Ranges.{started-in_range, after_write-in_range, ticks-in_range}
use Rattle.n2_timer.proofs.laws.fields_keep_their_widths.Goals as goal

pub returns-clause-start : goal.returns-clause-start
returns-clause-start c = started-in_range

pub returns-clause-write : goal.returns-clause-write
returns-clause-write c = after_write-in_range

pub returns-clause-ticks : goal.returns-clause-ticks
returns-clause-ticks c = ticks-in_range
