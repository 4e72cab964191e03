use Rattle.n2_juart.proofs.Ranges.{started-in_range, after_read-in_range, after_write-in_range, after_receive-in_range, after_drain-in_range, after_host-in_range}
use Rattle.n2_juart.proofs.laws.queues_keep_their_depths.Goals as goal

pub returns-clause-start : goal.returns-clause-start
returns-clause-start c = started-in_range

pub returns-clause-read : goal.returns-clause-read
returns-clause-read c = after_read-in_range

pub returns-clause-write : goal.returns-clause-write
returns-clause-write c = after_write-in_range

pub returns-clause-receive : goal.returns-clause-receive
returns-clause-receive c = after_receive-in_range

pub returns-clause-drain : goal.returns-clause-drain
returns-clause-drain c = after_drain-in_range

pub returns-clause-host : goal.returns-clause-host
returns-clause-host c = after_host-in_range
