use Rattle.n2_top.proofs.Written.{written_records, written_read, written_replay, written_asked}
use Rattle.n2_top.proofs.laws.written_runs.Goals as goal

pub returns-clause-records : goal.returns-clause-records
returns-clause-records c = written_records

pub returns-clause-read : goal.returns-clause-read
returns-clause-read c = written_read

pub returns-clause-replay : goal.returns-clause-replay
returns-clause-replay c = written_replay

pub returns-clause-asked : goal.returns-clause-asked
returns-clause-asked c = written_asked
