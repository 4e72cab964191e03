use Rattle.n2_memory.proofs.Writes.{read_same, read_beside, read_other_line, full-written_at}
use Rattle.n2_memory.proofs.laws.stores.Goals as goal

pub returns-clause-there : goal.returns-clause-there
returns-clause-there c = read_same

pub returns-clause-beside : goal.returns-clause-beside
returns-clause-beside c = read_beside

pub returns-clause-lines : goal.returns-clause-lines
returns-clause-lines c = read_other_line

pub returns-clause-full : goal.returns-clause-full
returns-clause-full c = full-written_at
