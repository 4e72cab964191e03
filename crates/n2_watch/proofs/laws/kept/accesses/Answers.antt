use Rattle.n2_watch.proofs.KeptSteps.{touch_step, touch_memory, clean_step, access_step}
use Rattle.n2_watch.proofs.KeptMemory.{bypass_line}
use Rattle.n2_watch.proofs.laws.kept.accesses.Goals as goal

pub returns-clause-cached : goal.returns-clause-cached
returns-clause-cached c = touch_step

pub returns-clause-in_memory : goal.returns-clause-in_memory
returns-clause-in_memory c = touch_memory

pub returns-clause-operation : goal.returns-clause-operation
returns-clause-operation c = clean_step

pub returns-clause-bypass : goal.returns-clause-bypass
returns-clause-bypass c = access_step

pub returns-clause-lines : goal.returns-clause-lines
returns-clause-lines c = bypass_line
