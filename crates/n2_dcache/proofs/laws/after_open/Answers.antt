use Rattle.n2_dcache.proofs.Maps.{length-opened, held_line-opened}
use Rattle.n2_dcache.proofs.laws.after_open.Goals as goal

pub returns-clause-sets : goal.returns-clause-sets
returns-clause-sets c = length-opened

pub returns-clause-nothing : goal.returns-clause-nothing
returns-clause-nothing c = held_line-opened
