use Rattle.n2_dcache.proofs.Maps.{held_line-stored, is_dirty-stored, held_line-stored_other}
use Rattle.n2_dcache.proofs.laws.after_store.Goals as goal

pub returns-clause-there : goal.returns-clause-there
returns-clause-there c = held_line-stored

pub returns-clause-dirty : goal.returns-clause-dirty
returns-clause-dirty c = is_dirty-stored

pub returns-clause-others : goal.returns-clause-others
returns-clause-others c = held_line-stored_other
