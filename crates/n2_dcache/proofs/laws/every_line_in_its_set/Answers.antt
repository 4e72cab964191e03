use Rattle.n2_dcache.proofs.Maps.{placed-opened, placed-filled, placed-stored, placed-set_dropped, placed-line_dropped}
use Rattle.n2_dcache.proofs.laws.every_line_in_its_set.Goals as goal

pub returns-clause-opened_cache : goal.returns-clause-opened_cache
returns-clause-opened_cache c = placed-opened

pub returns-clause-fill : goal.returns-clause-fill
returns-clause-fill c = placed-filled

pub returns-clause-store : goal.returns-clause-store
returns-clause-store c = placed-stored

pub returns-clause-drop_set : goal.returns-clause-drop_set
returns-clause-drop_set c = placed-set_dropped

pub returns-clause-drop_line : goal.returns-clause-drop_line
returns-clause-drop_line c = placed-line_dropped
