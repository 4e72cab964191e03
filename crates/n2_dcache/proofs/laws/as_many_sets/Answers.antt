use Rattle.n2_dcache.proofs.Maps.{length-line_dropped}
use Rattle.n2_dcache.proofs.laws.as_many_sets.Goals as goal

pub returns-clause-drop_line : goal.returns-clause-drop_line
returns-clause-drop_line c = length-line_dropped
