use Rattle.n2_watch.proofs.KeptPast.{start_kept}
use Rattle.n2_watch.proofs.KeptShapes.{start_shape}
use Rattle.n2_watch.proofs.KeptMemory.{start_whole}
use Rattle.n2_watch.proofs.laws.kept.start.Goals as goal

pub returns-clause-kept : goal.returns-clause-kept
returns-clause-kept c = start_kept

pub returns-clause-shape : goal.returns-clause-shape
returns-clause-shape c = start_shape

pub returns-clause-world : goal.returns-clause-world
returns-clause-world c = start_whole
