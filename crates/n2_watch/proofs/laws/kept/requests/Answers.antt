use Rattle.n2_watch.proofs.KeptSteps.{request_kept}
use Rattle.n2_watch.proofs.KeptShapes.{shape_kept}
use Rattle.n2_watch.proofs.KeptWorld.{world_kept}
use Rattle.n2_watch.proofs.laws.kept.requests.Goals as goal

pub returns-clause-kept : goal.returns-clause-kept
returns-clause-kept c = request_kept

pub returns-clause-shape : goal.returns-clause-shape
returns-clause-shape c = shape_kept

pub returns-clause-world : goal.returns-clause-world
returns-clause-world c = world_kept
