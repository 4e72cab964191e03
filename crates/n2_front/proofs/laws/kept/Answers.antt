use Rattle.n2_front.proofs.KeptActs.{retired_kept, task_kept, retired_shape}
use Rattle.n2_front.proofs.laws.kept.Goals as goal

pub returns-clause-kept : goal.returns-clause-kept
returns-clause-kept c = retired_kept

pub returns-clause-shape : goal.returns-clause-shape
returns-clause-shape c = retired_shape

pub returns-clause-done : goal.returns-clause-done
returns-clause-done c = task_kept
