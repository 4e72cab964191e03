use Rattle.n2_front.proofs.Others.{guards_left, pointers_left, judgement_left}
use Rattle.n2_front.proofs.laws.other_cores.Goals as goal

pub returns-clause-guards : goal.returns-clause-guards
returns-clause-guards c = guards_left

pub returns-clause-pointers : goal.returns-clause-pointers
returns-clause-pointers c = pointers_left

pub returns-clause-judgement : goal.returns-clause-judgement
returns-clause-judgement c = judgement_left
