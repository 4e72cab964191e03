use Rattle.n2_runs.specs.Machine.{turn}
use Rattle.n2_runs.proofs.Known.{judged_same}
use Rattle.n2_runs.proofs.Books.{known_same, other_core}
use Rattle.n2_runs.proofs.laws.turns.other_cores.Goals as goal

pub returns-clause-core : goal.returns-clause-core
returns-clause-core c = λ b map' m actor j n. other_core b map' m actor j n

pub returns-clause-known : goal.returns-clause-known
returns-clause-known c = λ b images map' m actor j valid is h lt n. known_same b images map' valid is m h actor j lt n

pub returns-clause-judgement : goal.returns-clause-judgement
returns-clause-judgement c = λ b images map' m actor j valid is h lt n past access width.
    judged_same b map' j m.world.book (turn b map' m actor).machine.world.book (known_same b images map' valid is m h actor j lt n) past access width
