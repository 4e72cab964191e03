use Rattle.n2_exec.proofs.Proper.{passed-follows, loaded-follows, raised-follows, follows}
use Rattle.n2_exec.proofs.laws.every_next.Goals as goal

pub returns-clause-effect : goal.returns-clause-effect
returns-clause-effect c = follows

pub returns-clause-passed : goal.returns-clause-passed
returns-clause-passed c = passed-follows

pub returns-clause-loaded : goal.returns-clause-loaded
returns-clause-loaded c = loaded-follows

pub returns-clause-raised : goal.returns-clause-raised
returns-clause-raised c = raised-follows
