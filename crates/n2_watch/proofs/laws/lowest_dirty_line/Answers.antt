use Rattle.std.specs.Prelude.{◌&&◌}
use Rattle.n2_watch.proofs.laws.lowest_dirty_line.Goals as goal
use Rattle.n2_watch.specs.Past.{dirty, lowest}
use Rattle.n2_watch.proofs.Lowest.{lowest_dirty, when_none, when_some}

pub returns-clause-none : goal.returns-clause-none
returns-clause-none c = λ sets test past. when_none sets test past (lowest (λ l. dirty sets past l && test l) past) (lowest_dirty sets test past)

pub returns-clause-some : goal.returns-clause-some
returns-clause-some c = λ sets test past. when_some sets test past (lowest (λ l. dirty sets past l && test l) past) (lowest_dirty sets test past)
