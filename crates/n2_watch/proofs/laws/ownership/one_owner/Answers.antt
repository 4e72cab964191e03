use Rattle.n2_watch.proofs.Owners.{one_owner}
use Rattle.n2_watch.proofs.laws.ownership.one_owner.Goals as goal

pub returns : goal.returns
returns c = one_owner
