use Rattle.n2_journal.proofs.Runs.{HasOrder-within}
use Rattle.n2_journal.proofs.laws.orders.Goals as goal

pub returns : goal.returns
returns c = HasOrder-within
