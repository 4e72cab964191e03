use Rattle.n2_bus.proofs.Standing.{start_stands, same_proper, next_stands, same_reply}
use Rattle.n2_bus.proofs.laws.stands.Goals as goal

pub returns-clause-start : goal.returns-clause-start
returns-clause-start c = start_stands

pub returns-clause-proper : goal.returns-clause-proper
returns-clause-proper c = same_proper

pub returns-clause-next : goal.returns-clause-next
returns-clause-next c = next_stands

pub returns-clause-reply : goal.returns-clause-reply
returns-clause-reply c = same_reply
