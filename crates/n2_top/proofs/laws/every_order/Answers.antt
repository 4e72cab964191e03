use Rattle.n2_top.proofs.Carried.{agreeing, own_turn, refused_where}
use Rattle.n2_top.proofs.laws.every_order.Goals as goal

pub returns-clause-agrees : goal.returns-clause-agrees
returns-clause-agrees c = λ inputs order ready. agreeing inputs ready order

pub returns-clause-own_order : goal.returns-clause-own_order
returns-clause-own_order c = λ inputs order actor ready. own_turn inputs ready order actor

pub returns-clause-refused : goal.returns-clause-refused
returns-clause-refused c = λ inputs order core f g ready none there now. refused_where inputs ready order core f g none there now
