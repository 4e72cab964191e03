use Rattle.n2_order.proofs.Nobody.{rounds_turn, seed_turns, list_turns}
use Rattle.n2_order.proofs.laws.while_nobody_is_over.Goals as goal

pub returns-clause-rounds : goal.returns-clause-rounds
returns-clause-rounds c = λ turns actors n k list some actors_some kn. rounds_turn turns actors n k some actors_some kn

pub returns-clause-seed : goal.returns-clause-seed
returns-clause-seed c = λ seed actors n list some. seed_turns actors n _ some

pub returns-clause-list : goal.returns-clause-list
returns-clause-list c = λ file list actors below. list_turns list actors below
