use Rattle.std.proofs.lemmas.List.Sorted.{IsNonDecreasingBy-from_sort}
use Rattle.n2_board.proofs.finder.both_bounds.Goals as goal

pub returns-in-Ok-clause-rising : goal.returns-in-Ok-clause-rising
returns-in-Ok-clause-rising c = IsNonDecreasingBy-from_sort (λ x. x) c.sort.new.self.items c.in-Ok.ensures.sorted
