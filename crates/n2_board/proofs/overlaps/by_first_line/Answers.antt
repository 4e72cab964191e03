use Rattle.std.proofs.Common.{rules}
use Rattle.std.proofs.lemmas.List.Sorted.{IsNonDecreasingBy-from_sort_by_key}
use Rattle.n2_board.specs.declared.segments.LoadedSegment.{LoadedSegment}
use Rattle.n2_board.proofs.overlaps.by_first_line.Goals as goal

pub returns-clause-rising : goal.returns-clause-rising
returns-clause-rising c = IsNonDecreasingBy-from_sort_by_key (λ (s : LoadedSegment). s.lines.from) _ c.sort_unstable_by_key.ensures.sorted (λ a r q k. search rules)
