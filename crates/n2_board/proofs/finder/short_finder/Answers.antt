use Rattle.std.proofs.Common.{ℕ, List, map, sym, ap, subst, ◌∙◌}
use Rattle.std.proofs.lemmas.List.Sorted.{IsNonDecreasingBy-from_sort}
use Rattle.n2_parts.specs.declared.spans.Span.{Span}
use Rattle.n2_board.proofs.Finding.{first_holding, has_bounds, IsTable}
use Rattle.n2_board.proofs.finder.short_finder.Goals as goal

pub invariant_of-result : goal.invariant_of-result
invariant_of-result c =
    let bounds : List ℕ = c.sort_unstable.new.self.items in
    subst (λ (s : List Span). IsTable s bounds c.in_ok-found.found.items) (sym c.in_ok-spans.ensures) (
      IsNonDecreasingBy-from_sort (λ x. x) bounds c.sort_unstable.ensures.sorted,
      has_bounds c.args.spans.now c.in_ok-bounds.bounds.items bounds c.in_ok-bounds.ensures c.sort_unstable.ensures.permutation,
      c.in_ok-found.ensures ∙ ap (map (λ (p : ℕ). first_holding c.args.spans.now p)) c.as_slice.ensures.value,
    )
