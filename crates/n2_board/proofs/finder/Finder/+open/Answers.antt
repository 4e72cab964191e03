use Rattle.std.proofs.Common.{◌≡◌, ℕ, List, ◌++◌, map, sym, ap, subst, ◌∙◌}
use Rattle.n2_parts.specs.declared.spans.Span.{Span}
use Rattle.n2_board.proofs.Finding.{first_holding, IsTable}
use Rattle.n2_board.proofs.Joining.{whole, joined}
use Rattle.n2_board.proofs.finder.Finder.+open.Goals as goal

pub invariant_of-result : goal.invariant_of-result
invariant_of-result t c =
    let bounds : List ℕ = c.in_ok-bounds.bounds.items in
    let front : List Span = c.first.inside.spans.items in
    let back : List Span = c.second.inside.spans.items in
    let here : front ≡ c.in_ok-first.first.0 = ap (λ (v : List Span × List ℕ). v.0) c.first.view_is in
    let there : back ≡ c.in_ok-second.second.0 = ap (λ (v : List Span × List ℕ). v.0) c.second.view_is in
    let all : front ++ back ≡ c.args.spans.now = whole c.args.spans.now front back _ (here ∙ c.in_ok-first.ensures ∙ c.split_at.ensures.front) (there ∙ c.in_ok-second.ensures ∙ c.split_at.ensures.back) in
    subst (λ (s : List Span). IsTable s bounds c.in_ok-found.found.items) (all ∙ sym c.in_ok-spans.ensures)
    (joined front back c.first.inside.bounds.items c.second.inside.bounds.items bounds _ _ c.in_ok-found.found.items c.first.invariant c.second.invariant
    (rw (← c.deref.ensures.value, ← c.deref-2.ensures.value) c.in_ok-bounds.ensures.same) c.in_ok-bounds.ensures.rising
    (c.in_ok-found.ensures
    ∙ ap (λ (s : List Span). map (λ (p : ℕ). first_holding (s ++ c.in_ok-second.second.0) p) c.deref-3.result.now) (sym here)
    ∙ ap (λ (s : List Span). map (λ (p : ℕ). first_holding (front ++ s) p) c.deref-3.result.now) (sym there)
    ∙ ap (map (λ (p : ℕ). first_holding (front ++ back) p)) c.deref-3.ensures.value))
