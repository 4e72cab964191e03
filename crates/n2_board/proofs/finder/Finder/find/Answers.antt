use Rattle.std.proofs.Common.{◌≡◌, ℕ, ◌<◌, ◌≤◌, List, length, get_or, ap, ◌∙◌, arith}
use Rattle.std.proofs.lemmas.List.{length-map}
use Rattle.n2_parts.specs.declared.spans.Span.{Span}
use Rattle.n2_board.proofs.Finding.{first_holding, before_all, found_right}
use Rattle.n2_board.proofs.finder.Finder.find.Goals as goal

pub returns-then-n-eq0 : goal.returns-then-n-eq0
returns-then-n-eq0 c =
    let bounds : List ℕ = c.self.inside.bounds.items in
    let e = c.as_slice.ensures.value in
    let above : (k : ℕ) → k < length bounds → c.args.point < get_or bounds k 0 = λ k lt. rw (← e) (c.up_to-n.ensures.above k (omega arith) (rw e lt)) in
    before_all c.self.inside.spans.items bounds c.self.inside.found.items c.args.point c.self.invariant above
    ∙ ap (λ (v : List Span × List ℕ). first_holding v.0 c.args.point) c.self.view_is

pub index-requires : goal.index-requires
index-requires c =
    let e = c.as_slice.ensures.value in
    let n = c.up_to-n.ensures.within in
    let same : length c.self.inside.found.items ≡ length c.self.inside.bounds.items = ap length c.self.invariant.2 ∙ length-map c.self.inside.bounds.items (λ p. first_holding c.self.inside.spans.items p) in
    omega (arith, ap length e)

pub returns : goal.returns
returns c =
    let bounds : List ℕ = c.self.inside.bounds.items in
    let n : ℕ = c.up_to-n.result in
    let e = c.as_slice.ensures.value in
    let above : (k : ℕ) → n ≤ k → k < length bounds → c.args.point < get_or bounds k 0 = λ k le lt. rw (← e) (c.up_to-n.ensures.above k le (rw e lt)) in
    let below : (k : ℕ) → k < n → get_or bounds k 0 ≤ c.args.point = λ k lt. rw (← e) (c.up_to-n.ensures.below k lt) in
    c.index.ensures
    ∙ found_right c.self.inside.spans.items bounds c.self.inside.found.items c.args.point n c.index.result.now c.self.invariant (omega arith) (omega (arith, c.up_to-n.ensures.within, ap length e)) below above
    ∙ ap (λ (v : List Span × List ℕ). first_holding v.0 c.args.point) c.self.view_is
