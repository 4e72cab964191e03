-- The search in the table of a finder.
use Rattle.std.proofs.Common.{◌≡◌, ℕ, suc, ◌+◌, ◌-◌, ◌<◌, ◌≤◌, true, false, cond, leb, ltb, List, [], ◌∷◌, ◌++◌, length, map, get_or, drop, Option, Some, None, option_map, refl, sym, ap, subst, ◌∙◌, inl, inr, append_assoc, drop-cons, arith}
use Rattle.std.specs.Prelude.{position}
use Rattle.std.specs.List.{AllByRecursion, Contains, flat_map, position_from}
use Rattle.std.specs.List.Sorted.{IsNonDecreasing, IsPermutation}
use Rattle.std.proofs.lemmas.Bool.{cases_lt, le-leb, lt-leb, lt-ltb, le-ltb}
use Rattle.std.proofs.lemmas.Grind.{get_or_default_zero}
use Rattle.std.proofs.lemmas.Iterator.Adapters.{position_from-zero}
use Rattle.std.proofs.lemmas.List.{append-nil, drop_all, get_or-map}
use Rattle.std.proofs.lemmas.List.Elements.{Contains-append_right}
use Rattle.std.proofs.lemmas.List.Sorted.{Contains-permutation}
use Rattle.n2_parts.specs.declared.spans.Span.{Span}
use Rattle.n2_parts.specs.Rules.{holds}

-- the number of the first span that holds a point
abbrev pub first_holding : List Span → ℕ → Option ℕ
first_holding spans point = position (λ span. holds span point) spans

-- that number where the first span has the number i
abbrev pub holding_from : ℕ → List Span → ℕ → Option ℕ
holding_from i spans point = position_from (λ span. holds span point) i spans

pub from_first : (spans : List Span) (point : ℕ) → first_holding spans point ≡ holding_from 0 spans point
from_first spans point = position_from-zero (λ span. holds span point) spans

-- numbers of spans that come later by so many
pub moved_from : (spans : List Span) (i n point : ℕ) → holding_from (i + n) spans point ≡ option_map (λ k. k + n) (holding_from i spans point)
moved_from [] i n point = refl
moved_from (a ∷ spans) i n point =
    let e : i + n + 1 ≡ i + 1 + n = omega arith in
    elim (holds a point) as (λ b. cond b (Some (i + n)) (holding_from (i + n + 1) spans point) ≡ option_map (λ k. k + n) (cond b (Some i) (holding_from (i + 1) spans point))) [
      | true ↦ refl
      | false ↦ ap (λ (k : ℕ). holding_from k spans point) e ∙ moved_from spans (i + 1) n point
    ]

pub first_holding-cons : (a : Span) (spans : List Span) (point : ℕ) → first_holding (a ∷ spans) point ≡ cond (holds a point) (Some 0) (option_map (λ n. n + 1) (first_holding spans point))
first_holding-cons a spans point =
    from_first (a ∷ spans) point ∙ ap (λ (o : Option ℕ). cond (holds a point) (Some 0) o) (moved_from spans 0 1 point ∙ ap (λ (o : Option ℕ). option_map (λ n. n + 1) o) (sym (from_first spans point)))

-- ---- the bounds

pub bounds-more : (out mid new all : List ℕ) (spans : List Span) (i : ℕ) (d : Span) → i < length spans → mid ≡ out ++ (get_or spans i d).from ∷ [] → new ≡ mid ++ (get_or spans i d).end ∷ []
    → out ++ flat_map (λ span. span.from ∷ span.end ∷ []) (drop i spans) ≡ all → new ++ flat_map (λ span. span.from ∷ span.end ∷ []) (drop (i + 1) spans) ≡ all
bounds-more out mid new all spans i d lt first second so_far =
    let a : Span = get_or spans i d in
    let rest : List ℕ = flat_map (λ (span : Span). span.from ∷ span.end ∷ []) (drop (i + 1) spans) in
    let k : i + 1 ≡ suc i = omega arith in
    let here : flat_map (λ (span : Span). span.from ∷ span.end ∷ []) (drop i spans) ≡ a.from ∷ a.end ∷ rest = rw k (ap (flat_map (λ (span : Span). span.from ∷ span.end ∷ [])) (drop-cons spans i d lt)) in
    ap (λ (x : List ℕ). x ++ rest) second ∙ append_assoc mid (a.end ∷ []) rest
    ∙ ap (λ (x : List ℕ). x ++ (a.end ∷ rest)) first ∙ append_assoc out (a.from ∷ []) (a.end ∷ rest)
    ∙ ap (λ (x : List ℕ). out ++ x) (sym here) ∙ so_far

pub bounds-done : (out all : List ℕ) (spans : List Span) (i : ℕ) → length spans ≤ i → out ++ flat_map (λ span. span.from ∷ span.end ∷ []) (drop i spans) ≡ all → out ≡ all
bounds-done out all spans i le so_far =
    sym (append-nil out) ∙ ap (λ (s : List Span). out ++ flat_map (λ (span : Span). span.from ∷ span.end ∷ []) s) (sym (drop_all i spans le)) ∙ so_far

abbrev pub Bounded : List ℕ → Span → Type 0
Bounded bounds a = Contains bounds a.from × Contains bounds a.end

has_bounds-from : (xs : List ℕ) (spans : List Span) → AllByRecursion (Bounded (xs ++ flat_map (λ span. span.from ∷ span.end ∷ []) spans)) spans
has_bounds-from xs [] = tt
has_bounds-from xs (a ∷ spans) =
    let rest : List ℕ = flat_map (λ (span : Span). span.from ∷ span.end ∷ []) spans in
    let regrouped : (xs ++ a.from ∷ a.end ∷ []) ++ rest ≡ xs ++ (a.from ∷ a.end ∷ rest) = append_assoc xs (a.from ∷ a.end ∷ []) rest in (
      (Contains-append_right xs (a.from ∷ a.end ∷ rest) a.from (0, omega arith, refl), Contains-append_right xs (a.from ∷ a.end ∷ rest) a.end (1, omega arith, refl)),
      subst (λ (ys : List ℕ). AllByRecursion (Bounded ys) spans) regrouped (has_bounds-from (xs ++ a.from ∷ a.end ∷ []) spans),
    )

pub moved : (bounds sorted : List ℕ) (spans : List Span) → IsPermutation bounds sorted → AllByRecursion (Bounded bounds) spans → AllByRecursion (Bounded sorted) spans
moved bounds sorted [] p h = tt
moved bounds sorted (a ∷ spans) p h = ((Contains-permutation bounds sorted a.from p h.0.0, Contains-permutation bounds sorted a.end p h.0.1), moved bounds sorted spans p h.1)

pub has_bounds : (spans : List Span) (bounds sorted : List ℕ) → bounds ≡ flat_map (λ span. span.from ∷ span.end ∷ []) spans → IsPermutation bounds sorted → AllByRecursion (Bounded sorted) spans
has_bounds spans bounds sorted e p = moved bounds sorted spans p (subst (λ (ys : List ℕ). AllByRecursion (Bounded ys) spans) (sym e) (has_bounds-from [] spans))

-- ---- the search

-- a table: its points rise, it has where each span begins and ends, and what holds each point
abbrev pub IsTable : List Span → List ℕ → List (Option ℕ) → Type 0
IsTable spans bounds found = IsNonDecreasing bounds × AllByRecursion (Bounded bounds) spans × (found ≡ map (λ point. first_holding spans point) bounds)

-- the first n of some numbers are at most a point
abbrev pub AreUpTo : List ℕ → ℕ → ℕ → Type 0
AreUpTo bounds n point = (n ≤ length bounds) × ((k : ℕ) → k < n → get_or bounds k 0 ≤ point)

none_from : (i : ℕ) (spans : List Span) (bounds : List ℕ) (point : ℕ) → ((k : ℕ) → k < length bounds → point < get_or bounds k 0) → AllByRecursion (Bounded bounds) spans → holding_from i spans point ≡ None
none_from i [] bounds point above h = refl
none_from i (a ∷ spans) bounds point above h =
    let c = h.0.0 in
    let at-zero : get_or bounds c.0 0 ≡ a.from = sym (get_or_default_zero bounds c.0 a.from c.1) ∙ c.2 in
    let no : leb a.from point ≡ false = lt-leb _ _ (omega (arith, above c.0 c.1)) in
    rw (no, none_from (i + 1) spans bounds point above h.1) refl

pub before_all : (spans : List Span) (bounds : List ℕ) (found : List (Option ℕ)) (point : ℕ) → IsTable spans bounds found → ((k : ℕ) → k < length bounds → point < get_or bounds k 0) → None ≡ first_holding spans point
before_all spans bounds found point t above = sym (from_first spans point ∙ none_from 0 spans bounds point above t.1)

record Beside (point near v : ℕ) : Type 0 where
  from : leb v point ≡ leb v near
  end : ltb point v ≡ ltb near v

beside : (bounds : List ℕ) (point n v : ℕ) → IsNonDecreasing bounds → 0 < n → n ≤ length bounds → ((k : ℕ) → k < n → get_or bounds k 0 ≤ point) → ((k : ℕ) → n ≤ k → k < length bounds → point < get_or bounds k 0)
    → Contains bounds v → Beside point (get_or bounds (n - 1) 0) v
beside bounds point n v rising some within below above c =
    let near : ℕ = get_or bounds (n - 1) 0 in
    let at-zero : get_or bounds c.0 0 ≡ v = sym (get_or_default_zero bounds c.0 v c.1) ∙ c.2 in
    let low : near ≤ point = below (n - 1) (omega arith) in
    elim (cases_lt c.0 n) [
      | inl lt ↦
          let a : v ≤ point = omega (arith, below c.0 lt) in
          let b : v ≤ near = omega (arith, rising c.0 (n - 1) 0 (omega arith) (omega arith)) in
          record { from = le-leb _ _ a ∙ sym (le-leb _ _ b); end = le-ltb _ _ a ∙ sym (le-ltb _ _ b) }
      | inr le ↦
          let a : point < v = omega (arith, above c.0 le c.1) in
          let b : near < v = omega arith in
          record { from = lt-leb _ _ a ∙ sym (lt-leb _ _ b); end = lt-ltb _ _ a ∙ sym (lt-ltb _ _ b) }
    ]

same_from : (i : ℕ) (spans : List Span) (point near : ℕ) → AllByRecursion (λ a. Beside point near a.from × Beside point near a.end) spans → holding_from i spans point ≡ holding_from i spans near
same_from i [] point near h = refl
same_from i (a ∷ spans) point near h = rw (h.0.0.from, h.0.1.end, same_from (i + 1) spans point near h.1) refl

all_beside : (spans : List Span) (bounds : List ℕ) (point n : ℕ) → IsNonDecreasing bounds → 0 < n → n ≤ length bounds → ((k : ℕ) → k < n → get_or bounds k 0 ≤ point) → ((k : ℕ) → n ≤ k → k < length bounds → point < get_or bounds k 0)
    → AllByRecursion (Bounded bounds) spans → AllByRecursion (λ a. Beside point (get_or bounds (n - 1) 0) a.from × Beside point (get_or bounds (n - 1) 0) a.end) spans
all_beside [] bounds point n rising some within below above h = tt
all_beside (a ∷ spans) bounds point n rising some within below above h =
    ((beside bounds point n a.from rising some within below above h.0.0, beside bounds point n a.end rising some within below above h.0.1), all_beside spans bounds point n rising some within below above h.1)

pub found_right : (spans : List Span) (bounds : List ℕ) (found : List (Option ℕ)) (point n : ℕ) (d : Option ℕ) → IsTable spans bounds found → 0 < n → n ≤ length bounds
    → ((k : ℕ) → k < n → get_or bounds k 0 ≤ point) → ((k : ℕ) → n ≤ k → k < length bounds → point < get_or bounds k 0)
    → get_or found (n - 1) d ≡ first_holding spans point
found_right spans bounds found point n d t some within below above =
    let near : ℕ = get_or bounds (n - 1) 0 in
    ap (λ (f : List (Option ℕ)). get_or f (n - 1) d) t.2
    ∙ get_or-map (λ p. first_holding spans p) bounds (n - 1) 0 d (omega arith)
    ∙ from_first spans near
    ∙ sym (same_from 0 spans point near (all_beside spans bounds point n t.0 some within below above t.1))
    ∙ sym (from_first spans point)
