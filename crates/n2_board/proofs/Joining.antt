-- The finder of spans from those of a first and a second part.
use Rattle.std.proofs.Common.{◌≡◌, ℕ, suc, ◌+◌, ◌<◌, ◌≤◌, ◌^◌, true, false, cond, List, [], ◌∷◌, ◌++◌, length, map, get_or, take, drop, Option, Some, None, IfSome, option_map, refl, sym, ap, subst, ◌∙◌, arith}
use Rattle.std.specs.List.{AllByRecursion, Contains}
use Rattle.std.specs.List.Sorted.{IsNonDecreasing, IsPermutation}
use Rattle.std.specs.Option.{option_or}
use Rattle.std.proofs.lemmas.Grind.{common_steps}
use Rattle.std.proofs.lemmas.List.{take-append-drop}
use Rattle.std.proofs.lemmas.List.Elements.{Contains-append_left, Contains-append_right}
use Rattle.std.proofs.lemmas.List.Sorted.{Contains-permutation}
use Rattle.n2_parts.specs.declared.spans.Span.{Span}
use Rattle.n2_parts.specs.Rules.{holds}
use Rattle.n2_board.proofs.Finding.{first_holding, holding_from, from_first, moved_from, Bounded, IsTable, AreUpTo}

-- ---- what is at most a point is at most a later one

pub later : (bounds : List ℕ) (n point next : ℕ) → point ≤ next → AreUpTo bounds n point → AreUpTo bounds n next
later bounds n point next le up = (up.0, λ k lt. omega (arith, up.1 k lt))

-- ---- two parts

-- a number that is found is one of a span
next : (o : Option ℕ) (i count : ℕ) → IfSome o (λ n. n < i + 1 + count) → IfSome o (λ n. n < i + suc count)
next None i count h = tt
next (Some n) i count h = omega arith

inside_from : (i : ℕ) (spans : List Span) (point : ℕ) → IfSome (holding_from i spans point) (λ n. n < i + length spans)
inside_from i [] point = tt
inside_from i (a ∷ spans) point =
    elim (holds a point) as (λ b. IfSome (cond b (Some i) (holding_from (i + 1) spans point)) (λ n. n < i + length (a ∷ spans))) [
      | true ↦ omega arith
      | false ↦ next (holding_from (i + 1) spans point) i (length spans) (inside_from (i + 1) spans point)
    ]

append_from : (a b : List Span) (i point : ℕ) → holding_from i (a ++ b) point ≡ option_or (holding_from i a point) (holding_from (i + length a) b point)
append_from [] b i point = let e : i ≡ i + 0 = omega arith in ap (λ (k : ℕ). holding_from k b point) e
append_from (s ∷ a) b i point =
    let e : i + 1 + length a ≡ i + suc (length a) = omega arith in
    elim (holds s point) as (λ h. cond h (Some i) (holding_from (i + 1) (a ++ b) point) ≡ option_or (cond h (Some i) (holding_from (i + 1) a point)) (holding_from (i + suc (length a)) b point)) [
      | true ↦ refl
      | false ↦ append_from a b (i + 1) point ∙ ap (λ (k : ℕ). option_or (holding_from (i + 1) a point) (holding_from k b point)) e
    ]

first_holding-append : (a b : List Span) (point : ℕ) → first_holding (a ++ b) point ≡ option_or (first_holding a point) (option_map (λ n. n + length a) (first_holding b point))
first_holding-append a b point =
    from_first (a ++ b) point ∙ append_from a b 0 point
    ∙ ap (λ (o : Option ℕ). option_or o (holding_from (0 + length a) b point)) (sym (from_first a point))
    ∙ ap (λ (o : Option ℕ). option_or (first_holding a point) o) (moved_from b 0 (length a) point ∙ ap (λ (o : Option ℕ). option_map (λ n. n + length a) o) (sym (from_first b point)))

carried : (from to : List ℕ) (spans : List Span) → ((v : ℕ) → Contains from v → Contains to v) → AllByRecursion (Bounded from) spans → AllByRecursion (Bounded to) spans
carried from to [] move h = tt
carried from to (a ∷ spans) move h = ((move a.from h.0.0, move a.end h.0.1), carried from to spans move h.1)

together : (bounds : List ℕ) (a b : List Span) → AllByRecursion (Bounded bounds) a → AllByRecursion (Bounded bounds) b → AllByRecursion (Bounded bounds) (a ++ b)
together bounds [] b h k = k
together bounds (s ∷ a) b h k = (h.0, together bounds a b h.1 k)

pub joined : (a b : List Span) (first second bounds : List ℕ) (found_a found_b found : List (Option ℕ)) → IsTable a first found_a → IsTable b second found_b
    → IsPermutation (first ++ second) bounds → IsNonDecreasing bounds → found ≡ map (λ point. first_holding (a ++ b) point) bounds → IsTable (a ++ b) bounds found
joined a b first second bounds found_a found_b found ta tb same rising right = (
  rising,
  together bounds a b
      (carried first bounds a (λ v c. Contains-permutation (first ++ second) bounds v same (Contains-append_left first second v c)) ta.1)
      (carried second bounds b (λ v c. Contains-permutation (first ++ second) bounds v same (Contains-append_right first second v c)) tb.1),
  right,
)

pub whole : (spans front back : List Span) (middle : ℕ) → front ≡ take middle spans → back ≡ drop middle spans → front ++ back ≡ spans
whole spans front back middle e h = ap (λ (s : List Span). s ++ back) e ∙ ap (λ (s : List Span). take middle spans ++ s) h ∙ take-append-drop middle spans

-- ---- the look-up at rising points

pub joint : (a b : List Span) (point count : ℕ) (here behind one : Option ℕ) → length a ≡ count → one ≡ option_or here (option_map (λ n. n + count) behind) → here ≡ first_holding a point → behind ≡ first_holding b point → one ≡ first_holding (a ++ b) point
joint a b point count here behind one len e h k =
    e ∙ ap (λ (n : ℕ). option_or here (option_map (λ m. m + n) behind)) (sym len)
    ∙ ap (λ (o : Option ℕ). option_or o (option_map (λ m. m + length a) behind)) h
    ∙ ap (λ (o : Option ℕ). option_or (first_holding a point) (option_map (λ m. m + length a) o)) k
    ∙ sym (first_holding-append a b point)

pub found-more : (f : ℕ → Option ℕ) (points : List ℕ) (i : ℕ) (out new : List (Option ℕ)) (one : Option ℕ) → i < length points → out ≡ map f (take i points) → new ≡ out ++ one ∷ [] → one ≡ f (get_or points i 0) → new ≡ map f (take (i + 1) points)
found-more f points i out new one lt so_far grown e = grind (arith, common_steps)

below : (o : Option ℕ) (count before : ℕ) → before + count < 2 ^ 64 → IfSome o (λ n. n < 0 + count) → IfSome o (λ n. n + before < 2 ^ 64)
below None count before small h = tt
below (Some n) count before small h = omega arith

pub fits : (spans : List Span) (point before : ℕ) (o : Option ℕ) → o ≡ first_holding spans point → before + length spans < 2 ^ 64 → IfSome o (λ n. n + before < 2 ^ 64)
fits spans point before o e small =
    subst (λ (x : Option ℕ). IfSome x (λ n. n + before < 2 ^ 64)) (sym (e ∙ from_first spans point)) (below (holding_from 0 spans point) (length spans) before small (inside_from 0 spans point))
