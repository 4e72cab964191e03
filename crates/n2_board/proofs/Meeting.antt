-- Segments in the order of their first lines: a segment shares a line with an earlier one of a core
-- exactly where it begins before the greatest end of that core's earlier ones.
use Rattle.std.proofs.Common.{◌≡◌, ℕ, ◌+◌, ◌<◌, ◌≤◌, min, max, Bool, true, false, cond, ◌==◌, ◌&&◌, ◌||◌, nat_lt, List, [], ◌∷◌, ◌++◌, length, get_or, take, refl, sym, ap, subst, ◌∙◌, inl, inr, get_or-take, length-take, arith}
use Rattle.std.specs.Prelude.{if◌then◌else◌, slice_index, slice_set}
use Rattle.std.specs.List.{All, list_any}
use Rattle.std.specs.List.Sorted.{IsNonDecreasingBy, IsPermutation}
use Rattle.std.proofs.lemmas.Bool.{cases_eq, ne_eqb, eq-eqb}
use Rattle.std.proofs.lemmas.Bool.Decides.{nat_tests}
use Rattle.std.proofs.lemmas.List.{get_or_default, take_more, get_or-set_same, get_or-set_other}
use Rattle.std.proofs.lemmas.List.Elements.{All-tail}
use Rattle.std.proofs.lemmas.List.Folds.{list_any-append}
use Rattle.std.proofs.lemmas.List.Sorted.{list_any-IsPermutation}
use Rattle.n2_parts.specs.declared.spans.Span.{Span}
use Rattle.n2_parts.specs.Rules.{share}
use Rattle.n2_board.specs.declared.segments.LoadedSegment.{LoadedSegment}
use Rattle.n2_board.specs.Placement.{images_meet}

-- ---- tests over lists

any_same : {X : Type 0} (p q : X → Bool) (xs : List X) → ((x : X) → p x ≡ q x) → list_any p xs ≡ list_any q xs
any_same {X} p q [] same = refl
any_same {X} p q (x ∷ xs) same = rw (same x, any_same p q xs same) refl

regroup : (a b c d e f : Bool) → ((a && (b || (c && d))) || (e || (c && f))) ≡ (((a && b) || e) || (c && ((a && d) || f)))
regroup true true c d e f = refl
regroup true false true true true f = refl
regroup true false true true false f = refl
regroup true false true false true f = refl
regroup true false true false false f = refl
regroup true false false d true f = refl
regroup true false false d false f = refl
regroup false b c d true f = refl
regroup false b true d false f = refl
regroup false b false d false f = refl

no_more : (c : Bool) → false ≡ (false || (c && false))
no_more true = refl
no_more false = refl

-- one more thing to find, under a condition that does not depend on the element
any_split : {X : Type 0} (p q r : X → Bool) (c : Bool) (xs : List X) → list_any (λ x. p x && (q x || (c && r x))) xs ≡ (list_any (λ x. p x && q x) xs || (c && list_any (λ x. p x && r x) xs))
any_split {X} p q r c [] = no_more c
any_split {X} p q r c (x ∷ xs) =
    ap (λ (b : Bool). (p x && (q x || (c && r x))) || b) (any_split p q r c xs)
    ∙ regroup (p x) (q x) c (r x) (list_any (λ y. p y && q y) xs) (list_any (λ y. p y && r y) xs)

-- ---- the greatest end

pub greatest : ℕ → List LoadedSegment → ℕ
greatest a [] = 0
greatest a (s ∷ segments) = if s.core == a then max s.lines.end (greatest a segments) else greatest a segments

-- a segment shares a line with one of core a
abbrev reached : ℕ → LoadedSegment → List LoadedSegment → Bool
reached a f segments = list_any (λ s. s.core == a && share s.lines f.lines) segments

one_reached : (b : Bool) (from end begin last g : ℕ) → from ≤ begin
    → ((b && nat_lt (max from begin) (min end last)) || nat_lt begin (min last g)) ≡ nat_lt begin (min last (cond b (max end g) g))
one_reached true from end begin last g le = grind (arith, nat_tests)
one_reached false from end begin last g le = refl

by_greatest : (a : ℕ) (f : LoadedSegment) (segments : List LoadedSegment) → All (λ s. s.lines.from ≤ f.lines.from) segments → reached a f segments ≡ nat_lt f.lines.from (min f.lines.end (greatest a segments))
unfolding greatest
by_greatest a f [] up = grind (arith, nat_tests)
by_greatest a f (s ∷ segments) up =
    ap (λ (b : Bool). (s.core == a && share s.lines f.lines) || b) (by_greatest a f segments (All-tail (λ (t : LoadedSegment). t.lines.from ≤ f.lines.from) s segments up))
    ∙ one_reached (s.core == a) s.lines.from s.lines.end f.lines.from f.lines.end (greatest a segments) (up 0 s (omega arith))

pushed : (b c : Bool) (e f g : ℕ) → cond b (max e (cond c (max f g) g)) (cond c (max f g) g) ≡ cond c (max f (cond b (max e g) g)) (cond b (max e g) g)
pushed true true e f g = grind arith
pushed true false e f g = refl
pushed false true e f g = refl
pushed false false e f g = refl

pub greatest-nil : (a : ℕ) → greatest a [] ≡ 0
unfolding greatest
greatest-nil a = refl

pub greatest-push : (a : ℕ) (f : LoadedSegment) (segments : List LoadedSegment) → greatest a (segments ++ f ∷ []) ≡ (if f.core == a then max f.lines.end (greatest a segments) else greatest a segments)
unfolding greatest
greatest-push a f [] = refl
greatest-push a f (s ∷ segments) =
    ap (λ (n : ℕ). if s.core == a then max s.lines.end n else n) (greatest-push a f segments)
    ∙ pushed (s.core == a) (f.core == a) s.lines.end f.lines.end (greatest a segments)

-- ---- one segment more

share-swap : (e f : Span) → share e f ≡ share f e
share-swap e f = grind (arith, nat_tests)

of_first : (m x y z : Bool) → ((m || (false && x)) || ((true && (y || (false && z))) || false)) ≡ ((m || (false && x)) || (true && y))
of_first m x true z = refl
of_first m x false z = refl

apart : (p m q x y z : Bool) → (p && q) ≡ false → ((m || (q && x)) || ((p && (y || (q && z))) || false)) ≡ (m || (q && x) || (p && y))
apart true m q x y z h = let no : q ≡ false = h in rw no (of_first m x y z)
apart false m q x y z h = refl

not_both : (core a b : ℕ) → a < b → ((core == a) && (core == b)) ≡ false
not_both core a b lt = grind (arith, nat_tests)

meet_push : (a b : ℕ) (f : LoadedSegment) (segments : List LoadedSegment) → a < b → images_meet a b (segments ++ f ∷ []) ≡ (images_meet a b segments || (f.core == b && reached a f segments) || (f.core == a && reached b f segments))
meet_push a b f segments lt =
    let inner : (s : LoadedSegment) → (s.core == a && list_any (λ (t : LoadedSegment). t.core == b && share s.lines t.lines) (segments ++ f ∷ [])) ≡ (s.core == a && (list_any (λ (t : LoadedSegment). t.core == b && share s.lines t.lines) segments || (f.core == b && share s.lines f.lines))) =
    λ s. ap (λ (x : Bool). s.core == a && x) (list_any-append (λ (t : LoadedSegment). t.core == b && share s.lines t.lines) segments (f ∷ []) ∙ last (list_any (λ (t : LoadedSegment). t.core == b && share s.lines t.lines) segments) (f.core == b && share s.lines f.lines))
    in
    any_same (λ (s : LoadedSegment). s.core == a && list_any (λ (t : LoadedSegment). t.core == b && share s.lines t.lines) (segments ++ f ∷ [])) (λ (s : LoadedSegment). s.core == a && (list_any (λ (t : LoadedSegment). t.core == b && share s.lines t.lines) segments || (f.core == b && share s.lines f.lines))) (segments ++ f ∷ []) inner
    ∙ list_any-append (λ (s : LoadedSegment). s.core == a && (list_any (λ (t : LoadedSegment). t.core == b && share s.lines t.lines) segments || (f.core == b && share s.lines f.lines))) segments (f ∷ [])
    ∙ ap (λ (x : Bool). x || ((f.core == a && (list_any (λ (t : LoadedSegment). t.core == b && share f.lines t.lines) segments || (f.core == b && share f.lines f.lines))) || false))
    (any_split (λ (s : LoadedSegment). s.core == a) (λ (s : LoadedSegment). list_any (λ (t : LoadedSegment). t.core == b && share s.lines t.lines) segments) (λ (s : LoadedSegment). share s.lines f.lines) (f.core == b) segments)
    ∙ apart (f.core == a) (images_meet a b segments) (f.core == b) (reached a f segments) (list_any (λ (t : LoadedSegment). t.core == b && share f.lines t.lines) segments) (share f.lines f.lines) (not_both f.core a b lt)
    ∙ ap (λ (x : Bool). images_meet a b segments || (f.core == b && reached a f segments) || (f.core == a && x)) (any_same (λ (t : LoadedSegment). t.core == b && share f.lines t.lines) (λ (t : LoadedSegment). t.core == b && share t.lines f.lines) segments (λ t. ap (λ (x : Bool). t.core == b && x) (share-swap f.lines t.lines)))
  where
    last : (x y : Bool) → (x || (y || false)) ≡ (x || y)
    last true y = refl
    last false true = refl
    last false false = refl

-- ---- a step of the loop over segments in the order of their first lines

pub earlier : (sorted : List LoadedSegment) (i : ℕ) (d : LoadedSegment) → IsNonDecreasingBy (λ s. s.lines.from) sorted → i < length sorted → All (λ s. s.lines.from ≤ (get_or sorted i d).lines.from) (take i sorted)
earlier sorted i d rising lt = λ k e less.
    let bound : k < min i (length sorted) = simp length-take at less in
    let here : get_or (take i sorted) k e ≡ get_or sorted k d = get_or-take i sorted k e (omega arith) ∙ get_or_default sorted k e d (omega arith) in
    subst (λ (s : LoadedSegment). s.lines.from ≤ (get_or sorted i d).lines.from) (sym here) (rising k i d (omega arith) lt)

pub met_more : (a b : ℕ) (sorted : List LoadedSegment) (i : ℕ) (d : LoadedSegment) → IsNonDecreasingBy (λ s. s.lines.from) sorted → i < length sorted → a < b
    → images_meet a b (take (i + 1) sorted) ≡ (images_meet a b (take i sorted)
    || ((get_or sorted i d).core == b && nat_lt (get_or sorted i d).lines.from (min (get_or sorted i d).lines.end (greatest a (take i sorted))))
    || ((get_or sorted i d).core == a && nat_lt (get_or sorted i d).lines.from (min (get_or sorted i d).lines.end (greatest b (take i sorted)))))
met_more a b sorted i d rising lt less =
    let f : LoadedSegment = get_or sorted i d in
    let up : All (λ s. s.lines.from ≤ f.lines.from) (take i sorted) = earlier sorted i d rising lt in
    ap (images_meet a b) (take_more sorted i d lt)
    ∙ meet_push a b f (take i sorted) less
    ∙ ap (λ (x : Bool). images_meet a b (take i sorted) || (f.core == b && x) || (f.core == a && reached b f (take i sorted))) (by_greatest a f (take i sorted) up)
    ∙ ap (λ (x : Bool). images_meet a b (take i sorted) || (f.core == b && nat_lt f.lines.from (min f.lines.end (greatest a (take i sorted)))) || (f.core == a && x)) (by_greatest b f (take i sorted) up)

set_end : (ends : List ℕ) (core a e : ℕ) → length ends ≡ 8 → core < 8 → slice_index (slice_set ends core e) a ≡ cond (core == a) e (slice_index ends a)
set_end ends core a e len lt = elim (cases_eq a core) [
  | inl same ↦ rw (same, eq-eqb core core refl) (get_or-set_same ends core e 0 (omega arith))
  | inr other ↦ rw (ne_eqb core a (λ back. other (sym back))) (get_or-set_other ends core a e 0 other)
]

pub ends_more : (ends : List ℕ) (a : ℕ) (sorted : List LoadedSegment) (i : ℕ) (d : LoadedSegment) → i < length sorted → length ends ≡ 8 → (get_or sorted i d).core < 8 → a < 8
    → ((k : ℕ) → k < 8 → slice_index ends k ≡ greatest k (take i sorted))
    → slice_index (slice_set ends (get_or sorted i d).core (max (slice_index ends (get_or sorted i d).core) (get_or sorted i d).lines.end)) a ≡ greatest a (take (i + 1) sorted)
ends_more ends a sorted i d lt len low less so_far =
    let f : LoadedSegment = get_or sorted i d in
    set_end ends f.core a (max (slice_index ends f.core) f.lines.end) len low
    ∙ either f.core a f.lines.end (slice_index ends f.core) (slice_index ends a) (greatest a (take i sorted)) (λ same. rw same (so_far a less)) (so_far a less)
    ∙ sym (ap (greatest a) (take_more sorted i d lt) ∙ greatest-push a f (take i sorted))
  where
    either : (core a e old here g : ℕ) → (core ≡ a → old ≡ g) → here ≡ g → cond (core == a) (max old e) here ≡ cond (core == a) (max e g) g
    either core a e old here g same is = elim (cases_eq core a) [
      | inl eq ↦ rw (eq-eqb core a eq) (let o : old ≡ g = same eq in omega arith)
      | inr ne ↦ rw (ne_eqb core a ne) is
    ]

-- ---- in another order

pub meet_permuted : (a b : ℕ) (segments sorted : List LoadedSegment) → IsPermutation segments sorted → images_meet a b sorted ≡ images_meet a b segments
meet_permuted a b segments sorted same =
    sym (list_any-IsPermutation (λ (s : LoadedSegment). s.core == a && list_any (λ (t : LoadedSegment). t.core == b && share s.lines t.lines) sorted) segments sorted same)
    ∙ any_same (λ (s : LoadedSegment). s.core == a && list_any (λ (t : LoadedSegment). t.core == b && share s.lines t.lines) sorted) (λ (s : LoadedSegment). s.core == a && list_any (λ (t : LoadedSegment). t.core == b && share s.lines t.lines) segments) segments
    (λ s. ap (λ (x : Bool). s.core == a && x) (sym (list_any-IsPermutation (λ (t : LoadedSegment). t.core == b && share s.lines t.lines) segments sorted same)))
