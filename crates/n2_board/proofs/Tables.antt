-- The table of the classes of the lines of memories.
use Rattle.std.proofs.Common.{◌≡◌, ℕ, suc, ◌+◌, ◌-◌, ◌<◌, ◌≤◌, List, [], ◌∷◌, ◌++◌, length, map, get_or, drop, Option, sym, ap, ◌∙◌, append_assoc, drop-cons, arith}
use Rattle.std.specs.List.{flat_map, range_with_len}
use Rattle.std.proofs.lemmas.List.{append-nil, drop_all}
use Rattle.std.proofs.lemmas.List.FromFn.{map-range_with_len_more}
use Rattle.n2_parts.specs.declared.spans.Span.{Span}
use Rattle.n2_parts.specs.declared.board.MemoryRow.{MemoryRow}
use Rattle.n2_board.specs.declared.classes.Class.{Class}
use Rattle.n2_board.specs.declared.classes.LineZone.{LineZone}
use Rattle.n2_board.specs.Classes.{class_in}
use Rattle.n2_board.proofs.Finding.{first_holding}
use Rattle.n2_board.proofs.Found.{class_found, class_by}

-- ---- one line more

pub lines-more : (f : ℕ → Class) (old table new : List Class) (first line : ℕ) (class : Class) → first ≤ line → table ≡ old ++ map f (range_with_len first (line - first)) → new ≡ table ++ class ∷ [] → class ≡ f line
    → new ≡ old ++ map f (range_with_len first (line + 1 - first))
lines-more f old table new first line class le so_far grown here =
    let n : ℕ = line - first in
    let at : first + n ≡ line = omega arith in
    let more : line + 1 - first ≡ n + 1 = omega arith in
    grown ∙ ap (λ (t : List Class). t ++ class ∷ []) so_far ∙ append_assoc old (map f (range_with_len first n)) (class ∷ [])
    ∙ ap (λ (c : Class). old ++ (map f (range_with_len first n) ++ c ∷ [])) here
    ∙ ap (λ (t : List Class). old ++ t) (sym (map-range_with_len_more f first n line at))
    ∙ ap (λ (m : ℕ). old ++ map f (range_with_len first m)) (sym more)

pub class_at : (zones : List LineZone) (spans : List Span) (line point : ℕ) (found : Option ℕ) (class : Class) → spans ≡ map (λ zone. zone.lines) zones → point ≡ line → found ≡ first_holding spans point → class ≡ class_found zones found
    → class ≡ class_in zones line
class_at zones spans line point found class all at there here =
    here ∙ ap (class_found zones) (there ∙ ap (first_holding spans) at ∙ ap (λ (s : List Span). first_holding s line) all) ∙ class_by zones line

-- ---- one memory more

pub memories-more : (f : MemoryRow → List Class) (table new all : List Class) (rows : List MemoryRow) (i : ℕ) (d : MemoryRow) → i < length rows → new ≡ table ++ f (get_or rows i d)
    → table ++ flat_map f (drop i rows) ≡ all → new ++ flat_map f (drop (i + 1) rows) ≡ all
memories-more f table new all rows i d lt grown so_far =
    let k : i + 1 ≡ suc i = omega arith in
    let next : drop i rows ≡ get_or rows i d ∷ drop (i + 1) rows = rw k (drop-cons rows i d lt) in
    ap (λ (t : List Class). t ++ flat_map f (drop (i + 1) rows)) grown ∙ append_assoc table (f (get_or rows i d)) (flat_map f (drop (i + 1) rows))
    ∙ ap (λ (r : List MemoryRow). table ++ flat_map f r) (sym next) ∙ so_far

pub memories-done : (f : MemoryRow → List Class) (table all : List Class) (rows : List MemoryRow) (i : ℕ) → length rows ≤ i → table ++ flat_map f (drop i rows) ≡ all → table ≡ all
memories-done f table all rows i le so_far = sym (append-nil table) ∙ ap (λ (r : List MemoryRow). table ++ flat_map f r) (sym (drop_all i rows le)) ∙ so_far
