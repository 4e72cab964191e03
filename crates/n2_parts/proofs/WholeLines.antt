-- The memories of a valid board are whole lines, and few.
use Rattle.std.proofs.Common.{◌≡◌, ℕ, suc, ◌+◌, ◌*◌, ◌^◌, ◌≤◌, Bool, true, ◌&&◌, nat_le, List, [], ◌∷◌, sum, sum_by, map, Option, Some, None, slice_get, refl, sym, ap, ◌∙◌, arith}
use Rattle.std.specs.Prelude.{option_and_then}
use Rattle.std.specs.List.{AllByRecursion}
use Rattle.std.proofs.lemmas.Option.{slice_get_within}
use Rattle.std.proofs.lemmas.Bool.{leb-true}
use Rattle.std.proofs.lemmas.List.Sums.{sum-map, sum_by-cons}
use Rattle.std.proofs.lemmas.Bool.Decides.{nat_tests}
use Rattle.n2_parts.specs.declared.board.Board.{Board}
use Rattle.n2_parts.specs.declared.board.MemoryRow.{MemoryRow}
use Rattle.n2_parts.specs.declared.board.PartKind.TheVariants.{Memory}
use Rattle.n2_parts.specs.declared.board.Key.{Key}
use Rattle.n2_parts.specs.declared.board.Key.TheVariants as keys
use Rattle.n2_parts.specs.Parts.{part_of}
use Rattle.n2_parts.specs.Numbers.{is_multiple, is_size, memory_numbers, number_fault}
use Rattle.n2_parts.specs.Valid.{counts, early_faults, late_faults, place_faults, totals, total_fault, first_fault, IsValid}
use Rattle.n2_parts.specs.MemoryLines.{IsWholeLines, AreWholeLines, line_count}
use Rattle.n2_parts.proofs.Small.{none_both, none_good}
use Rattle.n2_parts.proofs.Sound.{keeps, all_good}

-- what holds at each number holds of all
all_from_each : {A : Type 0} (P : A → Type 0) (rows : List A) → ((i : ℕ) (row : A) → slice_get rows i ≡ Some row → P row) → AllByRecursion P rows
all_from_each {A} P [] each = tt
all_from_each {A} P (row ∷ rows) each = (each 0 row refl, all_from_each P rows (λ i r e. each (suc i) r e))

in_words : (row : MemoryRow) → is_multiple 32 row.base ≡ true → (is_size row.size && nat_le (row.base + row.size) (2 ^ 31)) ≡ true → IsWholeLines row
in_words row base size = grind (arith, nat_tests)

whole_row : (b : Board) → IsValid b → (i : ℕ) (row : MemoryRow) → slice_get b.memory i ≡ Some row → IsWholeLines row
unfolding number_fault memory_numbers
whole_row b valid i row e =
    let h : number_fault b (part_of Memory i) ≡ None = (keeps b valid Memory i (omega arith) (slice_get_within b.memory i row e)).numbers in
    let here : memory_numbers (part_of Memory i) row ≡ None = sym (ap (λ (o : Option MemoryRow). option_and_then (memory_numbers (part_of Memory i)) o) e) ∙ h in
    let checks : List (Key × Bool) = (keys.Base, is_multiple 32 row.base) ∷ (keys.Size, is_size row.size && nat_le (row.base + row.size) (2 ^ 31)) ∷ [] in
    let good = all_good (part_of Memory i) checks here in
    in_words row good.0 good.1.0

pub whole_lines : (b : Board) → IsValid b → AreWholeLines b.memory
whole_lines b valid = all_from_each IsWholeLines b.memory (whole_row b valid)

-- ---- how many

by_bytes : (rows : List MemoryRow) → 32 * line_count rows ≤ sum_by (λ row. row.size) rows
by_bytes [] = omega arith
by_bytes (row ∷ rows) = omega (arith, by_bytes rows, sum_by-cons (λ (r : MemoryRow). r.size) row rows)

pub few_lines : (b : Board) → IsValid b → line_count b.memory ≤ 2 ^ 23
unfolding first_fault late_faults totals
few_lines b valid =
    let a = none_both (counts b) _ valid in
    let c = none_both (early_faults b) _ a.1 in
    let d = none_both (late_faults b) _ c.1 in
    let l0 = none_both _ _ d.0 in
    let l1 = none_both _ _ l0.1 in
    let l2 = none_both (place_faults b) _ l1.1 in
    let t = none_both (totals b) _ l2.1 in
    let m = none_both (total_fault Memory 268435456 (sum (map (λ (row : MemoryRow). row.size) b.memory))) _ t.0 in
    let most : sum (map (λ (row : MemoryRow). row.size) b.memory) ≤ 268435456 = leb-true _ _ (none_good _ _ m.0) in
    omega (arith, by_bytes b.memory, sum-map (λ (row : MemoryRow). row.size) b.memory)
