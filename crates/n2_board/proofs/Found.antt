-- The class and the place of the first zone that holds a line or an address.
use Rattle.std.proofs.Common.{◌≡◌, ℕ, suc, ◌+◌, true, false, cond, List, [], ◌∷◌, map, Option, Some, None, unwrap_or, slice_get, option_map, refl, sym, ap, ◌∙◌, arith}
use Rattle.std.specs.Prelude.{option_and_then}
use Rattle.n2_parts.specs.Rules.{holds}
use Rattle.n2_board.specs.declared.classes.Class.{Class}
use Rattle.n2_board.specs.declared.classes.Class.TheVariants.{Absent}
use Rattle.n2_board.specs.declared.classes.LineZone.{LineZone}
use Rattle.n2_board.specs.declared.places.Place.{Place}
use Rattle.n2_board.specs.declared.places.Place.TheVariants.{Nothing}
use Rattle.n2_board.specs.declared.places.PlaceZone.{PlaceZone}
use Rattle.n2_board.specs.Classes.{class_in}
use Rattle.n2_board.specs.Places.{place_at, place_in}
use Rattle.n2_board.proofs.Finding.{first_holding, first_holding-cons}

abbrev pub class_found : List LineZone → Option ℕ → Class
class_found zones found = unwrap_or (option_map (λ zone. zone.class) (option_and_then (λ i. slice_get zones i) found)) Absent

later_class : (zone : LineZone) (zones : List LineZone) (found : Option ℕ) → class_found zones found ≡ class_found (zone ∷ zones) (option_map (λ n. n + 1) found)
later_class zone zones None = refl
later_class zone zones (Some n) = let k : n + 1 ≡ suc n = omega arith in rw k refl

pub class_by : (zones : List LineZone) (line : ℕ) → class_found zones (first_holding (map (λ zone. zone.lines) zones) line) ≡ class_in zones line
unfolding class_in
class_by [] line = refl
class_by (zone ∷ zones) line =
    let found : Option ℕ = first_holding (map (λ (z : LineZone). z.lines) zones) line in
    ap (class_found (zone ∷ zones)) (first_holding-cons zone.lines (map (λ (z : LineZone). z.lines) zones) line)
    ∙ elim (holds zone.lines line) as (λ b. class_found (zone ∷ zones) (cond b (Some 0) (option_map (λ n. n + 1) found)) ≡ cond b zone.class (class_in zones line)) [
      | true ↦ refl
      | false ↦ sym (later_class zone zones found) ∙ class_by zones line
    ]

abbrev pub place_found : List PlaceZone → ℕ → Option ℕ → Place
place_found zones address found = unwrap_or (option_map (λ zone. place_at zone.area zone.bytes.from address) (option_and_then (λ i. slice_get zones i) found)) Nothing

later_place : (zone : PlaceZone) (zones : List PlaceZone) (address : ℕ) (found : Option ℕ) → place_found zones address found ≡ place_found (zone ∷ zones) address (option_map (λ n. n + 1) found)
later_place zone zones address None = refl
later_place zone zones address (Some n) = let k : n + 1 ≡ suc n = omega arith in rw k refl

pub place_by : (zones : List PlaceZone) (address : ℕ) → place_found zones address (first_holding (map (λ zone. zone.bytes) zones) address) ≡ place_in zones address
unfolding place_in
place_by [] address = refl
place_by (zone ∷ zones) address =
    let found : Option ℕ = first_holding (map (λ (z : PlaceZone). z.bytes) zones) address in
    ap (place_found (zone ∷ zones) address) (first_holding-cons zone.bytes (map (λ (z : PlaceZone). z.bytes) zones) address)
    ∙ elim (holds zone.bytes address) as (λ b. place_found (zone ∷ zones) address (cond b (Some 0) (option_map (λ n. n + 1) found)) ≡ cond b (place_at zone.area zone.bytes.from address) (place_in zones address)) [
      | true ↦ refl
      | false ↦ sym (later_place zone zones address found) ∙ place_by zones address
    ]
