-- Digits of a number that stands as 2^40 where it is above.
use Rattle.std.proofs.Common.{◌≡◌, ℕ, ◌+◌, ◌-◌, ◌*◌, ◌^◌, ◌<◌, ◌≤◌, Bool, true, false, cond, List, [], ◌∷◌, length, get_or, drop, map, Option, Some, None, refl, sym, ap, ◌∙◌, drop-cons, arith}
use Rattle.std.specs.Prelude.{min, option_map, option_and_then}
use Rattle.std.proofs.lemmas.Bool.{cond-true}
use Rattle.std.proofs.lemmas.List.{at_drop_more}
use Rattle.n2_text.specs.Fields.{is_digit, digits_after, digit_value, hex_digits_after}
use Rattle.n2_source.specs.Numbers.{capped, most, lowered}

digits_capped : (n : ℕ) (ds : List ℕ) → option_map capped (digits_after (capped n) ds) ≡ option_map capped (digits_after n ds)
digits_capped n [] = ap (λ (k : ℕ). Some k) (omega arith)
digits_capped n (c ∷ cs) =
    elim (is_digit c) as (λ b. option_map capped (cond b (digits_after (10 * capped n + (c - 48)) cs) None) ≡ option_map capped (cond b (digits_after (10 * n + (c - 48)) cs) None)) [
      | true ↦
          let same : capped (10 * capped n + (c - 48)) ≡ capped (10 * n + (c - 48)) = omega arith in
          sym (digits_capped (10 * capped n + (c - 48)) cs) ∙ ap (λ k. option_map capped (digits_after k cs)) same ∙ digits_capped (10 * n + (c - 48)) cs
      | false ↦ refl
    ]

abbrev then_hex : ℕ → List ℕ → Option ℕ → Option ℕ
then_hex n cs o = option_and_then (λ d. hex_digits_after (16 * n + d) cs) o

hex_capped : (n : ℕ) (ds : List ℕ) → option_map capped (hex_digits_after (capped n) ds) ≡ option_map capped (hex_digits_after n ds)
hex_capped n [] = ap (λ (k : ℕ). Some k) (omega arith)
hex_capped n (c ∷ cs) =
    elim (digit_value c) as (λ o. option_map capped (then_hex (capped n) cs o) ≡ option_map capped (then_hex n cs o)) [
      | Some d ↦
          let same : capped (16 * capped n + d) ≡ capped (16 * n + d) = omega arith in
          sym (hex_capped (16 * capped n + d) cs) ∙ ap (λ k. option_map capped (hex_digits_after k cs)) same ∙ hex_capped (16 * n + d) cs
      | None ↦ refl
    ]

-- one more digit
pub decimal_more : (n : ℕ) (ds : List ℕ) (i : ℕ) → i < length ds → is_digit (get_or ds i 0) ≡ true
    → option_map capped (digits_after (capped (10 * n + (get_or ds i 0 - 48))) (drop (i + 1) ds)) ≡ option_map capped (digits_after n (drop i ds))
decimal_more n ds i lt digit =
    digits_capped (10 * n + (get_or ds i 0 - 48)) (drop (i + 1) ds)
    ∙ ap (option_map capped) (sym (at_drop_more (digits_after n) ds i 0 lt ∙ cond-true (is_digit (get_or ds i 0)) (digits_after (10 * n + (get_or ds i 0 - 48)) (drop (i + 1) ds)) None digit))

-- no digit
pub decimal_none : (n : ℕ) (ds : List ℕ) (i : ℕ) → i < length ds → is_digit (get_or ds i 0) ≡ false → digits_after n (drop i ds) ≡ None
decimal_none n ds i lt other = rw (drop-cons ds i 0 lt, other) refl

abbrev hex_from : ℕ → List ℕ → Option ℕ
hex_from n ds = option_map capped (hex_digits_after n (map lowered ds))

pub hex_more : (n d : ℕ) (ds : List ℕ) (i : ℕ) → i < length ds → Some d ≡ digit_value (lowered (get_or ds i 0))
    → hex_from (capped (16 * n + d)) (drop (i + 1) ds) ≡ hex_from n (drop i ds)
hex_more n d ds i lt e =
    hex_capped (16 * n + d) (map lowered (drop (i + 1) ds))
    ∙ ap (λ o. option_map capped (then_hex n (map lowered (drop (i + 1) ds)) o)) e
    ∙ sym (at_drop_more (hex_from n) ds i 0 lt)

pub hex_none : (n : ℕ) (ds : List ℕ) (i : ℕ) → i < length ds → None ≡ digit_value (lowered (get_or ds i 0)) → hex_from n (drop i ds) ≡ None
hex_none n ds i lt e = rw (drop-cons ds i 0 lt, ← e) refl
