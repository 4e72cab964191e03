-- Words, digit by digit.
use Rattle.std.proofs.Common.{◌≡◌, ℕ, ◌+◌, ◌*◌, ◌/◌, ◌%◌, ◌^◌, ◌<◌, ◌≤◌, true, eqb, List, [], ◌∷◌, length, Option, Some, None, refl, sym, ap, ◌∙◌, inl, inr, arith}
use Rattle.std.specs.Prelude.{option_and_then, ◌||◌}
use Rattle.std.specs.List.{AllPass}
use Rattle.std.proofs.Math.Nat.{pow-le-pow_right}
use Rattle.std.proofs.lemmas.Bool.{cases_Bool, cond-true, cond-false, eqb-true}
use Rattle.std.proofs.lemmas.Bool.Decides.{nat_tests}
use Rattle.std.proofs.lemmas.List.Sums.{AllPass-from_list_all}
use Rattle.std.proofs.lemmas.Option.{none-some, same_Some}
use Rattle.n2_text.specs.Fields.{digit_of, word_text, is_digit, is_hex_letter, digit_value, hex_digits_after, hex_word}

-- a number of at most seven digits
pub below_sixteen_to : (i n : ℕ) → i < 8 → n < 16 ^ i → n < 16 ^ 7
below_sixteen_to i n short h =
    let p : 16 ^ i ≤ 16 ^ 7 = pow-le-pow_right {n = 16} (omega arith) {i = i} {j = 7} (omega arith) in omega arith

digit_value-digit_of : (n : ℕ) → n < 16 → digit_value (digit_of n) ≡ Some n
digit_value-digit_of n h = grind (arith, nat_tests)

digit_of-digit_value : (c d : ℕ) → digit_value c ≡ Some d → (d < 16) × (c ≡ digit_of d)
digit_of-digit_value c d e = grind (arith, nat_tests)

-- what is written is read
pub hex_word-word_text : (word : ℕ) → word < 2 ^ 32 → hex_word (word_text word) ≡ Some word
unfolding word_text hex_word
hex_word-word_text word h =
    rw (
      digit_value-digit_of (word / 2 ^ 28 % 16) (omega arith),
      digit_value-digit_of (word / 2 ^ 24 % 16) (omega arith),
      digit_value-digit_of (word / 2 ^ 20 % 16) (omega arith),
      digit_value-digit_of (word / 2 ^ 16 % 16) (omega arith),
      digit_value-digit_of (word / 2 ^ 12 % 16) (omega arith),
      digit_value-digit_of (word / 2 ^ 8 % 16) (omega arith),
      digit_value-digit_of (word / 2 ^ 4 % 16) (omega arith),
      digit_value-digit_of (word % 16) (omega arith),
    )
    (ap (λ (n : ℕ). Some n) (omega arith))

pub length-word_text : (word : ℕ) → length (word_text word) ≡ 8
unfolding word_text
length-word_text word = refl

one_digit : (n : ℕ) → n < 16 → (is_digit (digit_of n) || is_hex_letter (digit_of n)) ≡ true
one_digit n h = grind (arith, nat_tests)

pub digits-word_text : (word : ℕ) → AllPass (λ c. is_digit c || is_hex_letter c) (word_text word)
unfolding word_text
digits-word_text word = AllPass-from_list_all (λ c. is_digit c || is_hex_letter c) (word_text word) (
    rw (
      one_digit (word / 2 ^ 28 % 16) (omega arith),
      one_digit (word / 2 ^ 24 % 16) (omega arith),
      one_digit (word / 2 ^ 20 % 16) (omega arith),
      one_digit (word / 2 ^ 16 % 16) (omega arith),
      one_digit (word / 2 ^ 12 % 16) (omega arith),
      one_digit (word / 2 ^ 8 % 16) (omega arith),
      one_digit (word / 2 ^ 4 % 16) (omega arith),
      one_digit (word % 16) (omega arith),
    )
    refl)

some_step : (o : Option ℕ) (f : ℕ → Option ℕ) (y : ℕ) → option_and_then f o ≡ Some y → (x : ℕ) × (o ≡ Some x) × (f x ≡ Some y)
some_step None f y e = absurd cc
some_step (Some x) f y e = (x, refl, e)

-- the first of some digits
hex_step : (n c word : ℕ) (cs : List ℕ) → hex_digits_after n (c ∷ cs) ≡ Some word → (d : ℕ) × (d < 16) × (c ≡ digit_of d) × (hex_digits_after (16 * n + d) cs ≡ Some word)
hex_step n c word cs e =
    let b = some_step (digit_value c) (λ d. hex_digits_after (16 * n + d) cs) word e in
    let v = digit_of-digit_value c b.0 b.1 in
    (b.0, v.0, v.1, b.2)

-- eight digits are those of their number
eight_digits : (text : List ℕ) (word : ℕ) → length text ≡ 8 → hex_digits_after 0 text ≡ Some word → (word < 2 ^ 32) × (text ≡ word_text word)
unfolding word_text
eight_digits (c0 ∷ c1 ∷ c2 ∷ c3 ∷ c4 ∷ c5 ∷ c6 ∷ c7 ∷ []) word len e =
    let s0 = hex_step 0 c0 word (c1 ∷ c2 ∷ c3 ∷ c4 ∷ c5 ∷ c6 ∷ c7 ∷ []) e in
    let s1 = hex_step _ c1 word (c2 ∷ c3 ∷ c4 ∷ c5 ∷ c6 ∷ c7 ∷ []) s0.3 in
    let s2 = hex_step _ c2 word (c3 ∷ c4 ∷ c5 ∷ c6 ∷ c7 ∷ []) s1.3 in
    let s3 = hex_step _ c3 word (c4 ∷ c5 ∷ c6 ∷ c7 ∷ []) s2.3 in
    let s4 = hex_step _ c4 word (c5 ∷ c6 ∷ c7 ∷ []) s3.3 in
    let s5 = hex_step _ c5 word (c6 ∷ c7 ∷ []) s4.3 in
    let s6 = hex_step _ c6 word (c7 ∷ []) s5.3 in
    let s7 = hex_step _ c7 word [] s6.3 in
    let sum : 16 * (16 * (16 * (16 * (16 * (16 * (16 * (16 * 0 + s0.0) + s1.0) + s2.0) + s3.0) + s4.0) + s5.0) + s6.0) + s7.0 ≡ word = same_Some _ word s7.3 in
    let k0 : c0 ≡ digit_of (word / 2 ^ 28 % 16) = s0.2 ∙ ap digit_of (omega arith) in
    let k1 : c1 ≡ digit_of (word / 2 ^ 24 % 16) = s1.2 ∙ ap digit_of (omega arith) in
    let k2 : c2 ≡ digit_of (word / 2 ^ 20 % 16) = s2.2 ∙ ap digit_of (omega arith) in
    let k3 : c3 ≡ digit_of (word / 2 ^ 16 % 16) = s3.2 ∙ ap digit_of (omega arith) in
    let k4 : c4 ≡ digit_of (word / 2 ^ 12 % 16) = s4.2 ∙ ap digit_of (omega arith) in
    let k5 : c5 ≡ digit_of (word / 2 ^ 8 % 16) = s5.2 ∙ ap digit_of (omega arith) in
    let k6 : c6 ≡ digit_of (word / 2 ^ 4 % 16) = s6.2 ∙ ap digit_of (omega arith) in
    let k7 : c7 ≡ digit_of (word % 16) = s7.2 ∙ ap digit_of (omega arith) in
    (omega arith, cc (k0, k1, k2, k3, k4, k5, k6, k7))
eight_digits _ word len e = absurd (omega arith)

only_eight : (text : List ℕ) (word : ℕ) → hex_word text ≡ Some word → (length text ≡ 8) × (hex_digits_after 0 text ≡ Some word)
unfolding hex_word
only_eight text word e =
    elim (cases_Bool (eqb (length text) 8)) [
      | inl eight ↦ (eqb-true (length text) 8 eight, sym (cond-true (eqb (length text) 8) (hex_digits_after 0 text) None eight) ∙ e)
      | inr other ↦ absurd (none-some word (sym (cond-false (eqb (length text) 8) (hex_digits_after 0 text) None other) ∙ e))
    ]

-- what is read is spelled so
pub word_text-hex_word : (text : List ℕ) (word : ℕ) → hex_word text ≡ Some word → text ≡ word_text word
word_text-hex_word text word e = let h = only_eight text word e in (eight_digits text word h.0 h.1).1

pub hex_word-small : (text : List ℕ) (word : ℕ) → hex_word text ≡ Some word → word < 2 ^ 32
hex_word-small text word e = let h = only_eight text word e in (eight_digits text word h.0 h.1).0
