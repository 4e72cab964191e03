-- Words, numbers and registers, read where they were written.
use Rattle.std.proofs.Common.{◌≡◌, ℕ, zero, suc, ◌+◌, ◌-◌, ◌*◌, ◌/◌, ◌%◌, ◌^◌, ◌<◌, ◌≤◌, Bool, true, false, cond, eqb, leb, List, [], ◌∷◌, ◌++◌, length, map, Option, Some, None, refl, sym, ap, subst, ◌∙◌, inl, inr, arith}
use Rattle.std.specs.Prelude.{◌&&◌, ◌||◌, not, decimal, option_map, option_and_then}
use Rattle.std.specs.List.{list_all}
use Rattle.std.proofs.lemmas.Bool.{cases_Bool, cond-true, cond-false, false≢true, le-leb, not-true}
use Rattle.std.proofs.lemmas.Bool.Decides.{nat_tests}
use Rattle.std.proofs.lemmas.List.{append-nil}
use Rattle.std.proofs.lemmas.List.Sums.{list_all-from_AllPass}
use Rattle.std.proofs.lemmas.Option.{none-some}
use Rattle.n2_text.specs.Fields.{word_text, hex_word, hex_digits_after, is_digit, is_hex_letter, numeral}
use Rattle.n2_text.proofs.Decimals.{numeral-decimal, digits-decimal}
use Rattle.n2_text.proofs.Words.{hex_word-word_text, length-word_text, digits-word_text}
use Rattle.n2_source.specs.declared.numbers.Number.{Number}
use Rattle.n2_source.specs.Cursors.{is_blank, is_letter, is_word, skip, word_at, past, mark_at, starts_letter}
use Rattle.n2_source.specs.Numbers.{capped, lowered, or_some, past_0x, hex_numeral, size_of, plain, minus, negative_at, plain_at, number_at, below_32, register_of, control_of, register_at, control_at, is_name, name_at}

pub both : (a b : Bool) → (a && b) ≡ true → (a ≡ true) × (b ≡ true)
both true b h = (refl, h)
both false b h = absurd (false≢true h)

pub mono : (p q : ℕ → Bool) → ((c : ℕ) → p c ≡ true → q c ≡ true) → (xs : List ℕ) → list_all p xs ≡ true → list_all q xs ≡ true
mono p q h [] e = refl
mono p q h (c ∷ cs) e =
    let parts = both (p c) (list_all p cs) e in
    rw (h c parts.0, mono p q h cs parts.1) refl

-- ---- words

-- no letter, digit or `_` is in front
abbrev pub ends : List ℕ → Bool
ends [] = true
ends (c ∷ cs) = not (is_word c)

pub word_read : (w t : List ℕ) → list_all is_word w ≡ true → ends t ≡ true → word_at (w ++ t) ≡ (w, t)
word_read [] [] h e = refl
word_read [] (c ∷ cs) h e = cond-false (is_word c) (c ∷ (word_at cs).0, (word_at cs).1) ([], c ∷ cs) (not-true (is_word c) e)
word_read (c ∷ w) t h e =
    let parts = both (is_word c) (list_all is_word w) h in
    cond-true (is_word c) (c ∷ (word_at (w ++ t)).0, (word_at (w ++ t)).1) ([], c ∷ (w ++ t)) parts.0
    ∙ ap (λ (x : List ℕ × List ℕ). (c ∷ x.0, x.1)) (word_read w t parts.1 e)

-- ---- digits

not_blank : (c : ℕ) → is_digit c ≡ true → is_blank c ≡ false
not_blank c h = grind (arith, nat_tests)

not_percent : (c : ℕ) → is_digit c ≡ true → eqb c 37 ≡ false
not_percent c h = grind (arith, nat_tests)

not_minus : (c : ℕ) → is_digit c ≡ true → eqb c 45 ≡ false
not_minus c h = grind (arith, nat_tests)

not_x : (c : ℕ) → is_digit c ≡ true → eqb c 120 ≡ false
not_x c h = grind (arith, nat_tests)

not_letter : (c : ℕ) → is_digit c ≡ true → is_letter c ≡ false
not_letter c h = grind (arith, nat_tests)

pub record DigitFacts (c : ℕ) : Type 0 where
  pub blank : is_blank c ≡ false
  pub percent : eqb c 37 ≡ false
  pub minus : eqb c 45 ≡ false
  pub letter : is_letter c ≡ false

pub digit_facts : (c : ℕ) → is_digit c ≡ true → DigitFacts c
digit_facts c h = record { blank = not_blank c h; percent = not_percent c h; minus = not_minus c h; letter = not_letter c h }

or_right : (b : Bool) → (b || true) ≡ true
or_right true = refl
or_right false = refl

digit_word : (c : ℕ) → is_digit c ≡ true → is_word c ≡ true
digit_word c h = rw h (or_right (is_letter c))

hex_char : (c : ℕ) → (is_digit c || is_hex_letter c) ≡ true → is_word c ≡ true
hex_char c h = grind (arith, nat_tests)

-- the decimal of a number
pub decimal_digits : (n : ℕ) → n < 10 ^ 64 → list_all is_digit (decimal n) ≡ true
decimal_digits n lt = list_all-from_AllPass is_digit (decimal n) (digits-decimal n lt)

pub decimal_word : (n : ℕ) → n < 10 ^ 64 → list_all is_word (decimal n) ≡ true
decimal_word n lt = mono is_digit is_word digit_word (decimal n) (decimal_digits n lt)

no_x : (b : Bool) (cs : List ℕ) → list_all is_digit cs ≡ true → option_and_then (past 120) (cond b (Some cs) None) ≡ None
no_x false cs h = refl
no_x true [] h = refl
no_x true (c ∷ cs) h = cond-false (eqb c 120) (Some cs) None (not_x c (both (is_digit c) (list_all is_digit cs) h).0)

no_0x : (ds : List ℕ) → list_all is_digit ds ≡ true → past_0x ds ≡ None
no_0x [] h = refl
no_0x (c ∷ cs) h = no_x (eqb c 48) cs (both (is_digit c) (list_all is_digit cs) h).1

capped_small : (n : ℕ) → n ≤ 2 ^ 40 → capped n ≡ n
capped_small n le = omega arith

pub sized : (ds : List ℕ) (n : ℕ) → list_all is_digit ds ≡ true → numeral ds ≡ Some n → n ≤ 2 ^ 40 → size_of ds ≡ Some n
unfolding size_of
sized ds n h e le =
    ap (λ o. or_some o (λ digits. option_map capped (hex_numeral digits)) (option_map capped (numeral ds))) (no_0x ds h)
    ∙ ap (option_map capped) e ∙ ap (λ (k : ℕ). Some k) (capped_small n le)

-- ---- places

hex_lowered : (c : ℕ) → (is_digit c || is_hex_letter c) ≡ true → lowered c ≡ c
hex_lowered c h = grind (arith, nat_tests)

all_lowered : (cs : List ℕ) → list_all (λ c. is_digit c || is_hex_letter c) cs ≡ true → map lowered cs ≡ cs
all_lowered [] h = refl
all_lowered (c ∷ cs) h =
    let parts = both (is_digit c || is_hex_letter c) (list_all (λ c. is_digit c || is_hex_letter c) cs) h in
    ap (λ x. x ∷ map lowered cs) (hex_lowered c parts.0) ∙ ap (λ xs. c ∷ xs) (all_lowered cs parts.1)

hex_chars : (w : ℕ) → list_all (λ c. is_digit c || is_hex_letter c) (word_text w) ≡ true
hex_chars w = list_all-from_AllPass (λ c. is_digit c || is_hex_letter c) (word_text w) (digits-word_text w)

pub hex_word_chars : (w : ℕ) → list_all is_word (word_text w) ≡ true
hex_word_chars w = mono (λ c. is_digit c || is_hex_letter c) is_word hex_char (word_text w) (hex_chars w)

eight_digits : (cs : List ℕ) (w : ℕ) → length cs ≡ 8 → hex_word cs ≡ Some w → hex_digits_after 0 cs ≡ Some w
unfolding hex_word
eight_digits cs w len e = rw len at e

hex_read : (cs : List ℕ) (w : ℕ) → length cs ≡ 8 → map lowered cs ≡ cs → hex_digits_after 0 cs ≡ Some w → hex_numeral cs ≡ Some w
hex_read cs w len low e = rw (len, low) e

pub place_sized : (w : ℕ) → w < 2 ^ 32 → size_of (48 ∷ 120 ∷ word_text w) ≡ Some w
unfolding size_of
place_sized w lt =
    ap (option_map capped) (hex_read (word_text w) w (length-word_text w) (all_lowered (word_text w) (hex_chars w)) (eight_digits (word_text w) w (length-word_text w) (hex_word-word_text w lt)))
    ∙ ap (λ (k : ℕ). Some k) (capped_small w (omega arith))
