-- A decimal is read as its number, and what is read as a number is its decimal.
use Rattle.std.proofs.Common.{◌≡◌, ◌≢◌, ℕ, zero, suc, ◌+◌, ◌-◌, ◌*◌, ◌/◌, ◌%◌, ◌^◌, ◌<◌, ◌≤◌, true, false, cond, eqb, List, [], ◌∷◌, ◌++◌, length, get_or, Option, Some, None, refl, sym, ap, ◌∙◌, append_assoc, inl, inr, arith}
use Rattle.std.specs.Prelude.{decimal, option_and_then}
use Rattle.std.specs.List.{AllPass, list_all}
use Rattle.std.proofs.lemmas.Bool.{cases_Bool, cond-true, cond-false, ne_eqb, eqb-true, eqb-false}
use Rattle.std.proofs.lemmas.Bool.Decides.{nat_tests}
use Rattle.std.proofs.lemmas.Fmt.{decimal_digit, decimal_step_wide, decimal_by_steps_wide}
use Rattle.std.proofs.lemmas.List.{append-nil}
use Rattle.std.proofs.lemmas.List.Folds.{list_all-append}
use Rattle.std.proofs.lemmas.List.Sums.{AllPass-from_list_all}
use Rattle.std.proofs.lemmas.Option.{none-some, same_Some}
use Rattle.n2_text.specs.Fields.{is_digit, digits_after, numeral}

-- a digit more, where it is one
abbrev with_digit : ℕ → ℕ → Option ℕ
with_digit c n = cond (is_digit c) (Some (10 * n + (c - 48))) None

digits_after-push : (n c : ℕ) (ds : List ℕ) → digits_after n (ds ++ c ∷ []) ≡ option_and_then (with_digit c) (digits_after n ds)
digits_after-push n c [] = refl
digits_after-push n c (d ∷ ds) =
    elim (is_digit d) as (λ b. cond b (digits_after (10 * n + (d - 48)) (ds ++ c ∷ [])) None ≡ option_and_then (with_digit c) (cond b (digits_after (10 * n + (d - 48)) ds) None)) [
      | true ↦ digits_after-push (10 * n + (d - 48)) c ds
      | false ↦ refl
    ]

-- digits of a number, without a leading zero
record Spells (n : ℕ) (ds : List ℕ) : Type 0 where
  number : digits_after 0 ds ≡ Some n
  first : 1 ≤ n → 48 < get_or ds 0 0
  digits : list_all is_digit ds ≡ true

a_digit : (n : ℕ) → n < 10 → is_digit (48 + n) ≡ true
a_digit n lt = grind (arith, nat_tests)

spells_one : (n : ℕ) → n < 10 → Spells n ((48 + n) ∷ [])
spells_one n lt = record {
  number = rw (a_digit n lt) (ap (λ (k : ℕ). Some k) (omega arith));
  first = λ some. omega arith;
  digits = rw (a_digit n lt) refl;
}

first_stays : (ds : List ℕ) (c : ℕ) → 48 < get_or ds 0 0 → 48 < get_or (ds ++ c ∷ []) 0 0
first_stays [] c h = absurd (omega arith)
first_stays (d ∷ ds) c h = h

spells_more : (n : ℕ) (ds : List ℕ) → 10 ≤ n → Spells (n / 10) ds → Spells n (ds ++ (48 + n % 10) ∷ [])
spells_more n ds many h =
    let c : ℕ = 48 + n % 10 in
    let digit : is_digit c ≡ true = a_digit (n % 10) (omega arith) in
    record {
      number =
          digits_after-push 0 c ds ∙ ap (option_and_then (with_digit c)) h.number
          ∙ cond-true (is_digit c) (Some (10 * (n / 10) + (c - 48))) None digit
          ∙ ap (λ (k : ℕ). Some k) (omega arith);
      first = λ some. first_stays ds c (h.first (omega arith));
      digits = list_all-append is_digit ds (c ∷ []) ∙ rw (h.digits, digit) refl;
    }

spells-decimal : (n : ℕ) → n < 10 ^ 64 → Spells n (decimal n)
spells-decimal n lt = decimal_by_steps_wide Spells spells_one spells_more n lt

read_from : (ds : List ℕ) (n : ℕ) → 1 ≤ n → Spells n ds → numeral ds ≡ Some n
read_from [] n some h = absurd (omega (arith, h.first some))
read_from (c ∷ cs) n some h =
    let lead : 48 < c = h.first some in
    cond-false (eqb c 48) (cond (eqb (length cs) 0) (Some 0) None) (digits_after 0 (c ∷ cs)) (ne_eqb c 48 (λ e. omega arith)) ∙ h.number

-- what is written is read
pub numeral-decimal : (n : ℕ) → n < 10 ^ 64 → numeral (decimal n) ≡ Some n
numeral-decimal zero lt = ap numeral (decimal_digit 0 (omega arith))
numeral-decimal (suc n) lt = read_from (decimal (suc n)) (suc n) (omega arith) (spells-decimal (suc n) lt)

pub digits-decimal : (n : ℕ) → n < 10 ^ 64 → AllPass is_digit (decimal n)
digits-decimal n lt = AllPass-from_list_all is_digit (decimal n) (spells-decimal n lt).digits

-- ---- and the other way round

after_digit : (n m c : ℕ) (cs : List ℕ) → digits_after n (c ∷ cs) ≡ Some m → (is_digit c ≡ true) × (digits_after (10 * n + (c - 48)) cs ≡ Some m)
after_digit n m c cs e =
    elim (cases_Bool (is_digit c)) [
      | inl digit ↦ (digit, sym (cond-true (is_digit c) (digits_after (10 * n + (c - 48)) cs) None digit) ∙ e)
      | inr other ↦ absurd (none-some m (sym (cond-false (is_digit c) (digits_after (10 * n + (c - 48)) cs) None other) ∙ e))
    ]

-- a number does not fall with more digits
digits_grow : (n m : ℕ) (cs : List ℕ) → digits_after n cs ≡ Some m → n ≤ m
digits_grow n m [] e = let same : n ≡ m = same_Some n m e in omega arith
digits_grow n m (c ∷ cs) e = let g = digits_grow (10 * n + (c - 48)) m cs (after_digit n m c cs e).1 in omega arith

in_range : (c : ℕ) → is_digit c ≡ true → (48 ≤ c) × (c < 58)
in_range c h = grind (arith, nat_tests)

push_digit : (front : List ℕ) (n c : ℕ) → front ≡ decimal n → 1 ≤ n → 48 ≤ c → c < 58 → 10 * n + (c - 48) < 10 ^ 64 → front ++ c ∷ [] ≡ decimal (10 * n + (c - 48))
push_digit front n c is some low high lt =
    let m : ℕ = 10 * n + (c - 48) in
    let tens : m / 10 ≡ n = omega arith in
    let ones : 48 + m % 10 ≡ c = omega arith in
    ap (λ (ds : List ℕ). ds ++ c ∷ []) (is ∙ ap decimal (sym tens)) ∙ ap (λ d. decimal (m / 10) ++ d ∷ []) (sym ones) ∙ sym (decimal_step_wide m (omega arith) lt)

-- digits behind a number's decimal
spelled_behind : (front cs : List ℕ) (n m : ℕ) → front ≡ decimal n → 1 ≤ n → m < 10 ^ 64 → digits_after n cs ≡ Some m → front ++ cs ≡ decimal m
spelled_behind front [] n m is some lt e = append-nil front ∙ is ∙ ap decimal (same_Some n m e)
spelled_behind front (c ∷ cs) n m is some lt e =
    let d = after_digit n m c cs e in
    let range = in_range c d.0 in
    let most = digits_grow (10 * n + (c - 48)) m cs d.1 in
    sym (append_assoc front (c ∷ []) cs)
    ∙ spelled_behind (front ++ c ∷ []) cs (10 * n + (c - 48)) m (push_digit front n c is some range.0 range.1 (omega arith)) (omega arith) lt d.1

-- a text of zero alone
spelled_zero : (cs : List ℕ) (n : ℕ) → cond (eqb (length cs) 0) (Some 0) None ≡ Some n → 48 ∷ cs ≡ decimal n
spelled_zero [] n e = sym (decimal_digit 0 (omega arith)) ∙ ap decimal (same_Some 0 n e)
spelled_zero (c ∷ cs) n e = absurd (none-some n (sym (cond-false (eqb (length (c ∷ cs)) 0) (Some 0) None (ne_eqb (length (c ∷ cs)) 0 (λ z. omega arith))) ∙ e))

-- what is read is spelled so
pub decimal-numeral : (text : List ℕ) (n : ℕ) → n < 10 ^ 64 → numeral text ≡ Some n → text ≡ decimal n
decimal-numeral [] n lt e = absurd (none-some n e)
decimal-numeral (c ∷ cs) n lt e =
    let alone : Option ℕ = cond (eqb (length cs) 0) (Some 0) None in
    elim (cases_Bool (eqb c 48)) [
      | inl lead ↦ ap (λ d. d ∷ cs) (eqb-true c 48 lead) ∙ spelled_zero cs n (sym (cond-true (eqb c 48) alone (digits_after 0 (c ∷ cs)) lead) ∙ e)
      | inr other ↦
          let d = after_digit 0 n c cs (sym (cond-false (eqb c 48) alone (digits_after 0 (c ∷ cs)) other) ∙ e) in
          let range = in_range c d.0 in
          let ne : c ≢ 48 = eqb-false c 48 other in
          let first : c ∷ [] ≡ decimal (10 * 0 + (c - 48)) = ap (λ b. b ∷ []) (omega arith) ∙ sym (decimal_digit (10 * 0 + (c - 48)) (omega arith)) in
          spelled_behind (c ∷ []) cs (10 * 0 + (c - 48)) n first (omega arith) lt d.1
    ]
