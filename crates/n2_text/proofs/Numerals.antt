-- Decimal digits, read one by one.
use Rattle.std.proofs.Common.{◌≡◌, ℕ, ◌+◌, ◌-◌, ◌*◌, ◌<◌, ◌≤◌, true, false, cond, leb, List, [], ◌∷◌, length, get_or, drop, Some, None, refl, sym, ap, ◌∙◌, inl, inr, arith}
use Rattle.std.proofs.lemmas.Bool.{cases_Bool, cond-true, cond-false, le-leb, lt-leb, leb-false}
use Rattle.std.proofs.lemmas.Option.{none-some}
use Rattle.std.proofs.lemmas.Bool.Decides.{nat_tests}
use Rattle.std.proofs.lemmas.List.{at_drop_more, at_drop_all}
use Rattle.n2_text.specs.Fields.{is_digit, digits_after, at_most}

-- a number that is too large stays so with more digits
too_large : (most n : ℕ) (cs : List ℕ) → most < n → at_most most (digits_after n cs) ≡ None
too_large most n [] lt = cond-false (leb n most) (Some n) None (lt-leb n most lt)
too_large most n (c ∷ cs) lt =
    elim (is_digit c) as (λ b. at_most most (cond b (digits_after (10 * n + (c - 48)) cs) None) ≡ None) [
      | true ↦ too_large most (10 * n + (c - 48)) cs (omega arith)
      | false ↦ refl
    ]

small_enough : (most n : ℕ) → n ≤ most → at_most most (Some n) ≡ Some n
small_enough most n le = cond-true (leb n most) (Some n) None (le-leb n most le)

at_most_none : (most n : ℕ) → None ≡ at_most most (Some n) → most < n
at_most_none most n e =
    elim (cases_Bool (leb n most)) [
      | inl le ↦ absurd (none-some n (e ∙ cond-true (leb n most) (Some n) None le))
      | inr gt ↦ leb-false n most gt
    ]

-- one digit more
pub digits_more : (n : ℕ) (text : List ℕ) (i : ℕ) → i < length text → 48 ≤ get_or text i 0 → get_or text i 0 < 58 → digits_after n (drop i text) ≡ digits_after (10 * n + (get_or text i 0 - 48)) (drop (i + 1) text)
digits_more n text i lt low high =
    let c : ℕ = get_or text i 0 in
    let digit : is_digit c ≡ true = grind (arith, nat_tests) in
    at_drop_more (digits_after n) text i 0 lt ∙ cond-true (is_digit c) (digits_after (10 * n + (c - 48)) (drop (i + 1) text)) None digit

-- with one digit more the number is too large
pub digits_fault : (most n : ℕ) (text : List ℕ) (i : ℕ) → i < length text → 48 ≤ get_or text i 0 → get_or text i 0 < 58 → None ≡ at_most most (Some (10 * n + (get_or text i 0 - 48))) → None ≡ at_most most (digits_after n (drop i text))
digits_fault most n text i lt low high e =
    sym (ap (at_most most) (digits_more n text i lt low high) ∙ too_large most (10 * n + (get_or text i 0 - 48)) (drop (i + 1) text) (at_most_none most (10 * n + (get_or text i 0 - 48)) e))

-- no digit is left
pub digits_end : (most n : ℕ) (text : List ℕ) (i : ℕ) → length text ≤ i → n ≤ most → Some n ≡ at_most most (digits_after n (drop i text))
digits_end most n text i past le = sym (ap (at_most most) (at_drop_all (digits_after n) text i past) ∙ small_enough most n le)
