-- Operands, read where they were written.
use Rattle.std.proofs.Common.{◌≡◌, ℕ, zero, suc, ◌+◌, ◌-◌, ◌*◌, ◌/◌, ◌%◌, ◌^◌, ◌<◌, ◌≤◌, Bool, true, false, cond, eqb, leb, ltb, List, [], ◌∷◌, ◌++◌, length, Option, Some, None, refl, sym, ap, subst, ◌∙◌, inl, inr, arith}
use Rattle.std.specs.Prelude.{◌&&◌, not, decimal, option_map, option_and_then}
use Rattle.std.specs.List.{list_all}
use Rattle.std.proofs.lemmas.Bool.{cases_Bool, cond-true, cond-false, false≢true, le-leb}
use Rattle.std.proofs.lemmas.List.{append-nil}
use Rattle.std.proofs.lemmas.Option.{none-some}
use Rattle.n2_text.specs.Fields.{word_text, is_digit, numeral}
use Rattle.n2_text.proofs.Decimals.{numeral-decimal}
use Rattle.n2_source.specs.declared.numbers.Number.{Number}
use Rattle.n2_source.specs.declared.operands.Immediate.{Immediate}
use Rattle.n2_source.specs.declared.operands.Expression.{Expression}
use Rattle.n2_source.specs.declared.operands.Expression.TheVariants as expression
use Rattle.n2_source.specs.declared.operands.Part.TheVariants as part
use Rattle.n2_source.specs.Cursors.{is_blank, is_letter, is_word, skip, word_at, past, mark_at, starts_letter}
use Rattle.n2_source.specs.Numbers.{or_some, size_of, plain, minus, negative_at, plain_at, number_at, below_32, register_of, control_of, register_at, control_at, is_name, name_at}
use Rattle.n2_source.specs.Operands.{immediate, plain_expression_at, expression_at, part_at, whole_at, immediate_at, two_registers_at, three_registers_at, register_immediate_at, two_registers_immediate_at, two_registers_place_at, base_at, register_base_at, register_control_at, control_register_at}
use Rattle.n2_statement.specs.Statements.{whole}
use Rattle.n2_dis.specs.Texts.{signed_text, register_text}
use Rattle.n2_dis.proofs.WordSteps.{both, ends, word_read, DigitFacts, digit_facts, decimal_digits, decimal_word, sized, hex_word_chars, place_sized}

-- ---- registers

abbrev register_in : List ℕ × List ℕ → Option (ℕ × List ℕ)
register_in x = option_and_then (λ r. Some (r, x.1)) (register_of x.0)

below : (o : Option ℕ) (n : ℕ) → o ≡ Some n → n < 32 → below_32 o ≡ Some n
below o n e lt = ap below_32 e ∙ cond-true (leb n 31) (Some n) None (le-leb n 31 (omega arith))

register_spelled : (n : ℕ) → n < 32 → register_of (114 ∷ decimal n) ≡ Some n
unfolding register_of
register_spelled n lt = below (numeral (decimal n)) n (numeral-decimal n (omega arith)) lt

control_spelled : (n : ℕ) → n < 32 → control_of (99 ∷ 116 ∷ 108 ∷ decimal n) ≡ Some n
unfolding control_of
control_spelled n lt = below (numeral (decimal n)) n (numeral-decimal n (omega arith)) lt

pub register_read : (n : ℕ) (t : List ℕ) → n < 32 → ends t ≡ true → register_at (32 ∷ 114 ∷ (decimal n ++ t)) ≡ Some (n, t)
unfolding register_at
register_read n t lt e =
    ap (λ (x : List ℕ × List ℕ). register_in (114 ∷ x.0, x.1)) (word_read (decimal n) t (decimal_word n (omega arith)) e)
    ∙ ap (option_and_then (λ r. Some (r, t))) (register_spelled n lt)

-- without a blank
pub register_bare : (n : ℕ) (t : List ℕ) → n < 32 → ends t ≡ true → register_at (114 ∷ (decimal n ++ t)) ≡ Some (n, t)
unfolding register_at
register_bare n t lt e = register_read n t lt e

pub register_last : (n : ℕ) → n < 32 → register_at (32 ∷ 114 ∷ decimal n) ≡ Some (n, [])
register_last n lt = ap (λ xs. register_at (32 ∷ 114 ∷ xs)) (sym (append-nil (decimal n))) ∙ register_read n [] lt refl

abbrev control_in : List ℕ × List ℕ → Option (ℕ × List ℕ)
control_in x = option_and_then (λ r. Some (r, x.1)) (control_of x.0)

pub control_read : (n : ℕ) (t : List ℕ) → n < 32 → ends t ≡ true → control_at (32 ∷ 99 ∷ 116 ∷ 108 ∷ (decimal n ++ t)) ≡ Some (n, t)
unfolding control_at
control_read n t lt e =
    ap (λ (x : List ℕ × List ℕ). control_in (99 ∷ 116 ∷ 108 ∷ x.0, x.1)) (word_read (decimal n) t (decimal_word n (omega arith)) e)
    ∙ ap (option_and_then (λ r. Some (r, t))) (control_spelled n lt)

pub control_last : (n : ℕ) → n < 32 → control_at (32 ∷ 99 ∷ 116 ∷ 108 ∷ decimal n) ≡ Some (n, [])
control_last n lt = ap (λ xs. control_at (32 ∷ 99 ∷ 116 ∷ 108 ∷ xs)) (sym (append-nil (decimal n))) ∙ control_read n [] lt refl

-- ---- numbers

abbrev plain_in : List ℕ × List ℕ → Option (Number × List ℕ)
plain_in x = option_and_then (λ n. Some (plain n, x.1)) (size_of x.0)

plain_read : (w t : List ℕ) (n : ℕ) → list_all is_word w ≡ true → ends t ≡ true → size_of w ≡ Some n → plain_at (w ++ t) ≡ Some (plain n, t)
unfolding plain_at
plain_read w t n h e s = ap plain_in (word_read w t h e) ∙ ap (option_and_then (λ k. Some (plain k, t))) s

abbrev negative_in : List ℕ × List ℕ → Option (Number × List ℕ)
negative_in x = option_and_then (λ n. Some (minus n, x.1)) (size_of x.0)

negative_read : (w t : List ℕ) (n : ℕ) → list_all is_word w ≡ true → ends t ≡ true → size_of w ≡ Some n → negative_at (w ++ t) ≡ Some (minus n, t)
unfolding negative_at
negative_read w t n h e s = ap negative_in (word_read w t h e) ∙ ap (option_and_then (λ k. Some (minus k, t))) s

abbrev number_in : List ℕ → Option (Number × List ℕ)
number_in x = or_some (past 45 x) negative_at (plain_at x)

-- a number that begins with a digit
digits_read : (c : ℕ) (cs t : List ℕ) (n : ℕ) → is_digit c ≡ true → list_all is_word (c ∷ cs) ≡ true → ends t ≡ true → size_of (c ∷ cs) ≡ Some n → number_at (c ∷ (cs ++ t)) ≡ Some (plain n, t)
unfolding number_at
digits_read c cs t n digit h e s =
    let facts = digit_facts c digit in
    ap number_in (cond-false (is_blank c) (skip (cs ++ t)) (c ∷ (cs ++ t)) facts.blank)
    ∙ ap (λ o. or_some o negative_at (plain_at (c ∷ (cs ++ t)))) (cond-false (eqb c 45) (Some (cs ++ t)) None facts.minus)
    ∙ plain_read (c ∷ cs) t n h e s

abbrev named_in : List ℕ × List ℕ → Option (List ℕ × List ℕ)
named_in x = cond (is_name x.0) (Some (x.0, x.1)) None

not_name : (w : List ℕ) → starts_letter w ≡ false → is_name w ≡ false
unfolding is_name
not_name w e = rw e refl

-- what begins with a digit is no name, and no part of a number
no_name : (c : ℕ) (cs t : List ℕ) → is_digit c ≡ true → list_all is_word (c ∷ cs) ≡ true → ends t ≡ true → name_at (c ∷ (cs ++ t)) ≡ None
unfolding name_at
no_name c cs t digit h e =
    let facts = digit_facts c digit in
    ap (λ x. named_in (word_at x)) (cond-false (is_blank c) (skip (cs ++ t)) (c ∷ (cs ++ t)) facts.blank)
    ∙ ap named_in (word_read (c ∷ cs) t h e)
    ∙ cond-false (is_name (c ∷ cs)) (Some (c ∷ cs, t)) None (not_name (c ∷ cs) facts.letter)

no_percent : (c : ℕ) (cs : List ℕ) → is_digit c ≡ true → mark_at 37 (c ∷ cs) ≡ None
unfolding mark_at
no_percent c cs digit =
    let facts = digit_facts c digit in
    ap (past 37) (cond-false (is_blank c) (skip cs) (c ∷ cs) facts.blank) ∙ cond-false (eqb c 37) (Some cs) None facts.percent

-- ---- immediates

whole_number : (bs : List ℕ) (x : Number × List ℕ) → name_at bs ≡ None → number_at bs ≡ Some x → whole_at bs ≡ Some (whole x.0, x.1)
unfolding whole_at expression_at plain_expression_at
whole_number bs x a b = rw (a, b) refl

immediate_number : (bs : List ℕ) (x : Number × List ℕ) → mark_at 37 bs ≡ None → whole_at bs ≡ Some (whole x.0, x.1) → immediate_at bs ≡ Some (whole x.0, x.1)
unfolding immediate_at
immediate_number bs x a b = rw (a, b) refl

-- blanks in front do not count
blank_whole : (bs : List ℕ) → whole_at (32 ∷ bs) ≡ whole_at bs
unfolding whole_at expression_at plain_expression_at name_at number_at
blank_whole bs = refl

blank_percent : (bs : List ℕ) → mark_at 37 (32 ∷ bs) ≡ mark_at 37 bs
unfolding mark_at
blank_percent bs = refl

blank_immediate : (bs : List ℕ) → immediate_at (32 ∷ bs) ≡ immediate_at bs
unfolding immediate_at
blank_immediate bs = rw (blank_percent bs, blank_whole bs) refl

digits_immediate : (c : ℕ) (cs t : List ℕ) (n : ℕ) → is_digit c ≡ true → list_all is_word (c ∷ cs) ≡ true → ends t ≡ true → size_of (c ∷ cs) ≡ Some n → immediate_at (c ∷ (cs ++ t)) ≡ Some (whole (plain n), t)
digits_immediate c cs t n digit h e s =
    immediate_number (c ∷ (cs ++ t)) (plain n, t) (no_percent c (cs ++ t) digit)
    (whole_number (c ∷ (cs ++ t)) (plain n, t) (no_name c cs t digit h e) (digits_read c cs t n digit h e s))

spelled_immediate : (ds t : List ℕ) (n : ℕ) → list_all is_digit ds ≡ true → list_all is_word ds ≡ true → ends t ≡ true → numeral ds ≡ Some n → n ≤ 2 ^ 40 → immediate_at (ds ++ t) ≡ Some (whole (plain n), t)
spelled_immediate [] t n h w e s le = absurd (none-some n s)
spelled_immediate (c ∷ cs) t n h w e s le = digits_immediate c cs t n (both (is_digit c) (list_all is_digit cs) h).0 w e (sized (c ∷ cs) n h s le)

decimal_read : (n : ℕ) (t : List ℕ) → n < 2 ^ 17 → ends t ≡ true → immediate_at (decimal n ++ t) ≡ Some (whole (plain n), t)
decimal_read n t lt e =
    let small : n < 10 ^ 64 = omega arith in
    spelled_immediate (decimal n) t n (decimal_digits n small) (decimal_word n small) e (numeral-decimal n small) (omega arith)

minus_number : (w t : List ℕ) (n : ℕ) → list_all is_word w ≡ true → ends t ≡ true → size_of w ≡ Some n → number_at (45 ∷ (w ++ t)) ≡ Some (minus n, t)
unfolding number_at
minus_number w t n h e s = negative_read w t n h e s

minus_no_name : (bs : List ℕ) → name_at (45 ∷ bs) ≡ None
unfolding name_at is_name
minus_no_name bs = refl

minus_no_percent : (bs : List ℕ) → mark_at 37 (45 ∷ bs) ≡ None
unfolding mark_at
minus_no_percent bs = refl

minus_read : (n : ℕ) (t : List ℕ) → n < 2 ^ 17 → ends t ≡ true → immediate_at (45 ∷ (decimal n ++ t)) ≡ Some (whole (minus n), t)
minus_read n t lt e =
    let small : n < 10 ^ 64 = omega arith in
    immediate_number (45 ∷ (decimal n ++ t)) (minus n, t) (minus_no_percent (decimal n ++ t))
    (whole_number (45 ∷ (decimal n ++ t)) (minus n, t) (minus_no_name (decimal n ++ t))
    (minus_number (decimal n) t n (decimal_word n small) e (sized (decimal n) n (decimal_digits n small) (numeral-decimal n small) (omega arith))))

-- the number that an immediate of 16 bits is, with its sign
abbrev pub signed_number : ℕ → Number
signed_number imm = cond (ltb imm (2 ^ 15)) (plain imm) (minus (2 ^ 16 - imm))

pub signed_read : (imm : ℕ) (t : List ℕ) → imm < 2 ^ 16 → ends t ≡ true → immediate_at (32 ∷ (signed_text imm ++ t)) ≡ Some (whole (signed_number imm), t)
signed_read imm t lt e =
    blank_immediate (signed_text imm ++ t) ∙
    elim (cases_Bool (ltb imm (2 ^ 15))) [
      | inl low ↦ rw low (decimal_read imm t (omega arith) e)
      | inr high ↦ rw high (minus_read (2 ^ 16 - imm) t (omega arith) e)
    ]

pub number_read : (n : ℕ) (t : List ℕ) → n < 2 ^ 16 → ends t ≡ true → immediate_at (32 ∷ (decimal n ++ t)) ≡ Some (whole (plain n), t)
number_read n t lt e = blank_immediate (decimal n ++ t) ∙ decimal_read n t (omega arith) e

pub signed_last : (imm : ℕ) → imm < 2 ^ 16 → immediate_at (32 ∷ signed_text imm) ≡ Some (whole (signed_number imm), [])
signed_last imm lt = ap (λ xs. immediate_at (32 ∷ xs)) (sym (append-nil (signed_text imm))) ∙ signed_read imm [] lt refl

pub number_last : (n : ℕ) → n < 2 ^ 16 → immediate_at (32 ∷ decimal n) ≡ Some (whole (plain n), [])
number_last n lt = ap (λ xs. immediate_at (32 ∷ xs)) (sym (append-nil (decimal n))) ∙ number_read n [] lt refl

-- the number of `trap` and `break`
blank_number : (bs : List ℕ) → number_at (32 ∷ bs) ≡ number_at bs
unfolding number_at
blank_number bs = refl

spelled_number : (ds t : List ℕ) (n : ℕ) → list_all is_digit ds ≡ true → list_all is_word ds ≡ true → ends t ≡ true → numeral ds ≡ Some n → n ≤ 2 ^ 40 → number_at (ds ++ t) ≡ Some (plain n, t)
spelled_number [] t n h w e s le = absurd (none-some n s)
spelled_number (c ∷ cs) t n h w e s le = digits_read c cs t n (both (is_digit c) (list_all is_digit cs) h).0 w e (sized (c ∷ cs) n h s le)

pub count_last : (n : ℕ) → n < 2 ^ 16 → number_at (32 ∷ decimal n) ≡ Some (plain n, [])
count_last n lt =
    let small : n < 10 ^ 64 = omega arith in
    blank_number (decimal n) ∙ ap number_at (sym (append-nil (decimal n)))
    ∙ spelled_number (decimal n) [] n (decimal_digits n small) (decimal_word n small) refl (numeral-decimal n small) (omega arith)

pub place_last : (w : ℕ) → w < 2 ^ 32 → whole_at (32 ∷ 48 ∷ 120 ∷ word_text w) ≡ Some (whole (plain w), [])
place_last w lt =
    let ws : List ℕ = 120 ∷ word_text w in
    let chars : list_all is_word (48 ∷ ws) ≡ true = hex_word_chars w in
    blank_whole (48 ∷ ws) ∙ ap (λ xs. whole_at (48 ∷ xs)) (sym (append-nil ws))
    ∙ whole_number (48 ∷ (ws ++ [])) (plain w, []) (no_name 48 ws [] refl chars refl) (digits_read 48 ws [] w refl chars refl (place_sized w lt))
