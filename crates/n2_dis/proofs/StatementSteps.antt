-- A statement, read from its name and its operands.
use Rattle.std.proofs.Common.{◌≡◌, ℕ, zero, suc, ◌+◌, ◌-◌, ◌^◌, ◌<◌, ◌≤◌, Bool, true, false, cond, eqb, ltb, List, [], ◌∷◌, ◌++◌, length, Option, Some, None, Result, Ok, Err, refl, sym, ap, subst, ◌∙◌, inl, inr, arith}
use Rattle.std.specs.Prelude.{◌&&◌, not, decimal, option_and_then}
use Rattle.std.specs.List.{list_all}
use Rattle.std.proofs.lemmas.Bool.{cases_Bool, cond-true, cond-false, false≢true}
use Rattle.std.proofs.lemmas.Bool.Decides.{nat_tests}
use Rattle.std.proofs.lemmas.List.Folds.{list_all-append}
use Rattle.std.proofs.lemmas.Option.{none-some}
use Rattle.n2_text.specs.Fields.{is_digit, numeral}
use Rattle.n2_text.proofs.Decimals.{numeral-decimal}
use Rattle.n2_source.specs.declared.mnemonics.Mnemonic.{Mnemonic}
use Rattle.n2_source.specs.Cursors.{is_blank, is_letter, is_word, skip, word_at, past, is_over, is_end, starts_letter}
use Rattle.n2_source.specs.Numbers.{is_name, name_at}
use Rattle.n2_source.specs.Lists.{choose}
use Rattle.n2_source.specs.Mnemonics.{text_of, instruction_named}
use Rattle.n2_statement.specs.declared.faults.AsmKind.{AsmKind}
use Rattle.n2_statement.specs.declared.statements.Statement.{Statement}
use Rattle.n2_statement.specs.Statements.{statement_behind, instruction_at, directive_at, mnemonic_at, named_statement, label_at, behind_labels, behind_labels_within, is_ascii, statement_of}
use Rattle.n2_dis.proofs.NameSteps.{IsNamed}
use Rattle.n2_dis.proofs.WordSteps.{both, mono, ends, word_read, digit_facts, decimal_digits}

-- ---- bytes

not_blank : (c : ℕ) → is_letter c ≡ true → is_blank c ≡ false
not_blank c h = grind (arith, nat_tests)

not_hash : (c : ℕ) → is_letter c ≡ true → eqb c 35 ≡ false
not_hash c h = grind (arith, nat_tests)

not_dot : (c : ℕ) → is_letter c ≡ true → eqb c 46 ≡ false
not_dot c h = grind (arith, nat_tests)

word_ascii : (c : ℕ) → is_word c ≡ true → ltb c 128 ≡ true
word_ascii c h = grind (arith, nat_tests)

pub digit_ascii : (c : ℕ) → is_digit c ≡ true → ltb c 128 ≡ true
digit_ascii c h = grind (arith, nat_tests)

pub ascii_append : (a b : List ℕ) → is_ascii a ≡ true → is_ascii b ≡ true → is_ascii (a ++ b) ≡ true
ascii_append a b h g = list_all-append (λ c. ltb c 128) a b ∙ rw (h, g) refl

pub ascii_word : (w : List ℕ) → list_all is_word w ≡ true → is_ascii w ≡ true
ascii_word w h = mono is_word (λ c. ltb c 128) word_ascii w h

digit_not_hash : (c : ℕ) → is_digit c ≡ true → eqb c 35 ≡ false
digit_not_hash c h = grind (arith, nat_tests)

-- a number does not end a row
spelled_not_over : (ds : List ℕ) (n : ℕ) → list_all is_digit ds ≡ true → numeral ds ≡ Some n → is_over (skip ds) ≡ false
spelled_not_over [] n h e = absurd (none-some n e)
spelled_not_over (c ∷ cs) n h e =
    let digit = (both (is_digit c) (list_all is_digit cs) h).0 in
    ap is_over (cond-false (is_blank c) (skip cs) (c ∷ cs) (digit_facts c digit).blank) ∙ digit_not_hash c digit

pub decimal_not_over : (n : ℕ) → n < 2 ^ 16 → is_over (skip (decimal n)) ≡ false
decimal_not_over n lt =
    let small : n < 10 ^ 64 = omega arith in
    spelled_not_over (decimal n) n (decimal_digits n small) (numeral-decimal n small)

-- ---- a row that begins with a name

skipped : (c : ℕ) (cs : List ℕ) → is_letter c ≡ true → skip (c ∷ cs) ≡ c ∷ cs
skipped c cs h = cond-false (is_blank c) (skip cs) (c ∷ cs) (not_blank c h)

not_over : (c : ℕ) (cs : List ℕ) → is_letter c ≡ true → is_end (c ∷ cs) ≡ false
not_over c cs h = ap is_over (skipped c cs h) ∙ not_hash c h

-- no colon behind the name
abbrev labelled_in : List ℕ × List ℕ → Bool → Option (List ℕ × List ℕ)
labelled_in x b = option_and_then (λ (y : List ℕ × List ℕ). option_and_then (λ (rest : List ℕ). Some (y.0, rest)) (past 58 y.1)) (cond b (Some (x.0, x.1)) None)

no_colon : (w os : List ℕ) (b : Bool) → past 58 os ≡ None → labelled_in (w, os) b ≡ None
no_colon w os true e = ap (λ (o : Option (List ℕ)). option_and_then (λ (rest : List ℕ). Some (w, rest)) o) e
no_colon w os false e = refl

no_label : (c : ℕ) (cs os : List ℕ) → is_letter c ≡ true → list_all is_word (c ∷ cs) ≡ true → ends os ≡ true → past 58 os ≡ None → label_at (c ∷ (cs ++ os)) ≡ None
unfolding label_at name_at
no_label c cs os h w e p =
    ap (λ (bs : List ℕ). labelled_in (word_at bs) (is_name (word_at bs).0)) (skipped c (cs ++ os) h)
    ∙ ap (λ (x : List ℕ × List ℕ). labelled_in x (is_name x.0)) (word_read (c ∷ cs) os w e)
    ∙ no_colon (c ∷ cs) os (is_name (c ∷ cs)) p

behind_none : (n : ℕ) (bs : List ℕ) → label_at bs ≡ None → behind_labels_within n bs ≡ bs
unfolding behind_labels_within
behind_none zero bs e = refl
behind_none (suc n) bs e = ap (λ (o : Option (List ℕ × List ℕ)). choose o (λ x. behind_labels_within n x.1) bs) e

unlabelled : (bs : List ℕ) → label_at bs ≡ None → behind_labels bs ≡ bs
unfolding behind_labels
unlabelled bs e = behind_none (length bs) bs e

abbrev mnemonic_in : List ℕ × List ℕ → Option Mnemonic × List ℕ
mnemonic_in x = (instruction_named x.0, x.1)

named_at : (c : ℕ) (cs os : List ℕ) (m : Mnemonic) → is_letter c ≡ true → list_all is_word (c ∷ cs) ≡ true → ends os ≡ true → instruction_named (c ∷ cs) ≡ Some m → mnemonic_at (c ∷ (cs ++ os)) ≡ (Some m, os)
unfolding mnemonic_at
named_at c cs os m h w e found =
    ap (λ (o : Option (List ℕ)). choose o directive_at (instruction_at (c ∷ (cs ++ os)))) (cond-false (eqb c 46) (Some (cs ++ os)) None (not_dot c h))
    ∙ ap mnemonic_in (word_read (c ∷ cs) os w e)
    ∙ ap (λ (o : Option Mnemonic). (o, os)) found

named_row : (row os : List ℕ) (m : Mnemonic) (st : Statement) → mnemonic_at row ≡ (Some m, os) → statement_behind m os ≡ Some st → named_statement row ≡ Ok st
unfolding named_statement
named_row row os m st e f = rw (e, f) refl

read_row : (row : List ℕ) (st : Statement) → is_ascii row ≡ true → behind_labels row ≡ row → is_end row ≡ false → skip row ≡ row → named_statement row ≡ Ok st → statement_of row ≡ Ok (Some st)
unfolding statement_of
read_row row st a b e s n = rw (a, b, e, s, n) refl

-- what is known of operands
pub record AreOperands (os : List ℕ) : Type 0 where
  pub ends : ends os ≡ true
  pub colon : past 58 os ≡ None
  pub ascii : is_ascii os ≡ true

row_of_name : (w os : List ℕ) (m : Mnemonic) (st : Statement) → starts_letter w ≡ true → list_all is_word w ≡ true → instruction_named w ≡ Some m → AreOperands os → statement_behind m os ≡ Some st → statement_of (w ++ os) ≡ Ok (Some st)
row_of_name [] os m st h w found o e = absurd (false≢true h)
row_of_name (c ∷ cs) os m st h w found o e =
    let row : List ℕ = c ∷ (cs ++ os) in
    let ascii : is_ascii row ≡ true = ascii_append (c ∷ cs) os (ascii_word (c ∷ cs) w) o.ascii in
    read_row row st ascii (unlabelled row (no_label c cs os h w o.ends o.colon)) (not_over c (cs ++ os) h) (skipped c (cs ++ os) h)
    (named_row row os m st (named_at c cs os m h w o.ends found) e)

pub statement_read : (m : Mnemonic) (os : List ℕ) (st : Statement) → IsNamed m → AreOperands os → statement_behind m os ≡ Some st → statement_of (text_of m ++ os) ≡ Ok (Some st)
statement_read m os st n o e = row_of_name (text_of m) os m st n.first n.word n.found o e
