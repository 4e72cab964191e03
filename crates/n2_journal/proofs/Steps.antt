-- Steps of the loops over bytes, rows and entries.
use Rattle.std.proofs.Common.{◌≡◌, ◌≢◌, ℕ, ◌+◌, ◌-◌, ◌*◌, ◌<◌, ◌≤◌, leb, subst, Bool, true, false, cond, eqb, List, [], ◌∷◌, ◌++◌, length, get_or, take, drop, Option, Some, None, Result, Ok, Err, refl, sym, ap, ◌∙◌, arith}
use Rattle.std.specs.Prelude.{All, ◌&&◌, option_map}
use Rattle.std.specs.List.{list_all, join_with_byte}
use Rattle.std.proofs.lemmas.Bool.{cond-true, cond-false, leb-true, ne_eqb}
use Rattle.std.proofs.lemmas.Bool.Decides.{nat_tests}
use Rattle.std.proofs.lemmas.List.{take-append-drop, at_drop_more, take_all, length-drop, append-nil}
use Rattle.std.proofs.lemmas.Option.{cond_some}
use Rattle.std.proofs.lemmas.List.Splits.{slice_split_at, slice_split_none, length-slice_split}
use Rattle.n2_journal.specs.declared.entry.Entry.{Entry}
use Rattle.n2_journal.specs.declared.journal.JournalFault.{JournalFault}
use Rattle.n2_journal.specs.declared.journal.JournalFault.TheVariants.{NotJournal}
use Rattle.n2_text.specs.Fields.{is_digit, digits_after, numeral, at_most}
use Rattle.n2_journal.specs.Journals.{Content}
use Rattle.n2_journal.specs.Texts.{spaced}
use Rattle.n2_journal.specs.Cursors.{parts_of, is_empty}
use Rattle.n2_journal.specs.Reading.{◌>=◌, or_fault, State, step, run, finish_at, core_mark}

-- the entries before the rest
abbrev pub after_front : List Entry → Result (List Entry) JournalFault → Result (List Entry) JournalFault
after_front front more = more >= λ entries. Ok (front ++ entries)

-- ---- parts of a text

-- no byte of a text is this one
abbrev pub Lacks : ℕ → List ℕ → Type 0
Lacks separator text = All (λ c. eqb c separator ≡ false) text

same_byte : (c separator : ℕ) → c ≡ separator → eqb c separator ≡ true
same_byte c separator e = grind (arith, nat_tests)

pub first_here : (separator : ℕ) (text : List ℕ) (at : ℕ) → at < length text → get_or text at 0 ≡ separator → Lacks separator (take at text) → parts_of separator text ≡ take at text ∷ parts_of separator (drop (at + 1) text)
first_here separator text at within here lacks =
    let whole : take at text ++ get_or text at 0 ∷ drop (at + 1) text ≡ text = sym (at_drop_more (λ (rest : List ℕ). take at text ++ rest) text at 0 within) ∙ take-append-drop at text in
    sym (ap (parts_of separator) whole) ∙ slice_split_at (λ c. eqb c separator) (take at text) (get_or text at 0) (drop (at + 1) text) lacks (same_byte (get_or text at 0) separator here)

pub one_part : (separator : ℕ) (text : List ℕ) → Lacks separator text → parts_of separator text ≡ text ∷ []
one_part separator text lacks = slice_split_none (λ c. eqb c separator) text lacks

pub some_part : (separator : ℕ) (text : List ℕ) → 0 < length (parts_of separator text)
some_part separator text = omega (arith, length-slice_split (λ c. eqb c separator) text)

some_not_empty : (parts : List (List ℕ)) → 0 < length parts → is_empty parts ≡ false
some_not_empty [] some = absurd (omega arith)
some_not_empty (part ∷ parts) some = refl

pub is_empty-parts : (separator : ℕ) (text : List ℕ) → is_empty (parts_of separator text) ≡ false
is_empty-parts separator text = some_not_empty (parts_of separator text) (some_part separator text)

-- ---- rows, one after the other

pub run_row : (s : State) (n : ℕ) (row : List ℕ) (rows : List (List ℕ)) → 0 < length rows → run s n (row ∷ rows) ≡ (or_fault (step s row) (NotJournal n) >= λ t. run t (n + 1) rows)
run_row s n row [] some = absurd (omega arith)
run_row s n row (next ∷ rows) some = refl

pub run_inside : (s t : State) (n : ℕ) (row : List ℕ) (rows : List (List ℕ)) → 0 < length rows → step s row ≡ Some t → run s n (row ∷ rows) ≡ run t (n + 1) rows
run_inside s t n row rows some inside = run_row s n row rows some ∙ ap (λ o. or_fault o (NotJournal n) >= λ u. run u (n + 1) rows) inside

pub run_outside : (s : State) (n : ℕ) (row : List ℕ) (rows : List (List ℕ)) → 0 < length rows → step s row ≡ None → run s n (row ∷ rows) ≡ Err (NotJournal n)
run_outside s n row rows some outside = run_row s n row rows some ∙ ap (λ o. or_fault o (NotJournal n) >= λ u. run u (n + 1) rows) outside

-- one more row of a text was read
pub row_more : (s t : State) (n : ℕ) (text row rest : List ℕ) (inside : Bool) (all : Result Content JournalFault) → parts_of 10 text ≡ row ∷ parts_of 10 rest → step s row ≡ cond inside (Some t) None → inside ≡ true → run s n (parts_of 10 text) ≡ all → run t (n + 1) (parts_of 10 rest) ≡ all
row_more s t n text row rest inside all parts taken ok so_far =
    sym (ap (run s n) parts ∙ run_inside s t n row (parts_of 10 rest) (some_part 10 rest) (taken ∙ ap (λ b. cond b (Some t) None) ok)) ∙ so_far

pub row_outside : (s t : State) (n : ℕ) (text row rest : List ℕ) (inside : Bool) (all : Result Content JournalFault) → parts_of 10 text ≡ row ∷ parts_of 10 rest → step s row ≡ cond inside (Some t) None → inside ≡ false → run s n (parts_of 10 text) ≡ all → all ≡ Err (NotJournal n)
row_outside s t n text row rest inside all parts taken bad so_far =
    sym so_far ∙ (ap (run s n) parts ∙ run_outside s n row (parts_of 10 rest) (some_part 10 rest) (taken ∙ ap (λ b. cond b (Some t) None) bad))

pub rows_end : (s : State) (n : ℕ) (text : List ℕ) (all : Result Content JournalFault) → parts_of 10 text ≡ text ∷ [] → run s n (parts_of 10 text) ≡ all → all ≡ finish_at s.stage s n text
rows_end s n text all parts so_far = sym so_far ∙ ap (run s n) parts

-- ---- slices

pub drop_whole : (text : List ℕ) (n : ℕ) → take (length text - n) (drop n text) ≡ drop n text
drop_whole text n = take_all (length text - n) (drop n text) (omega (arith, length-drop n text))

pub take_whole : (separator : ℕ) (text : List ℕ) (n : ℕ) → length text ≤ n → Lacks separator (take n text) → Lacks separator text
take_whole separator text n all lacks = subst (λ (x : List ℕ). Lacks separator x) (take_all n text all) lacks

-- ---- the fields of a row

pub part_is_there : (text : List ℕ) → is_empty (parts_of 32 text) ≡ false
part_is_there text = is_empty-parts 32 text

pub row_spaced : (first : List ℕ) (fields : List (List ℕ)) → join_with_byte 32 (first ∷ fields) ≡ first ++ spaced fields
row_spaced first [] = sym (append-nil first)
row_spaced first (next ∷ fields) = ap (λ (x : List ℕ). first ++ 32 ∷ x) (row_spaced next fields)

-- ---- numbers

pub at_most_small : (most : ℕ) (o : Option ℕ) (n : ℕ) → at_most most o ≡ Some n → n ≤ most
at_most_small most None n e = absurd cc
at_most_small most (Some m) n e = let p = cond_some (leb m most) m n e in let q : m ≤ most = leb-true m most p.0 in omega (arith, p.1)

pub both_true : (a b : Bool) → a && b ≡ true → (a ≡ true) × (b ≡ true)
both_true true b e = (refl, e)
both_true false b e = absurd cc

-- digits behind others make a number that is no smaller
digits_number : (n : ℕ) (ds : List ℕ) → list_all is_digit ds ≡ true → (m : ℕ) × (digits_after n ds ≡ Some m) × (n ≤ m)
digits_number n [] all = (n, refl, omega arith)
digits_number n (d ∷ ds) all =
    let p = both_true (is_digit d) (list_all is_digit ds) all in
    let more = digits_number (10 * n + (d - 48)) ds p.1 in
    (more.0, cond-true (is_digit d) (digits_after (10 * n + (d - 48)) ds) None p.0 ∙ more.1, omega (arith, more.2))

no_digits : (n : ℕ) (ds : List ℕ) → list_all is_digit ds ≡ false → digits_after n ds ≡ None
no_digits n [] all = absurd cc
no_digits n (d ∷ ds) all =
    elim (is_digit d) as (λ b. b && list_all is_digit ds ≡ false → cond b (digits_after (10 * n + (d - 48)) ds) None ≡ None) [
      | true ↦ λ h. no_digits (10 * n + (d - 48)) ds h
      | false ↦ λ h. refl
    ] all

-- of two digits or more, with a leading zero
pub leading_zero : (field : List ℕ) → 2 ≤ length field → get_or field 0 0 ≡ 48 → numeral field ≡ None
leading_zero [] two lead = absurd (omega arith)
leading_zero (c ∷ []) two lead = absurd (omega arith)
leading_zero (c ∷ d ∷ ds) two lead =
    cond-true (eqb c 48) (cond (eqb (length (d ∷ ds)) 0) (Some 0) None) (digits_after 0 (c ∷ d ∷ ds)) (same_byte c 48 lead)
    ∙ cond-false (eqb (length (d ∷ ds)) 0) (Some 0) None (ne_eqb (length (d ∷ ds)) 0 (λ z. omega arith))

two_digits : (c d : ℕ) (ds : List ℕ) → is_digit c ≡ true → is_digit d ≡ true → digits_after 0 (c ∷ d ∷ ds) ≡ digits_after (10 * (10 * 0 + (c - 48)) + (d - 48)) ds
two_digits c d ds p q =
    cond-true (is_digit c) (digits_after (10 * 0 + (c - 48)) (d ∷ ds)) None p
    ∙ cond-true (is_digit d) (digits_after (10 * (10 * 0 + (c - 48)) + (d - 48)) ds) None q

no_mark : (n : ℕ) → 8 ≤ n → core_mark n ≡ 9
no_mark n large = grind (arith, nat_tests)

digit_least : (c : ℕ) → is_digit c ≡ true → 48 ≤ c
digit_least c h = grind (arith, nat_tests)

long_on : (c d : ℕ) (ds : List ℕ) (b : Bool) → c ≢ 48 → list_all is_digit (c ∷ d ∷ ds) ≡ b → option_map core_mark (digits_after 0 (c ∷ d ∷ ds)) ≡ cond b (Some 9) None
long_on c d ds true lead all =
    let p = both_true (is_digit c) (list_all is_digit (d ∷ ds)) all in
    let q = both_true (is_digit d) (list_all is_digit ds) p.1 in
    let more = digits_number (10 * (10 * 0 + (c - 48)) + (d - 48)) ds q.1 in
    let least : 48 ≤ c = digit_least c p.0 in
    let large : 8 ≤ more.0 = omega (arith, more.2, lead) in
    ap (option_map core_mark) (two_digits c d ds p.0 q.0 ∙ more.1) ∙ ap (λ (n : ℕ). Some n) (no_mark more.0 large)
long_on c d ds false lead all = ap (option_map core_mark) (no_digits 0 (c ∷ d ∷ ds) all)

-- of two digits or more, without one
pub long_number : (field : List ℕ) → 2 ≤ length field → get_or field 0 0 ≢ 48 → option_map core_mark (numeral field) ≡ cond (list_all is_digit field) (Some 9) None
long_number [] two lead = absurd (omega arith)
long_number (c ∷ []) two lead = absurd (omega arith)
long_number (c ∷ d ∷ ds) two lead =
    ap (option_map core_mark) (cond-false (eqb c 48) (cond (eqb (length (d ∷ ds)) 0) (Some 0) None) (digits_after 0 (c ∷ d ∷ ds)) (ne_eqb c 48 lead))
    ∙ long_on c d ds (list_all is_digit (c ∷ d ∷ ds)) lead refl
