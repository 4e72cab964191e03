-- The fields of a row: what is written is read, and what is read is spelled so.
use Rattle.std.proofs.Common.{◌≡◌, ℕ, zero, suc, ◌*◌, ◌/◌, ◌%◌, ◌^◌, ◌<◌, ◌≤◌, Bool, true, false, eqb, ltb, leb, List, [], ◌∷◌, ◌++◌, length, Option, Some, None, refl, sym, ap, subst, ◌∙◌, arith}
use Rattle.std.specs.Prelude.{◌&&◌, decimal, All, replicate}
use Rattle.std.proofs.lemmas.Bool.{cond-true, ltb-true, leb-true, le-leb, eqb-true}
use Rattle.std.proofs.lemmas.Bool.Decides.{nat_tests}
use Rattle.std.proofs.lemmas.Option.{option_and_then_some, same_Some, cond_some}
use Rattle.std.proofs.lemmas.List.{append-nil}
use Rattle.std.proofs.lemmas.List.Elements.{All-nil, All-cons, All-head, All-tail, All-replicate}
use Rattle.n2_word.specs.declared.Width.{Width}
use Rattle.n2_word.specs.declared.Width.TheVariants.{Byte, Half, Word}
use Rattle.n2_text.specs.Fields.{word_text, hex_word, numeral, at_most}
use Rattle.n2_text.proofs.Words.{hex_word-word_text, word_text-hex_word, hex_word-small}
use Rattle.n2_text.proofs.Decimals.{numeral-decimal, decimal-numeral}
use Rattle.n2_journal.specs.Journals.{AreEightWords, no_words}
use Rattle.n2_journal.specs.Texts.{width_text, bit_text, line_text, words_fields}
use Rattle.n2_journal.specs.Cursors.{next_by, next_word, next_number, bit_of, next_bit, width_of, next_width, next_words, next_line}
use Rattle.n2_journal.specs.Reading.{whole, next_line_number}
use Rattle.n2_journal.proofs.Steps.{both_true}

-- ---- what is read

some_parts : {A B : Type 0} (a : A) (b : B) (x : A × B) → ◌≡◌ {A = Option (A × B)} (Some (a, b)) (Some x) → (a ≡ x.0) × (b ≡ x.1)
some_parts {A} {B} a b x e =
    let p : ◌≡◌ {A = A × B} (a, b) x = same_Some _ x e in
    (ap (λ (y : A × B). y.0) p, ap (λ (y : A × B). y.1) p)

pub by_takes : {A : Type 0} (read : List ℕ → Option A) (fields : List (List ℕ)) (x : A × List (List ℕ)) → next_by read fields ≡ Some x → (field : List ℕ) × (read field ≡ Some x.0) × (fields ≡ field ∷ x.1)
by_takes read [] x e = absurd cc
by_takes {A} read (field ∷ fields) x e =
    option_and_then_some _ (read field) x e (λ v ev e1.
    let p = some_parts v fields x e1 in
    (field, ev ∙ ap (λ (y : A). Some y) p.0, ap (λ (y : List (List ℕ)). field ∷ y) p.1))

pub word_takes : (fields : List (List ℕ)) (x : ℕ × List (List ℕ)) → next_word fields ≡ Some x → (x.0 < 2 ^ 32) × (fields ≡ word_text x.0 ∷ x.1)
word_takes fields x e =
    let b = by_takes hex_word fields x e in
    (hex_word-small b.0 x.0 b.1, b.2 ∙ ap (λ (y : List ℕ). y ∷ x.1) (word_text-hex_word b.0 x.0 b.1))

pub at_most_takes : (most : ℕ) (o : Option ℕ) (n : ℕ) → at_most most o ≡ Some n → (n ≤ most) × (o ≡ Some n)
at_most_takes most None n e = absurd cc
at_most_takes most (Some m) n e =
    let p = cond_some (leb m most) m n e in
    let q : m ≤ most = leb-true m most p.0 in
    (omega (arith, p.1), ap (λ (k : ℕ). Some k) p.1)

pub at_most_again : (most n : ℕ) → n ≤ most → most < 10 ^ 64 → at_most most (numeral (decimal n)) ≡ Some n
at_most_again most n le lt = ap (at_most most) (numeral-decimal n (omega arith)) ∙ cond-true (leb n most) (Some n) None (le-leb n most le)

pub number_takes : (most : ℕ) (fields : List (List ℕ)) (x : ℕ × List (List ℕ)) → most < 10 ^ 64 → next_number most fields ≡ Some x → (x.0 ≤ most) × (fields ≡ decimal x.0 ∷ x.1)
number_takes most fields x lt e =
    let b = by_takes (λ field. at_most most (numeral field)) fields x e in
    let m = at_most_takes most (numeral b.0) x.0 b.1 in
    (m.0, b.2 ∙ ap (λ (y : List ℕ). y ∷ x.1) (decimal-numeral b.0 x.0 (omega (arith, m.0)) m.1))

bit_is : (field : List ℕ) (bit : Bool) → bit_of field ≡ Some bit → field ≡ bit_text bit
bit_is [] bit e = absurd cc
bit_is (c ∷ []) true e = let h : c ≡ 49 = grind (arith, nat_tests) in cc
bit_is (c ∷ []) false e = let h : c ≡ 48 = grind (arith, nat_tests) in cc
bit_is (c ∷ d ∷ cs) bit e = absurd cc

pub bit_takes : (fields : List (List ℕ)) (x : Bool × List (List ℕ)) → next_bit fields ≡ Some x → fields ≡ bit_text x.0 ∷ x.1
bit_takes fields x e = let b = by_takes bit_of fields x e in b.2 ∙ ap (λ (y : List ℕ). y ∷ x.1) (bit_is b.0 x.0 b.1)

pub bit_again : (bit : Bool) → bit_of (bit_text bit) ≡ Some bit
bit_again true = refl
bit_again false = refl

width_is : (field : List ℕ) (width : Width) → width_of field ≡ Some width → field ≡ width_text width
width_is [] width e = absurd cc
width_is (c ∷ []) Byte e = let h : c ≡ 49 = grind (arith, nat_tests) in cc
width_is (c ∷ []) Half e = let h : c ≡ 50 = grind (arith, nat_tests) in cc
width_is (c ∷ []) Word e = let h : c ≡ 52 = grind (arith, nat_tests) in cc
width_is (c ∷ d ∷ cs) width e = absurd cc

pub width_takes : (fields : List (List ℕ)) (x : Width × List (List ℕ)) → next_width fields ≡ Some x → fields ≡ width_text x.0 ∷ x.1
width_takes fields x e = let b = by_takes width_of fields x e in b.2 ∙ ap (λ (y : List ℕ). y ∷ x.1) (width_is b.0 x.0 b.1)

pub width_again : (width : Width) → width_of (width_text width) ≡ Some width
width_again Byte = refl
width_again Half = refl
width_again Word = refl

pub whole_takes : {A : Type 0} (value : A) (fields : List (List ℕ)) (x : A) → whole value fields ≡ Some x → (fields ≡ []) × (value ≡ x)
whole_takes value [] x e = (refl, same_Some value x e)
whole_takes value (field ∷ fields) x e = absurd cc

-- ---- the words of a line

abbrev AreWords : List ℕ → Type 0
AreWords words = All (λ word. word < 2 ^ 32) words

words_take : (n : ℕ) (fields : List (List ℕ)) (x : List ℕ × List (List ℕ)) → next_words n fields ≡ Some x → (length x.0 ≡ n) × AreWords x.0 × (fields ≡ words_fields x.0 ++ x.1)
words_take zero fields x e =
    let p = some_parts [] fields x e in
    subst (λ (y : List ℕ). (length y ≡ 0) × AreWords y × (fields ≡ words_fields y ++ x.1)) p.0 (refl, All-nil (λ word. word < 2 ^ 32), p.1)
words_take (suc n) fields x e =
    option_and_then_some _ (next_word fields) x e (λ w ew e1. option_and_then_some _ (next_words n w.1) x e1 (λ ws ews e2.
    let one = word_takes fields w ew in
    let more = words_take n w.1 ws ews in
    let p = some_parts (w.0 ∷ ws.0) ws.1 x e2 in
    let text : fields ≡ words_fields (w.0 ∷ ws.0) ++ x.1 = one.1 ∙ ap (λ (y : List (List ℕ)). word_text w.0 ∷ y) (more.2 ∙ ap (λ (y : List (List ℕ)). words_fields ws.0 ++ y) p.1) in
    subst (λ (y : List ℕ). (length y ≡ suc n) × AreWords y × (fields ≡ words_fields y ++ x.1)) p.0 (ap suc more.0, All-cons (λ word. word < 2 ^ 32) w.0 ws.0 one.0 more.1, text)))

words_again : (words : List ℕ) (rest : List (List ℕ)) → AreWords words → next_words (length words) (words_fields words ++ rest) ≡ Some (words, rest)
words_again [] rest fit = refl
words_again (w ∷ ws) rest fit =
    rw (hex_word-word_text w (All-head (λ word. word < 2 ^ 32) w ws fit), words_again ws rest (All-tail (λ word. word < 2 ^ 32) w ws fit)) refl

pub line_takes : (fields : List (List ℕ)) (x : List ℕ × List (List ℕ)) → next_line fields ≡ Some x → AreEightWords x.0 × (fields ≡ words_fields x.0 ++ x.1)
unfolding next_line
line_takes fields x e = let w = words_take 8 fields x e in ((w.0, w.1), w.2)

pub line_again : (words : List ℕ) → AreEightWords words → next_line (words_fields words) ≡ Some (words, [])
unfolding next_line
line_again words fit =
    ap (next_words 8) (sym (append-nil (words_fields words)))
    ∙ ap (λ n. next_words n (words_fields words ++ [])) (sym fit.0)
    ∙ words_again words [] fit.1

pub no_words_fit : AreEightWords no_words
no_words_fit = (refl, All-replicate (λ word. word < 2 ^ 32) 8 0 (omega arith))

pub first_word_fits : (word : ℕ) → word < 2 ^ 32 → AreEightWords (word ∷ replicate 7 0)
first_word_fits word lt = (refl, All-cons (λ w. w < 2 ^ 32) word (replicate 7 0) lt (All-replicate (λ w. w < 2 ^ 32) 7 0 (omega arith)))

pub line_number_takes : (fields : List (List ℕ)) (x : ℕ × List (List ℕ)) → next_line_number fields ≡ Some x → (x.0 < 2 ^ 26) × (fields ≡ line_text x.0 ∷ x.1)
unfolding next_line_number
line_number_takes fields x e =
    option_and_then_some _ (next_word fields) x e (λ a ea e1.
    let one = word_takes fields a ea in
    let g = cond_some (ltb a.0 (2 ^ 31) && eqb (a.0 % 32) 0) (a.0 / 32, a.1) x e1 in
    let b = both_true (ltb a.0 (2 ^ 31)) (eqb (a.0 % 32) 0) g.0 in
    let low : a.0 < 2 ^ 31 = ltb-true a.0 (2 ^ 31) b.0 in
    let multiple : a.0 % 32 ≡ 0 = eqb-true (a.0 % 32) 0 b.1 in
    let p0 : a.0 / 32 ≡ x.0 = ap (λ (y : ℕ × List (List ℕ)). y.0) g.1 in
    let p1 : a.1 ≡ x.1 = ap (λ (y : ℕ × List (List ℕ)). y.1) g.1 in
    let address : a.0 ≡ 32 * x.0 = omega arith in
    (omega arith, one.1 ∙ ap (λ (y : List (List ℕ)). word_text a.0 ∷ y) p1 ∙ ap (λ k. word_text k ∷ x.1) address))

pub line_number_again : (line : ℕ) (rest : List (List ℕ)) → line < 2 ^ 26 → next_line_number (line_text line ∷ rest) ≡ Some (line, rest)
unfolding next_line_number
line_number_again line rest lt =
    let low : ltb (32 * line) (2 ^ 31) ≡ true = grind (arith, nat_tests) in
    let multiple : eqb (32 * line % 32) 0 ≡ true = grind (arith, nat_tests) in
    let number : 32 * line / 32 ≡ line = omega arith in
    rw (hex_word-word_text (32 * line) (omega arith), low, multiple, number) refl
