-- Steps of the loops over lists of numbers.
use Rattle.std.proofs.Common.{◌≡◌, ℕ, zero, suc, ◌+◌, ◌-◌, ◌<◌, ◌≤◌, Bool, true, false, List, [], ◌∷◌, ◌++◌, length, drop, Option, Some, None, refl, sym, ap, ◌∙◌, append_assoc, arith}
use Rattle.std.proofs.lemmas.List.{append-nil, at_drop_more}
use Rattle.n2_word.specs.Words.{bytes_of}
use Rattle.n2_source.specs.Cursors.{mark_at, is_end}
use Rattle.n2_source.specs.Numbers.{number_at}
use Rattle.n2_source.specs.Lists.{choose, is_list_within, numbers_within, words_bytes, bytes_bytes, unescaped, word_of_number, byte_of_number}
use Rattle.n2_source.specs.declared.numbers.Number.{Number}

pub list_step : (n i : ℕ) (bs : List ℕ) → i < n → is_list_within (n - i) bs ≡ choose (number_at bs) (λ x. choose (mark_at 44 x.1) (is_list_within (n - (i + 1))) (is_end x.1)) false
unfolding is_list_within
list_step n i bs lt = let e : n - i ≡ suc (n - (i + 1)) = omega arith in ap (λ k. is_list_within k bs) e

pub list_none : (n i : ℕ) (bs : List ℕ) → n ≤ i → is_list_within (n - i) bs ≡ false
unfolding is_list_within
list_none n i bs le = let e : n - i ≡ zero = omega arith in ap (λ k. is_list_within k bs) e

pub numbers_step : (n i : ℕ) (bs : List ℕ) → i < n → numbers_within (n - i) bs ≡ choose (number_at bs) (λ x. x.0 ∷ choose (mark_at 44 x.1) (numbers_within (n - (i + 1))) []) []
unfolding numbers_within
numbers_step n i bs lt = let e : n - i ≡ suc (n - (i + 1)) = omega arith in ap (λ k. numbers_within k bs) e

pub numbers_none : (n i : ℕ) (bs : List ℕ) → n ≤ i → numbers_within (n - i) bs ≡ []
unfolding numbers_within
numbers_none n i bs le = let e : n - i ≡ zero = omega arith in ap (λ k. numbers_within k bs) e

-- words that are put
pub words_over : (front : List ℕ) (n i : ℕ) (bs all : List ℕ) → n ≤ i → front ++ words_bytes (numbers_within (n - i) bs) ≡ all → front ≡ all
words_over front n i bs all le k = sym (append-nil front) ∙ ap (λ ns. front ++ words_bytes ns) (sym (numbers_none n i bs le)) ∙ k

pub words_stop : (front : List ℕ) (n i : ℕ) (bs all : List ℕ) → i < n → ◌≡◌ {A = Option (Number × List ℕ)} None (number_at bs) → front ++ words_bytes (numbers_within (n - i) bs) ≡ all → front ≡ all
words_stop front n i bs all lt e k =
    let over : numbers_within (n - i) bs ≡ [] = rw (numbers_step n i bs lt, ← e) refl in
    sym (append-nil front) ∙ ap (λ ns. front ++ words_bytes ns) (sym over) ∙ k

pub words_more : (front : List ℕ) (n i : ℕ) (bs next all : List ℕ) (x : Number × List ℕ) → i < n → Some x ≡ number_at bs → Some next ≡ mark_at 44 x.1
    → front ++ words_bytes (numbers_within (n - i) bs) ≡ all → front ++ (bytes_of (word_of_number x.0)) ++ words_bytes (numbers_within (n - (i + 1)) next) ≡ all
words_more front n i bs next all x lt e m k =
    let step : numbers_within (n - i) bs ≡ x.0 ∷ numbers_within (n - (i + 1)) next = rw (numbers_step n i bs lt, ← e, ← m) refl in
    append_assoc front (bytes_of (word_of_number x.0)) (words_bytes (numbers_within (n - (i + 1)) next)) ∙ ap (λ ns. front ++ words_bytes ns) (sym step) ∙ k

pub words_last : (front : List ℕ) (n i : ℕ) (bs all : List ℕ) (x : Number × List ℕ) → i < n → Some x ≡ number_at bs → ◌≡◌ {A = Option (List ℕ)} None (mark_at 44 x.1)
    → front ++ words_bytes (numbers_within (n - i) bs) ≡ all → front ++ (bytes_of (word_of_number x.0)) ≡ all
words_last front n i bs all x lt e m k =
    let step : numbers_within (n - i) bs ≡ x.0 ∷ [] = rw (numbers_step n i bs lt, ← e, ← m) refl in
    ap (λ bytes. front ++ bytes) (sym (append-nil (bytes_of (word_of_number x.0)))) ∙ ap (λ ns. front ++ words_bytes ns) (sym step) ∙ k

-- bytes that are put
pub bytes_over : (front : List ℕ) (n i : ℕ) (bs all : List ℕ) → n ≤ i → front ++ bytes_bytes (numbers_within (n - i) bs) ≡ all → front ≡ all
bytes_over front n i bs all le k = sym (append-nil front) ∙ ap (λ ns. front ++ bytes_bytes ns) (sym (numbers_none n i bs le)) ∙ k

pub bytes_stop : (front : List ℕ) (n i : ℕ) (bs all : List ℕ) → i < n → ◌≡◌ {A = Option (Number × List ℕ)} None (number_at bs) → front ++ bytes_bytes (numbers_within (n - i) bs) ≡ all → front ≡ all
bytes_stop front n i bs all lt e k =
    let over : numbers_within (n - i) bs ≡ [] = rw (numbers_step n i bs lt, ← e) refl in
    sym (append-nil front) ∙ ap (λ ns. front ++ bytes_bytes ns) (sym over) ∙ k

pub bytes_more : (front : List ℕ) (n i : ℕ) (bs next all : List ℕ) (x : Number × List ℕ) → i < n → Some x ≡ number_at bs → Some next ≡ mark_at 44 x.1
    → front ++ bytes_bytes (numbers_within (n - i) bs) ≡ all → front ++ (byte_of_number x.0 ∷ []) ++ bytes_bytes (numbers_within (n - (i + 1)) next) ≡ all
bytes_more front n i bs next all x lt e m k =
    let step : numbers_within (n - i) bs ≡ x.0 ∷ numbers_within (n - (i + 1)) next = rw (numbers_step n i bs lt, ← e, ← m) refl in
    append_assoc front (byte_of_number x.0 ∷ []) (bytes_bytes (numbers_within (n - (i + 1)) next)) ∙ ap (λ ns. front ++ bytes_bytes ns) (sym step) ∙ k

pub bytes_last : (front : List ℕ) (n i : ℕ) (bs all : List ℕ) (x : Number × List ℕ) → i < n → Some x ≡ number_at bs → ◌≡◌ {A = Option (List ℕ)} None (mark_at 44 x.1)
    → front ++ bytes_bytes (numbers_within (n - i) bs) ≡ all → front ++ (byte_of_number x.0 ∷ []) ≡ all
bytes_last front n i bs all x lt e m k =
    let step : numbers_within (n - i) bs ≡ x.0 ∷ [] = rw (numbers_step n i bs lt, ← e, ← m) refl in
    ap (λ bytes. front ++ bytes) (sym (append-nil (byte_of_number x.0 ∷ []))) ∙ ap (λ ns. front ++ bytes_bytes ns) (sym step) ∙ k

-- a byte behind a backslash
pub text_escape : (front bs : List ℕ) (i : ℕ) → i < length bs → front ++ unescaped true (drop i bs) ≡ (front ++ 10 ∷ []) ++ unescaped false (drop (i + 1) bs)
text_escape front bs i lt =
    ap (λ xs. front ++ xs) (at_drop_more (unescaped true) bs i 0 lt) ∙ sym (append_assoc front (10 ∷ []) (unescaped false (drop (i + 1) bs)))

pub text_left : (bs : List ℕ) (i : ℕ) → i < length bs → length (unescaped true (drop i bs)) ≡ 1 + length (unescaped false (drop (i + 1) bs))
text_left bs i lt = let e = at_drop_more (λ xs. length (unescaped true xs)) bs i 0 lt in omega arith
