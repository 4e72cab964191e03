-- Lists of numbers and texts in quotes.
use Rattle.std.specs.Prelude.{position, take, drop, ◌/◌, ◌%◌, map, option_map, ℕ, zero, suc, ◌+◌, ◌-◌, ◌*◌, ◌^◌, List, [], ◌∷◌, ◌++◌, length, Bool, true, false, not, Option, Some, None, nat_lt, nat_le, ◌==◌, ◌&&◌, if◌then◌else◌}
use Rattle.n2_word.specs.Words.{bytes_of}
use Rattle.n2_source.specs.declared.numbers.Number.{Number}
use Rattle.n2_source.specs.Cursors.{◌>>=◌, mark_at, is_end}
use Rattle.n2_source.specs.Numbers.{number_at}

abbrev pub choose : {A B : Type 0} → Option A → (A → B) → B → B
choose (Some x) f other = f x
choose None f other = other

-- numbers with commas between them, and nothing but a comment behind them. A text of n bytes has
-- fewer than n numbers
unfoldable pub is_list_within : ℕ → List ℕ → Bool
is_list_within zero bs = false
is_list_within (suc n) bs = choose (number_at bs) (λ x. choose (mark_at 44 x.1) (is_list_within n) (is_end x.1)) false

unfoldable pub is_list : List ℕ → Bool
is_list bs = is_list_within (length bs) bs

-- the numbers
unfoldable pub numbers_within : ℕ → List ℕ → List Number
numbers_within zero bs = []
numbers_within (suc n) bs = choose (number_at bs) (λ x. x.0 ∷ choose (mark_at 44 x.1) (numbers_within n) []) []

unfoldable pub numbers_in : List ℕ → List Number
numbers_in bs = numbers_within (length bs) bs

-- the list that a text is
unfoldable pub list_of : List ℕ → Option (List Number)
list_of bs = if is_list bs then Some (numbers_in bs) else None

-- a number from -2^31 to 2^32 - 1, and a number mod 2^32
abbrev pub fits_word : Number → Bool
fits_word n = if n.negative then nat_le n.size (2 ^ 31) else nat_lt n.size (2 ^ 32)

abbrev pub word_of_number : Number → ℕ
word_of_number n = if n.negative then (2 ^ 32 - n.size % 2 ^ 32) % 2 ^ 32 else n.size % 2 ^ 32

-- a number from -128 to 255, and a number mod 2^8
abbrev pub fits_byte : Number → Bool
fits_byte n = if n.negative then nat_le n.size 128 else nat_lt n.size 256

abbrev pub byte_of_number : Number → ℕ
byte_of_number n = if n.negative then (2 ^ 8 - n.size % 2 ^ 8) % 2 ^ 8 else n.size % 2 ^ 8

-- the bytes of words, and bytes
abbrev pub words_bytes : List Number → List ℕ
words_bytes [] = []
words_bytes (n ∷ ns) = bytes_of (word_of_number n) ++ words_bytes ns

abbrev pub bytes_bytes : List Number → List ℕ
bytes_bytes [] = []
bytes_bytes (n ∷ ns) = byte_of_number n ∷ bytes_bytes ns

-- what stands before a closing quote, and what stands behind it
unfoldable pub quote_at : List ℕ → Option (List ℕ × List ℕ)
quote_at bs = option_map (λ i. (take i bs, drop (i + 1) bs)) (position (λ c. c == 34) bs)

-- behind each backslash stands `n`; the first argument says that a backslash is in front
abbrev pub is_escaped : Bool → List ℕ → Bool
is_escaped true [] = false
is_escaped true (c ∷ cs) = c == 110 && is_escaped false cs
is_escaped false [] = true
is_escaped false (c ∷ cs) = is_escaped (c == 92) cs

-- a text with line feeds for its escapes
abbrev pub unescaped : Bool → List ℕ → List ℕ
unescaped escape [] = []
unescaped true (c ∷ cs) = 10 ∷ unescaped false cs
unescaped false (c ∷ cs) = if c == 92 then unescaped true cs else c ∷ unescaped false cs

-- a text in quotes
unfoldable pub quoted_at : List ℕ → Option (List ℕ × List ℕ)
quoted_at bs = do
  inner ← mark_at 34 bs
  raw ← quote_at inner
  if is_escaped false raw.0 then Some (unescaped false raw.0, raw.1) else None
