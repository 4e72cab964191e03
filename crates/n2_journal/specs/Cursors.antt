-- The fields of a row that are left to read.
use Rattle.std.specs.Prelude.{ℕ, zero, suc, ◌==◌, List, [], ◌∷◌, Bool, true, false, Option, Some, None, option_and_then, if◌then◌else◌}
use Rattle.std.specs.List.{slice_split}
use Rattle.n2_word.specs.declared.Width.{Width}
use Rattle.n2_word.specs.declared.Width.TheVariants.{Byte, Half, Word}
use Rattle.n2_text.specs.Fields.{hex_word, numeral, at_most}

infixl 10 ◌>>=◌
abbrev pub ◌>>=◌ : {A B : Type 0} → Option A → (A → Option B) → Option B
o >>= f = option_and_then f o

-- the parts of a text round a byte, at least one
abbrev pub parts_of : ℕ → List ℕ → List (List ℕ)
parts_of separator text = slice_split (λ c. c == separator) text

-- the fields of a row, with one space between each two
abbrev pub fields_of : List ℕ → List (List ℕ)
fields_of row = parts_of 32 row

-- ---- readers, which take fields off the front

abbrev pub is_empty : List (List ℕ) → Bool
is_empty [] = true
is_empty (field ∷ fields) = false

abbrev pub next_field : List (List ℕ) → Option (List ℕ × List (List ℕ))
next_field [] = None
next_field (field ∷ fields) = Some (field, fields)

-- a field that reads as a value, and the fields behind it
abbrev pub next_by : {A : Type 0} → (List ℕ → Option A) → List (List ℕ) → Option (A × List (List ℕ))
next_by read [] = None
next_by read (field ∷ fields) = read field >>= λ value. Some (value, fields)

abbrev pub next_word : List (List ℕ) → Option (ℕ × List (List ℕ))
next_word fields = next_by hex_word fields

-- a number that is no greater than most
abbrev pub next_number : ℕ → List (List ℕ) → Option (ℕ × List (List ℕ))
next_number most fields = next_by (λ field. at_most most (numeral field)) fields

abbrev pub bit_of : List ℕ → Option Bool
bit_of (c ∷ []) = if c == 48 then Some false else (if c == 49 then Some true else None)
bit_of _ = None

abbrev pub next_bit : List (List ℕ) → Option (Bool × List (List ℕ))
next_bit fields = next_by bit_of fields

abbrev pub width_of : List ℕ → Option Width
width_of (c ∷ []) = if c == 49 then Some Byte else (if c == 50 then Some Half else (if c == 52 then Some Word else None))
width_of _ = None

abbrev pub next_width : List (List ℕ) → Option (Width × List (List ℕ))
next_width fields = next_by width_of fields

-- so many words
abbrev pub next_words : ℕ → List (List ℕ) → Option (List ℕ × List (List ℕ))
next_words zero fields = Some ([], fields)
next_words (suc n) fields = do
  word ← next_word fields
  words ← next_words n word.1
  Some (word.0 ∷ words.0, words.1)

-- the words of a line
unfoldable pub next_line : List (List ℕ) → Option (List ℕ × List (List ℕ))
next_line fields = next_words 8 fields
