-- A row of a source, read from the left.
use Rattle.std.specs.Prelude.{ℕ, List, [], ◌∷◌, Bool, true, false, Option, Some, None, option_and_then, nat_lt, nat_le, ◌==◌, ◌&&◌, ◌||◌, if◌then◌else◌}
use Rattle.n2_text.specs.Fields.{is_digit}

infixl 10 ◌>>=◌
abbrev pub ◌>>=◌ : {A B : Type 0} → Option A → (A → Option B) → Option B
o >>= f = option_and_then f o

-- a space or a tab
abbrev pub is_blank : ℕ → Bool
is_blank c = c == 32 || c == 9

-- what stands behind the blanks in front
abbrev pub skip : List ℕ → List ℕ
skip [] = []
skip (c ∷ cs) = if is_blank c then skip cs else c ∷ cs

-- a letter or `_`
abbrev pub is_letter : ℕ → Bool
is_letter c = (nat_le 97 c && nat_lt c 123) || (nat_le 65 c && nat_lt c 91) || c == 95

-- a letter, a digit or `_`
abbrev pub is_word : ℕ → Bool
is_word c = is_letter c || is_digit c

-- the letters, digits and `_` in front, and the rest
abbrev pub word_at : List ℕ → List ℕ × List ℕ
word_at [] = ([], [])
word_at (c ∷ cs) = if is_word c then (c ∷ (word_at cs).0, (word_at cs).1) else ([], c ∷ cs)

-- what stands behind this byte, where it is in front
abbrev pub past : ℕ → List ℕ → Option (List ℕ)
past mark [] = None
past mark (c ∷ cs) = if c == mark then Some cs else None

-- what stands behind a mark, with blanks on its left
unfoldable pub mark_at : ℕ → List ℕ → Option (List ℕ)
mark_at mark bs = past mark (skip bs)

-- nothing, or a comment
abbrev pub is_over : List ℕ → Bool
is_over [] = true
is_over (c ∷ cs) = c == 35

-- nothing but blanks and a comment
abbrev pub is_end : List ℕ → Bool
is_end bs = is_over (skip bs)

-- a blank is in front
abbrev pub starts_blank : List ℕ → Bool
starts_blank [] = false
starts_blank (c ∷ cs) = is_blank c

-- a letter or `_` is in front
abbrev pub starts_letter : List ℕ → Bool
starts_letter [] = false
starts_letter (c ∷ cs) = is_letter c
