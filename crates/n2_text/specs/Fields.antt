-- Words and numbers as text.
use Rattle.std.specs.Prelude.{ℕ, ◌+◌, ◌-◌, ◌*◌, ◌/◌, ◌%◌, ◌^◌, List, [], ◌∷◌, length, Bool, Option, Some, None, option_and_then, nat_lt, nat_le, ◌==◌, ◌&&◌, if◌then◌else◌}

-- the hexadecimal digit of a number below sixteen, in lower case
abbrev pub digit_of : ℕ → ℕ
digit_of n = if nat_lt n 10 then 48 + n else 87 + n

-- the eight hexadecimal digits of a word
unfoldable pub word_text : ℕ → List ℕ
word_text word =
    digit_of (word / 2 ^ 28 % 16) ∷ digit_of (word / 2 ^ 24 % 16) ∷ digit_of (word / 2 ^ 20 % 16) ∷ digit_of (word / 2 ^ 16 % 16)
    ∷ digit_of (word / 2 ^ 12 % 16) ∷ digit_of (word / 2 ^ 8 % 16) ∷ digit_of (word / 2 ^ 4 % 16) ∷ digit_of (word % 16) ∷ []

-- a decimal digit
abbrev pub is_digit : ℕ → Bool
is_digit c = nat_le 48 c && nat_lt c 58

-- one of the letters a to f
abbrev pub is_hex_letter : ℕ → Bool
is_hex_letter c = nat_le 97 c && nat_lt c 103

-- the number that a hexadecimal digit in lower case stands for
abbrev pub digit_value : ℕ → Option ℕ
digit_value c = if is_digit c then Some (c - 48) else (if is_hex_letter c then Some (c - 87) else None)

-- the number that hexadecimal digits make after a number that was read so far
abbrev pub hex_digits_after : ℕ → List ℕ → Option ℕ
hex_digits_after n [] = Some n
hex_digits_after n (c ∷ cs) = option_and_then (λ d. hex_digits_after (16 * n + d) cs) (digit_value c)

-- the word that a text is, in eight hexadecimal digits in lower case
unfoldable pub hex_word : List ℕ → Option ℕ
hex_word text = if length text == 8 then hex_digits_after 0 text else None

-- the number that decimal digits make after a number that was read so far
abbrev pub digits_after : ℕ → List ℕ → Option ℕ
digits_after n [] = Some n
digits_after n (c ∷ cs) = if is_digit c then digits_after (10 * n + (c - 48)) cs else None

-- the number that a text is, in decimal digits without a sign or a leading zero
abbrev pub numeral : List ℕ → Option ℕ
numeral [] = None
numeral (c ∷ cs) = if c == 48 then (if length cs == 0 then Some 0 else None) else digits_after 0 (c ∷ cs)

-- a number where it is no greater than most
abbrev pub at_most : ℕ → Option ℕ → Option ℕ
at_most most None = None
at_most most (Some n) = if nat_le n most then Some n else None

-- a number where it is not 0
abbrev pub from_one : Option ℕ → Option ℕ
from_one None = None
from_one (Some n) = if n == 0 then None else Some n
