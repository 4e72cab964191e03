-- Numbers and registers of a source.
use Rattle.std.specs.Prelude.{ℕ, ◌+◌, ◌^◌, List, length, map, Bool, true, false, not, Option, Some, None, option_map, nat_lt, nat_le, ◌==◌, ◌&&◌, ◌||◌, if◌then◌else◌, min}
use Rattle.std.specs.Option.{is_some}
use Rattle.n2_text.specs.Fields.{numeral, hex_digits_after}
use Rattle.n2_source.specs.Cursors.{◌>>=◌, skip, word_at, past, starts_letter}
use Rattle.n2_source.specs.declared.numbers.Number.{Number}

-- above this a number fits no field
abbrev pub most : ℕ
most = 2 ^ 40

abbrev pub capped : ℕ → ℕ
capped n = min n most

-- a hexadecimal digit in lower case
abbrev pub lowered : ℕ → ℕ
lowered c = if nat_le 65 c && nat_lt c 71 then c + 32 else c

-- the number that hexadecimal digits of either case are
abbrev pub hex_numeral : List ℕ → Option ℕ
hex_numeral word = if length word == 0 then None else hex_digits_after 0 (map lowered word)

abbrev pub or_some : {A B : Type 0} → Option A → (A → Option B) → Option B → Option B
or_some (Some x) f other = f x
or_some None f other = other

abbrev pub past_0x : List ℕ → Option (List ℕ)
past_0x word = past 48 word >>= past 120

abbrev pub past_ctl : List ℕ → Option (List ℕ)
past_ctl word = past 99 word >>= past 116 >>= past 108

-- the size of a number: decimal digits without a leading zero, or 0x and hexadecimal digits
unfoldable pub size_of : List ℕ → Option ℕ
size_of word = or_some (past_0x word) (λ digits. option_map capped (hex_numeral digits)) (option_map capped (numeral word))

abbrev pub plain : ℕ → Number
plain size = record { negative = false; size = size }

-- the number of a word behind a minus; there is no negative zero
abbrev pub minus : ℕ → Number
minus size = record { negative = not (size == 0); size = size }

-- a number in front, a minus directly before its digits
unfoldable pub negative_at : List ℕ → Option (Number × List ℕ)
negative_at bs = do
  n ← size_of (word_at bs).0
  Some (minus n, (word_at bs).1)

unfoldable pub plain_at : List ℕ → Option (Number × List ℕ)
plain_at bs = do
  n ← size_of (word_at bs).0
  Some (plain n, (word_at bs).1)

unfoldable pub number_at : List ℕ → Option (Number × List ℕ)
number_at bs = or_some (past 45 (skip bs)) negative_at (plain_at (skip bs))

abbrev pub below_32 : Option ℕ → Option ℕ
below_32 None = None
below_32 (Some n) = if nat_le n 31 then Some n else None

-- r0 to r31
unfoldable pub register_of : List ℕ → Option ℕ
register_of word = past 114 word >>= λ digits. below_32 (numeral digits)

-- ctl0 to ctl31
unfoldable pub control_of : List ℕ → Option ℕ
control_of word = past_ctl word >>= λ digits. below_32 (numeral digits)

unfoldable pub register_at : List ℕ → Option (ℕ × List ℕ)
register_at bs = do
  r ← register_of (word_at (skip bs)).0
  Some (r, (word_at (skip bs)).1)

unfoldable pub control_at : List ℕ → Option (ℕ × List ℕ)
control_at bs = do
  n ← control_of (word_at (skip bs)).0
  Some (n, (word_at (skip bs)).1)

-- a word that is a name: it begins with a letter or `_`, and is no register
unfoldable pub is_name : List ℕ → Bool
is_name word = starts_letter word && not (is_some (register_of word) || is_some (control_of word))

-- a name in front
unfoldable pub name_at : List ℕ → Option (List ℕ × List ℕ)
name_at bs = if is_name (word_at (skip bs)).0 then Some ((word_at (skip bs)).0, (word_at (skip bs)).1) else None
