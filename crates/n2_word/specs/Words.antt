-- Words of 32 bits, their bytes and lanes (Nios II Processor Reference Guide, "Memory and I/O Organization": little-endian bytes in a word).
use Rattle.std.specs.Prelude.{ℕ, ◌+◌, ◌-◌, ◌*◌, ◌/◌, ◌%◌, ◌^◌, List, [], ◌∷◌, ◌++◌, length, take, drop, Bool, nat_lt, ◌==◌, if◌then◌else◌}
use Rattle.n2_word.specs.declared.Width.{Width}
use Rattle.n2_word.specs.declared.Width.TheVariants.{Byte, Half, Word}

-- how many bytes an access has
abbrev pub size : Width → ℕ
size Byte = 1
size Half = 2
size Word = 4

-- an address is aligned where it is a multiple of the size
abbrev pub is_aligned : ℕ → Width → Bool
is_aligned address width = address % size width == 0

-- the place of an address in its word
abbrev pub lane_of : ℕ → ℕ
lane_of address = address % 4

-- the four bytes of a word, the lowest first
abbrev pub bytes_of : ℕ → List ℕ
bytes_of word = word % 2 ^ 8 ∷ word / 2 ^ 8 % 2 ^ 8 ∷ word / 2 ^ 16 % 2 ^ 8 ∷ word / 2 ^ 24 % 2 ^ 8 ∷ []

-- the number that some bytes stand for, the lowest first
abbrev pub number_of : List ℕ → ℕ
number_of [] = 0
number_of (byte ∷ bytes) = byte + 2 ^ 8 * number_of bytes

-- a list with these values from this place on
abbrev pub put_at : List ℕ → ℕ → List ℕ → List ℕ
put_at values at new = take at values ++ new ++ drop (at + length new) values

-- the bytes of that width from this lane on, as a number
abbrev pub extracted : ℕ → ℕ → Width → ℕ
extracted word lane width = number_of (take (size width) (drop lane (bytes_of word)))

-- the word with the low bytes of a value from this lane on
abbrev pub merged : ℕ → ℕ → Width → ℕ → ℕ
merged word lane width value = number_of (put_at (bytes_of word) lane (take (size width) (bytes_of value)))

-- a byte with its sign in 32 bits
abbrev pub signed_byte : ℕ → ℕ
signed_byte byte = if nat_lt byte (2 ^ 7) then byte else byte + (2 ^ 32 - 2 ^ 8)

-- a half with its sign in 32 bits
abbrev pub signed_half : ℕ → ℕ
signed_half half = if nat_lt half (2 ^ 15) then half else half + (2 ^ 32 - 2 ^ 16)

-- the low bits of a value, as many as the width has
abbrev pub low_bits : Width → ℕ → ℕ
low_bits width value = value % 2 ^ (8 * size width)

-- a bit as a number
abbrev pub bit_of : Bool → ℕ
bit_of on = if on then 1 else 0

-- whether a word has a bit set
abbrev pub has_bit : ℕ → ℕ → Bool
has_bit word bit = word / 2 ^ bit % 2 == 1
