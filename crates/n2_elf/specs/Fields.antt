-- Fields at offsets of a file, in little-endian order (ELF32 specification, "Data Representation").
use Rattle.std.specs.Prelude.{ℕ, List, take, drop, slice_index}
use Rattle.n2_word.specs.Words.{bytes_of, number_of}

-- the byte at an offset, or 0 past the end
abbrev pub byte_at : List ℕ → ℕ → ℕ
byte_at bytes offset = slice_index bytes offset

-- the number that two bytes at an offset are; what is past the end counts as zeros
abbrev pub half_at : List ℕ → ℕ → ℕ
half_at bytes offset = number_of (take 2 (drop offset bytes))

-- the number that four bytes at an offset are; what is past the end counts as zeros
abbrev pub word_at : List ℕ → ℕ → ℕ
word_at bytes offset = number_of (take 4 (drop offset bytes))

-- the two bytes of a number below 2 ^ 16
abbrev pub half_bytes : ℕ → List ℕ
half_bytes n = take 2 (bytes_of n)
