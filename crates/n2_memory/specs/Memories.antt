-- The memories of a board as one list of words: eight for each line, in the board's order of memories.
use Rattle.std.specs.Prelude.{ℕ, ◌*◌, ◌^◌, ◌<◌, ◌≤◌, ◌≡◌, List, length, take, drop}
use Rattle.std.specs.List.{All}
use Rattle.n2_word.specs.declared.Width.{Width}
use Rattle.n2_word.specs.Words.{put_at}
use Rattle.n2_word.specs.Lines.{line, read_in_line, written_in_line}
use Rattle.n2_parts.specs.declared.board.MemoryRow.{MemoryRow}
use Rattle.n2_parts.specs.MemoryLines.{line_count, line_place}

-- memories, and the words of all of them
pub record Contents : Type 0 where
  pub memories : List MemoryRow
  pub words : List ℕ

-- as many words as the memories have, which are at most 256 MiB
abbrev pub IsFull : Contents → Type 0
IsFull m = (length m.words ≡ 8 * line_count m.memories) × (line_count m.memories ≤ 2 ^ 23)

-- each of some numbers is a word
abbrev pub AreWords : List ℕ → Type 0
AreWords numbers = All (λ n. n < 2 ^ 32) numbers

-- the place of a line's first word
abbrev pub first_word : Contents → ℕ → ℕ
first_word m line = 8 * line_place m.memories line

-- the eight words of a line
abbrev pub line_at : Contents → ℕ → List ℕ
line_at m line = take 8 (drop (first_word m line) m.words)

-- the memories with other words in a line
abbrev pub with_line : Contents → ℕ → List ℕ → Contents
with_line m line words = record { memories = m.memories; words = put_at m.words (first_word m line) words }

-- what a load of that width reads at an address
abbrev pub read_at : Contents → ℕ → Width → ℕ
read_at m address width = read_in_line (line_at m (line address)) address width

-- the memories after a store of that width at an address
abbrev pub written_at : Contents → ℕ → Width → ℕ → Contents
written_at m address width value = with_line m (line address) (written_in_line (line_at m (line address)) address width value)
