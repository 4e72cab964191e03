-- The lines of all memories of a board as one list, in the board's order of memories.
use Rattle.std.specs.Prelude.{ℕ, ◌+◌, ◌-◌, ◌/◌, ◌%◌, ◌^◌, ◌<◌, ◌≤◌, ◌≡◌, List, [], ◌∷◌, Bool, ◌&&◌, nat_lt, nat_le, if◌then◌else◌}
use Rattle.std.specs.List.{AllByRecursion}
use Rattle.n2_parts.specs.declared.board.MemoryRow.{MemoryRow}

-- a memory has that line
abbrev pub memory_has : MemoryRow → ℕ → Bool
memory_has row line = nat_le (row.base / 32) line && nat_lt (line - row.base / 32) (row.size / 32)

-- how many lines memories have
abbrev pub line_count : List MemoryRow → ℕ
line_count [] = 0
line_count (row ∷ rows) = row.size / 32 + line_count rows

-- the place of a line among all lines of memories; of a line of none of them, the number of all
abbrev pub line_place : List MemoryRow → ℕ → ℕ
line_place [] line = 0
line_place (row ∷ rows) line = if memory_has row line then line - row.base / 32 else row.size / 32 + line_place rows line

-- one of the memories has that line
abbrev pub HasLine : List MemoryRow → ℕ → Type 0
HasLine rows line = line_place rows line < line_count rows

-- a memory is whole lines, and ends at most where bit 31 begins
abbrev pub IsWholeLines : MemoryRow → Type 0
IsWholeLines row = (row.base % 32 ≡ 0) × (row.size % 32 ≡ 0) × (row.base + row.size ≤ 2 ^ 31)

abbrev pub AreWholeLines : List MemoryRow → Type 0
AreWholeLines rows = AllByRecursion IsWholeLines rows
