-- A direct-mapped data cache with lines of 32 bytes (Nios II Processor Reference Guide, "Cache Memory"):
-- one optional line for each set.
use Rattle.std.specs.Prelude.{◌≡◌, ◌≤◌, ℕ, ◌/◌, Bool, true, false, IsTrue, ◌==◌, if◌then◌else◌, List, [], length, replicate, get_or, slice_set, Option, Some, None, option_map}
use Rattle.std.specs.Int.{is_power_of_two}
use Rattle.n2_word.specs.declared.Width.{Width}
use Rattle.n2_word.specs.Lines.{line, set_for, read_in_line, written_in_line}
use Rattle.n2_dcache.specs.declared.Held.{Held}

-- what a set holds
abbrev pub slot_at : List (Option Held) → ℕ → Option Held
slot_at slots set = get_or slots set None

-- the set that keeps a line
abbrev pub own_set : List (Option Held) → ℕ → ℕ
own_set slots number = set_for number (length slots)

-- whether what a set holds is this line
abbrev pub is_line : Option Held → ℕ → Bool
is_line None number = false
is_line (Some held) number = held.line == number

-- whether what a set holds is dirty
abbrev pub is_dirty : Option Held → Bool
is_dirty None = false
is_dirty (Some held) = held.dirty

-- the words that a set holds
abbrev pub words_of : Option Held → List ℕ
words_of None = []
words_of (Some held) = held.words

-- whether a line is held
abbrev pub has_line : List (Option Held) → ℕ → Bool
has_line slots number = is_line (slot_at slots (own_set slots number)) number

-- the cache as a finite map from the numbers of lines
abbrev pub held_line : List (Option Held) → ℕ → Option Held
held_line slots number = if has_line slots number then slot_at slots (own_set slots number) else None

-- what a load of that width reads from the line of an address
abbrev pub loaded : List (Option Held) → ℕ → Width → ℕ
loaded slots address width = read_in_line (words_of (slot_at slots (own_set slots (line address)))) address width

-- what a load of that width reads from a line
abbrev pub read_in : ℕ → Width → Held → ℕ
read_in address width held = read_in_line held.words address width

-- the same where the line of the address is held, else none
abbrev pub found : List (Option Held) → ℕ → Width → Option ℕ
found slots address width = option_map (read_in address width) (held_line slots (line address))

-- a line after a store of that width
abbrev pub stored_in : ℕ → Width → ℕ → Held → Held
stored_in address width value held =
    record { line = held.line; words = written_in_line held.words address width value; dirty = true }

-- the cache after a store of that width into the line of an address
abbrev pub stored : List (Option Held) → ℕ → Width → ℕ → List (Option Held)
stored slots address width value =
    slice_set slots (own_set slots (line address)) (option_map (stored_in address width value) (slot_at slots (own_set slots (line address))))

-- the same where the line of the address is held, else no change
abbrev pub stored_if_held : List (Option Held) → ℕ → Width → ℕ → List (Option Held)
stored_if_held slots address width value =
    if has_line slots (line address) then stored slots address width value else slots

-- a line as it is after it was filled
abbrev pub clean_line : ℕ → List ℕ → Held
clean_line number words = record { line = number; words = words; dirty = false }

-- the cache after a line was filled
abbrev pub filled : List (Option Held) → ℕ → List ℕ → List (Option Held)
filled slots number words = slice_set slots (own_set slots number) (Some (clean_line number words))

-- the cache after a set was emptied
abbrev pub set_dropped : List (Option Held) → ℕ → List (Option Held)
set_dropped slots set = slice_set slots set None

-- the cache after a line was dropped, whatever else its set holds
abbrev pub line_dropped : List (Option Held) → ℕ → List (Option Held)
line_dropped slots number = if has_line slots number then set_dropped slots (own_set slots number) else slots

-- an empty cache of so many bytes
abbrev pub opened : ℕ → List (Option Held)
opened bytes = replicate (bytes / 32) None

-- what holds of every cache: a line stands in its own set and has eight words
pub record IsPlaced (slots : List (Option Held)) : Type 0 where
  pub own : (set : ℕ) (held : Held) → slot_at slots set ≡ Some held → own_set slots held.line ≡ set
  pub eight : (set : ℕ) (held : Held) → slot_at slots set ≡ Some held → length held.words ≡ 8

-- and that there are sets, as many as a power of two
pub record IsWhole (slots : List (Option Held)) : Type 0 where
  pub power : IsTrue (is_power_of_two (length slots))
  pub most : length slots ≤ 2048
  pub placed : IsPlaced slots
