-- A direct-mapped instruction cache with lines of 32 bytes (Nios II Processor Reference Guide, "Cache
-- Memory"): the sets of a data cache, of which none is ever dirty.
use Rattle.std.specs.Prelude.{◌≡◌, ℕ, false, List, slice_index, Option, option_map}
use Rattle.n2_word.specs.Lines.{line, place_in_line}
use Rattle.n2_dcache.specs.declared.Held.{Held}
use Rattle.n2_dcache.specs.Cache.{slot_at, is_dirty, held_line}

-- the word of a line at an address
abbrev pub word_of : ℕ → Held → ℕ
word_of address held = slice_index held.words (place_in_line address)

-- the word at an address, where its line is held
abbrev pub word_at : List (Option Held) → ℕ → Option ℕ
word_at slots address = option_map (word_of address) (held_line slots (line address))

-- no set is dirty
abbrev pub IsClean : List (Option Held) → Type 0
IsClean slots = (set : ℕ) → is_dirty (slot_at slots set) ≡ false
