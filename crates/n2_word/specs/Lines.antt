-- Lines of 32 bytes and the sets that keep them (Nios II Processor Reference Guide, "Cache Memory").
use Rattle.std.specs.Prelude.{ℕ, ◌*◌, ◌/◌, ◌%◌, ◌^◌, ◌&&◌, ◌||◌, Bool, List, nat_le, slice_index, slice_set}
use Rattle.std.specs.Int.{is_power_of_two}
use Rattle.n2_word.specs.declared.Width.{Width}
use Rattle.n2_word.specs.Words.{lane_of, extracted, merged}

-- an address without bit 31, which only says that the access goes past the cache
abbrev pub without_bypass : ℕ → ℕ
without_bypass address = address % 2 ^ 31

-- a load or store goes past the cache where its instruction says so or its address has bit 31
abbrev pub bypasses : ℕ → Bool → Bool
bypasses address io = io || nat_le (2 ^ 31) address

-- the number of the line that holds an address
abbrev pub line : ℕ → ℕ
line address = without_bypass address / 32

-- the first address of a line
abbrev pub base_of : ℕ → ℕ
base_of number = 32 * number

-- the set that keeps a line in a cache of so many sets
abbrev pub set_for : ℕ → ℕ → ℕ
set_for number sets = number % sets

-- the bytes of a cache: a power of two from 512 to 65,536
abbrev pub is_cache_size : ℕ → Bool
is_cache_size bytes = is_power_of_two bytes && nat_le 512 bytes && nat_le bytes 65536

-- the place of an address among the eight words of its line
abbrev pub place_in_line : ℕ → ℕ
place_in_line address = address % 32 / 4

-- what a load of that width reads from the words of its line
abbrev pub read_in_line : List ℕ → ℕ → Width → ℕ
read_in_line words address width = extracted (slice_index words (place_in_line address)) (lane_of address) width

-- the words of a line after a store of that width
abbrev pub written_in_line : List ℕ → ℕ → Width → ℕ → List ℕ
written_in_line words address width value =
    slice_set words (place_in_line address) (merged (slice_index words (place_in_line address)) (lane_of address) width value)
