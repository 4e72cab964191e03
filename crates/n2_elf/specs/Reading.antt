-- What a file is as an executable (ELF32 specification, "ELF Header" and "Program Header").
use Rattle.std.specs.Prelude.{ℕ, zero, suc, ◌+◌, ◌*◌, ◌/◌, ◌%◌, ◌≤◌, List, [], ◌∷◌, ◌++◌, length, take, drop, Bool, true, false, not, ◌&&◌, ◌==◌, nat_lt, nat_le, if◌then◌else◌, Option, Some, None, Result, Ok, Err}
use Rattle.std.specs.List.{AllByRecursion}
use Rattle.std.specs.Option.{option_or}
use Rattle.n2_text.specs.Firsts.{first_of, unless}
use Rattle.n2_elf.specs.Fields.{byte_at, half_at, word_at}
use Rattle.n2_elf.specs.declared.image.Segment.{Segment}
use Rattle.n2_elf.specs.declared.image.Image.{Image}
use Rattle.n2_elf.specs.declared.image.ElfFault.{ElfFault}
use Rattle.n2_elf.specs.declared.image.ElfFault.TheVariants.{NotElf, Cut, WrongClass, WrongMachine, WrongType, Flags, EntrySize, Sizes, NoSegment}

-- the first four bytes of such a file: 7F, E, L, F
abbrev pub magic : List ℕ
magic = 127 ∷ 69 ∷ 76 ∷ 70 ∷ []

abbrev pub has_magic : List ℕ → Bool
has_magic bytes = byte_at bytes 0 == 127 && byte_at bytes 1 == 69 && byte_at bytes 2 == 76 && byte_at bytes 3 == 70

-- e_entry, e_phoff, e_phentsize and e_phnum
abbrev pub entry_of : List ℕ → ℕ
entry_of bytes = word_at bytes 24

abbrev pub table_of : List ℕ → ℕ
table_of bytes = word_at bytes 28

abbrev pub entry_size_of : List ℕ → ℕ
entry_size_of bytes = half_at bytes 42

abbrev pub count_of : List ℕ → ℕ
count_of bytes = half_at bytes 44

-- what is wrong in the file's header: the magic number, the length, EI_CLASS (ELFCLASS32) and
-- EI_DATA (ELFDATA2LSB), e_machine (EM_ALTERA_NIOS2), e_type (ET_EXEC), e_flags and e_phentsize
unfoldable pub header_fault : List ℕ → Option ElfFault
header_fault bytes = first_of (
    unless (has_magic bytes) NotElf
    ∷ unless (nat_le 52 (length bytes)) (Cut 0)
    ∷ unless (byte_at bytes 4 == 1 && byte_at bytes 5 == 1) WrongClass
    ∷ unless (half_at bytes 18 == 113) (WrongMachine (half_at bytes 18))
    ∷ unless (half_at bytes 16 == 2) (WrongType (half_at bytes 16))
    ∷ unless (word_at bytes 36 == 0) (Flags (word_at bytes 36))
    ∷ unless (if count_of bytes == 0 then true else (entry_size_of bytes == 32)) (EntrySize (entry_size_of bytes))
    ∷ [])

-- where program header i stands
abbrev pub place_of : List ℕ → ℕ → ℕ
place_of bytes i = table_of bytes + 32 * i

-- of the program header at a place: p_type, p_offset, p_paddr, p_filesz, p_memsz and p_flags
abbrev pub type_at : List ℕ → ℕ → ℕ
type_at bytes place = word_at bytes place

abbrev pub offset_at : List ℕ → ℕ → ℕ
offset_at bytes place = word_at bytes (place + 4)

abbrev pub paddr_at : List ℕ → ℕ → ℕ
paddr_at bytes place = word_at bytes (place + 12)

abbrev pub filesz_at : List ℕ → ℕ → ℕ
filesz_at bytes place = word_at bytes (place + 16)

abbrev pub memsz_at : List ℕ → ℕ → ℕ
memsz_at bytes place = word_at bytes (place + 20)

abbrev pub flags_at : List ℕ → ℕ → ℕ
flags_at bytes place = word_at bytes (place + 24)

-- a header of type PT_LOAD whose segment has memory; all others are passed over
abbrev pub is_loaded : List ℕ → ℕ → Bool
is_loaded bytes place = if type_at bytes place == 1 then not (memsz_at bytes place == 0) else false

-- what is wrong in a segment that is loaded
abbrev pub segment_fault : List ℕ → ℕ → ℕ → Option ElfFault
segment_fault bytes i place = first_of (
    unless (nat_le (filesz_at bytes place) (memsz_at bytes place)) (Sizes i)
    ∷ unless (if filesz_at bytes place == 0 then true else nat_le (offset_at bytes place + filesz_at bytes place) (length bytes)) (Cut (offset_at bytes place))
    ∷ [])

-- what is wrong in program header i, which stands at a place
unfoldable pub program_fault : List ℕ → ℕ → ℕ → Option ElfFault
program_fault bytes i place =
    if nat_lt (length bytes) (place + 32) then Some (Cut place)
    else (if is_loaded bytes place then segment_fault bytes i place else None)

-- the first fault of n program headers from header i on
unfoldable pub programs_fault : List ℕ → ℕ → ℕ → Option ElfFault
programs_fault bytes i zero = None
programs_fault bytes i (suc n) = option_or (program_fault bytes i (place_of bytes i)) (programs_fault bytes (i + 1) n)

-- the segment of the program header at a place: its bytes of the file, at its physical address,
-- with PF_X (bit 0) and PF_W (bit 1)
unfoldable pub segment_at : List ℕ → ℕ → Segment
segment_at bytes place = record {
  at = paddr_at bytes place;
  bytes = take (filesz_at bytes place) (drop (offset_at bytes place) bytes);
  size = memsz_at bytes place;
  exec = flags_at bytes place % 2 == 1;
  write = flags_at bytes place / 2 % 2 == 1;
}

-- that segment, where it is loaded
abbrev pub loaded_at : List ℕ → ℕ → List Segment
loaded_at bytes place = if is_loaded bytes place then segment_at bytes place ∷ [] else []

-- the segments of n program headers from header i on
unfoldable pub segments_from : List ℕ → ℕ → ℕ → List Segment
segments_from bytes i zero = []
segments_from bytes i (suc n) = loaded_at bytes (place_of bytes i) ++ segments_from bytes (i + 1) n

-- the segments of all program headers
abbrev pub segments_of : List ℕ → List Segment
segments_of bytes = segments_from bytes 0 (count_of bytes)

-- the first fault of a file
unfoldable pub fault_of : List ℕ → Option ElfFault
fault_of bytes = first_of (
    header_fault bytes
    ∷ programs_fault bytes 0 (count_of bytes)
    ∷ unless (not (length (segments_of bytes) == 0)) NoSegment
    ∷ [])

-- the image of a file, or its first fault
abbrev pub unless_fault : Option ElfFault → Image → Result Image ElfFault
unless_fault None image = Ok image
unless_fault (Some fault) image = Err fault

unfoldable pub elf : List ℕ → Result Image ElfFault
elf bytes = unless_fault (fault_of bytes) (record { entry = entry_of bytes; segments = segments_of bytes })

-- a file without a header is one executable segment at an address, with its first byte as the
-- entry; an empty file has no segment
unfoldable pub raw_image : List ℕ → ℕ → Image
raw_image bytes at = record {
  entry = at;
  segments = if length bytes == 0 then [] else record { at = at; bytes = bytes; size = length bytes; exec = true; write = false } ∷ [];
}

-- each segment is at least as long as its bytes
abbrev pub HoldsItsBytes : Segment → Type 0
HoldsItsBytes s = length s.bytes ≤ s.size

abbrev pub IsSized : Image → Type 0
IsSized image = AllByRecursion HoldsItsBytes image.segments
