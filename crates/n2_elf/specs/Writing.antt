-- The file of an image: the header, the program headers, and the bytes of the segments in order,
-- without gaps (ELF32 specification, "ELF Header" and "Program Header").
use Rattle.std.specs.Prelude.{ℕ, ◌+◌, ◌*◌, ◌^◌, ◌<◌, ◌≤◌, List, [], ◌∷◌, ◌++◌, length, if◌then◌else◌}
use Rattle.std.specs.List.{AllByRecursion}
use Rattle.n2_word.specs.Words.{bytes_of}
use Rattle.n2_elf.specs.Fields.{half_bytes}
use Rattle.n2_elf.specs.Reading.{magic}
use Rattle.n2_elf.specs.declared.image.Segment.{Segment}
use Rattle.n2_elf.specs.declared.image.Image.{Image}

-- e_ident: the magic number, EI_CLASS, EI_DATA and EI_VERSION, and nine zeros
abbrev pub ident : List ℕ
ident = magic ++ (1 ∷ 1 ∷ 1 ∷ 0 ∷ 0 ∷ 0 ∷ 0 ∷ 0 ∷ 0 ∷ 0 ∷ 0 ∷ 0 ∷ [])

-- the header of an executable with an entry and so many program headers, which stand behind it:
-- e_type, e_machine, e_version, e_entry, e_phoff, e_shoff, e_flags, e_ehsize, e_phentsize, e_phnum,
-- e_shentsize, e_shnum and e_shstrndx
unfoldable pub header_bytes : ℕ → ℕ → List ℕ
header_bytes entry count =
    ident ++ half_bytes 2 ++ half_bytes 113 ++ bytes_of 1 ++ bytes_of entry ++ bytes_of 52 ++ bytes_of 0 ++ bytes_of 0
    ++ half_bytes 52 ++ half_bytes 32 ++ half_bytes count ++ half_bytes 0 ++ half_bytes 0 ++ half_bytes 0

-- PF_R, and PF_X and PF_W where they are given
abbrev pub flags_of : Segment → ℕ
flags_of s = 4 + (if s.exec then 1 else 0) + (if s.write then 2 else 0)

-- the program header of a segment whose bytes stand at an offset: p_type, p_offset, p_vaddr,
-- p_paddr, p_filesz, p_memsz, p_flags and p_align
unfoldable pub program_bytes : ℕ → Segment → List ℕ
program_bytes offset s =
    bytes_of 1 ++ bytes_of offset ++ bytes_of s.at ++ bytes_of s.at ++ bytes_of (length s.bytes) ++ bytes_of s.size ++ bytes_of (flags_of s) ++ bytes_of 1

-- the program headers of segments whose bytes stand from an offset on
unfoldable pub programs_bytes : ℕ → List Segment → List ℕ
programs_bytes offset [] = []
programs_bytes offset (s ∷ segments) = program_bytes offset s ++ programs_bytes (offset + length s.bytes) segments

-- the bytes of segments
unfoldable pub contents : List Segment → List ℕ
contents [] = []
contents (s ∷ segments) = s.bytes ++ contents segments

-- how many bytes they are
unfoldable pub contents_len : List Segment → ℕ
contents_len [] = 0
contents_len (s ∷ segments) = length s.bytes + contents_len segments

-- the file
unfoldable pub file_of : Image → List ℕ
file_of image =
    header_bytes image.entry (length image.segments) ++ programs_bytes (52 + 32 * length image.segments) image.segments ++ contents image.segments

-- a segment has memory, and room for its bytes
pub record HasRoom (s : Segment) : Type 0 where
  pub some : 1 ≤ s.size
  pub bytes : length s.bytes ≤ s.size

-- an image that can be written
pub record IsWritable (image : Image) : Type 0 where
  pub some : 1 ≤ length image.segments
  pub few : length image.segments ≤ 64
  pub room : AllByRecursion HasRoom image.segments
  pub small : contents_len image.segments < 2 ^ 31
