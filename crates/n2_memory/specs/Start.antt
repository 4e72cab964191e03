-- The memories at the start: zeros, and the segments of the images stored over them in order.
use Rattle.std.specs.Prelude.{ℕ, ◌+◌, ◌-◌, ◌*◌, ◌%◌, ◌^◌, List, [], ◌∷◌, ◌++◌, length, replicate, IsTrue, ◌&&◌, nat_le, nat_lt, if◌then◌else◌, Option, Some, None, unwrap_or, slice_index}
use Rattle.std.specs.List.{AllByRecursion}
use Rattle.std.specs.Option.{option_or}
use Rattle.n2_word.specs.declared.Width.TheVariants.{Byte}
use Rattle.n2_elf.specs.declared.image.Segment.{Segment}
use Rattle.n2_elf.specs.declared.image.Image.{Image}
use Rattle.n2_parts.specs.declared.board.MemoryRow.{MemoryRow}
use Rattle.n2_parts.specs.Rules.{bytes_from, is_inside}
use Rattle.n2_parts.specs.MemoryLines.{line_count}
use Rattle.n2_memory.specs.Memories.{Contents, written_at}

-- bytes stored one by one, from an address on
unfoldable pub stored : Contents → ℕ → List ℕ → Contents
stored m address [] = m
stored m address (byte ∷ bytes) = stored (written_at m address Byte byte) (address + 1) bytes

-- all bytes of a segment: its own, and zeros behind them up to its size
unfoldable pub bytes_of_segment : Segment → List ℕ
bytes_of_segment s = s.bytes ++ replicate (s.size - length s.bytes) 0

-- segments stored one after another
unfoldable pub loaded : Contents → List Segment → Contents
loaded m [] = m
loaded m (s ∷ segments) = loaded (stored m s.at (bytes_of_segment s)) segments

-- the segments of all images, those of the first image first
unfoldable pub segments_of : List Image → List Segment
segments_of [] = []
segments_of (image ∷ images) = image.segments ++ segments_of images

-- memories of zeros
unfoldable pub zeros : List MemoryRow → Contents
zeros memories = record { memories = memories; words = replicate (8 * line_count memories) 0 }

-- the memories at the start
unfoldable pub start : List MemoryRow → List Image → Contents
start memories images = loaded (zeros memories) (segments_of images)

-- a segment is inside one memory
abbrev pub IsInside : List MemoryRow → Segment → Type 0
IsInside memories s = IsTrue (is_inside memories (bytes_from s.at s.size))

-- each segment of each image is
abbrev pub AreInside : List MemoryRow → List Image → Type 0
AreInside memories images = AllByRecursion (λ image. AllByRecursion (λ s. IsInside memories s) image.segments) images

-- ---- the same by bytes

-- the byte of a segment at an address, where it covers it
unfoldable pub segment_byte : Segment → ℕ → Option ℕ
segment_byte s address = if nat_le s.at address && nat_lt address (s.at + s.size) then Some (slice_index s.bytes (address - s.at) % 2 ^ 8) else None

-- the byte of the last segment that covers an address
unfoldable pub last_byte : List Segment → ℕ → Option ℕ
last_byte [] address = None
last_byte (s ∷ segments) address = option_or (last_byte segments address) (segment_byte s address)

-- the byte at an address at the start; where no segment covers it, 0
unfoldable pub start_byte : List Image → ℕ → ℕ
start_byte images address = unwrap_or (last_byte (segments_of images) address) 0
