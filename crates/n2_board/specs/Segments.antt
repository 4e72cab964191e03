-- The segments of images that are loaded, and the lines that they cover.
use Rattle.std.specs.Prelude.{ℕ, ◌+◌, ◌-◌, ◌/◌, List, [], ◌∷◌, ◌++◌, map, not, ◌||◌, ◌==◌, if◌then◌else◌}
use Rattle.n2_elf.specs.declared.image.Segment.{Segment}
use Rattle.n2_elf.specs.declared.image.Image.{Image}
use Rattle.n2_parts.specs.declared.spans.Span.{Span}
use Rattle.n2_parts.specs.Rules.{bytes_from}
use Rattle.n2_board.specs.declared.segments.LoadedSegment.{LoadedSegment}

-- the lines of which so many bytes from an address on cover a byte
abbrev pub lines_of : ℕ → ℕ → Span
lines_of from size = record { from = from / 32; end = if size == 0 then from / 32 else ((from + size - 1) / 32 + 1) }

-- a segment of a core's image: its bytes and lines; what is executable or is not writable is code,
-- and what is writable is the core's own
abbrev pub loaded_segment : ℕ → Segment → LoadedSegment
loaded_segment core s = record { core = core; bytes = bytes_from s.at s.size; lines = lines_of s.at s.size; code = s.exec || not s.write; own = s.write }

-- the segments of all images, from that of a core on
unfoldable pub segments_from : ℕ → List Image → List LoadedSegment
segments_from core [] = []
segments_from core (image ∷ images) = map (loaded_segment core) image.segments ++ segments_from (core + 1) images

abbrev pub loaded_segments : List Image → List LoadedSegment
loaded_segments images = segments_from 0 images
