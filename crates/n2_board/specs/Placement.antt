-- Whether images fit a board.
use Rattle.std.specs.Prelude.{ℕ, ◌%◌, List, [], ◌∷◌, length, Bool, ◌&&◌, ◌==◌, nat_lt, if◌then◌else◌, Option, Some, None, unwrap_or}
use Rattle.std.specs.List.{list_any}
use Rattle.std.specs.Option.{option_or}
use Rattle.n2_text.specs.Firsts.{first_of, unless}
use Rattle.n2_elf.specs.declared.image.Image.{Image}
use Rattle.n2_parts.specs.declared.board.Board.{Board}
use Rattle.n2_parts.specs.declared.board.MemoryRow.{MemoryRow}
use Rattle.n2_parts.specs.declared.board.CoreRow.{CoreRow}
use Rattle.n2_parts.specs.Parts.{at_row, first_from}
use Rattle.n2_parts.specs.Rules.{bytes_from, share, is_inside}
use Rattle.n2_board.specs.declared.segments.LoadedSegment.{LoadedSegment}
use Rattle.n2_board.specs.declared.placement.OpenFault.{OpenFault}
use Rattle.n2_board.specs.declared.placement.OpenFault.TheVariants.{Outside, EntryOutside, Overlap}
use Rattle.n2_board.specs.Segments.{loaded_segments}

-- the first segment that is not inside one memory
abbrev pub outside : List MemoryRow → List LoadedSegment → Option OpenFault
outside memories [] = None
outside memories (s ∷ segments) = option_or (unless (is_inside memories s.bytes) (Outside s.core)) (outside memories segments)

-- a core's first program counter: its reset address, or else its image's entry
abbrev pub first_pc : CoreRow → ℕ → ℕ
first_pc core entry = unwrap_or core.reset entry

-- a multiple of 4 in a memory
abbrev pub starts_inside : List MemoryRow → ℕ → Bool
starts_inside memories pc = pc % 4 == 0 && is_inside memories (bytes_from pc 4)

unfoldable pub entry_fault : Board → List Image → ℕ → Option OpenFault
entry_fault b images k = at_row b.core k (λ core. at_row images k (λ image. unless (starts_inside b.memory (first_pc core image.entry)) (EntryOutside k)))

-- a segment of core a and one of core b share a line
abbrev pub images_meet : ℕ → ℕ → List LoadedSegment → Bool
images_meet a b segments = list_any (λ s. s.core == a && list_any (λ t. t.core == b && share s.lines t.lines) segments) segments

unfoldable pub overlap_of : List LoadedSegment → ℕ → ℕ → Option OpenFault
overlap_of segments a b = if nat_lt a b && images_meet a b segments then Some (Overlap a b) else None

-- the first fault: a segment outside, an entry outside, images that share a line
unfoldable pub first_placement_fault : Board → List Image → List LoadedSegment → Option OpenFault
first_placement_fault b images segments = first_of (
    outside b.memory segments
    ∷ first_from (λ k. entry_fault b images k) 0 (length b.core)
    ∷ first_from (λ i. first_from (λ j. overlap_of segments i j) 0 (length b.core)) 0 (length b.core)
    ∷ [])

abbrev pub open_fault : Board → List Image → Option OpenFault
open_fault b images = first_placement_fault b images (loaded_segments images)
