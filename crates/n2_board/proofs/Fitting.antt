-- Images that fit a board are inside its memories.
use Rattle.std.proofs.Common.{◌≡◌, ℕ, ◌+◌, Bool, true, false, List, [], ◌∷◌, ◌++◌, map, Option, Some, None, IsTrue, refl}
use Rattle.std.specs.List.{AllByRecursion}
use Rattle.std.specs.Option.{option_or}
use Rattle.n2_text.specs.Firsts.{unless}
use Rattle.n2_elf.specs.declared.image.Segment.{Segment}
use Rattle.n2_elf.specs.declared.image.Image.{Image}
use Rattle.n2_parts.specs.declared.board.Board.{Board}
use Rattle.n2_parts.specs.declared.board.MemoryRow.{MemoryRow}
use Rattle.n2_parts.specs.Rules.{bytes_from, is_inside}
use Rattle.n2_board.specs.declared.segments.LoadedSegment.{LoadedSegment}
use Rattle.n2_board.specs.declared.placement.OpenFault.{OpenFault}
use Rattle.n2_board.specs.declared.placement.OpenFault.TheVariants.{Outside}
use Rattle.n2_board.specs.Segments.{loaded_segment, segments_from}
use Rattle.n2_board.specs.Placement.{outside, first_placement_fault, open_fault}

abbrev IsInside : List MemoryRow → Segment → Type 0
IsInside memories s = IsTrue (is_inside memories (bytes_from s.at s.size))

neither : (a b : Option OpenFault) → option_or a b ≡ None → (a ≡ None) × (b ≡ None)
neither None b h = (refl, h)
neither (Some fault) b h = absurd cc

inside : (good : Bool) (fault : OpenFault) → unless good fault ≡ None → IsTrue good
inside true fault h = refl
inside false fault h = absurd cc

-- the segments of one image, and what is left for those behind it
segments_inside : (memories : List MemoryRow) (core : ℕ) (segments : List Segment) (rest : List LoadedSegment) → outside memories (map (loaded_segment core) segments ++ rest) ≡ None
    → AllByRecursion (IsInside memories) segments × (outside memories rest ≡ None)
segments_inside memories core [] rest h = (tt, h)
segments_inside memories core (s ∷ segments) rest h =
    let parts = neither (unless (is_inside memories (bytes_from s.at s.size)) (Outside core)) (outside memories (map (loaded_segment core) segments ++ rest)) h in
    let more = segments_inside memories core segments rest parts.1 in
    ((inside (is_inside memories (bytes_from s.at s.size)) (Outside core) parts.0, more.0), more.1)

images_inside : (memories : List MemoryRow) (core : ℕ) (images : List Image) → outside memories (segments_from core images) ≡ None → AllByRecursion (λ image. AllByRecursion (IsInside memories) image.segments) images
unfolding segments_from
images_inside memories core [] h = tt
images_inside memories core (image ∷ images) h =
    let parts = segments_inside memories core image.segments (segments_from (core + 1) images) h in
    (parts.0, images_inside memories (core + 1) images parts.1)

pub fitting_inside : (b : Board) (images : List Image) → open_fault b images ≡ None → AllByRecursion (λ image. AllByRecursion (λ s. IsTrue (is_inside b.memory (bytes_from s.at s.size))) image.segments) images
unfolding first_placement_fault
fitting_inside b images h = images_inside b.memory 0 images (neither _ _ h).0
