-- The classes of a valid board's lines name parts of the board.
use Rattle.std.proofs.Common.{◌≡◌, ℕ, suc, ◌+◌, ◌<◌, ◌≤◌, true, false, cond, List, [], ◌∷◌, ◌++◌, length, map, Option, Some, None, slice_get, refl, sym, ap, subst, ◌∙◌, arith}
use Rattle.std.specs.Prelude.{option_and_then}
use Rattle.std.specs.List.{All, filter}
use Rattle.std.proofs.lemmas.Bool.{ltb-true}
use Rattle.std.proofs.lemmas.List.Elements.{All-nil, All-cons, All-tail, All-append, All-map, All-filter}
use Rattle.std.proofs.lemmas.Option.{slice_get_within}
use Rattle.n2_text.specs.Firsts.{unless}
use Rattle.n2_elf.specs.declared.image.Image.{Image}
use Rattle.n2_parts.specs.declared.board.Board.{Board}
use Rattle.n2_parts.specs.declared.board.RegionRow.{RegionRow}
use Rattle.n2_parts.specs.declared.board.RegionClass.{RegionClass}
use Rattle.n2_parts.specs.declared.board.RegionClass.TheVariants as given
use Rattle.n2_parts.specs.declared.board.PartKind.TheVariants.{Region}
use Rattle.n2_parts.specs.declared.board.BoardFault.TheVariants.{NoCore, NoPart}
use Rattle.n2_parts.specs.Parts.{part_of}
use Rattle.n2_parts.specs.Rules.{holds, class_has_cores, class_has_parts, core_fault, part_fault}
use Rattle.n2_parts.specs.Valid.{IsValid}
use Rattle.n2_parts.proofs.Small.{none_good}
use Rattle.n2_parts.proofs.Sound.{keeps}
use Rattle.n2_board.specs.declared.classes.Class.{Class}
use Rattle.n2_board.specs.declared.classes.Class.TheVariants.{Absent}
use Rattle.n2_board.specs.declared.classes.LineZone.{LineZone}
use Rattle.n2_board.specs.declared.segments.LoadedSegment.{LoadedSegment}
use Rattle.n2_board.specs.Segments.{loaded_segment, segments_from, loaded_segments}
use Rattle.n2_board.specs.Classes.{class_of_region, region_zones, code_zones, own_zones, line_zones, class_in, NamesParts}

-- ---- regions

named_region : (b : Board) (i : ℕ) (class : RegionClass) → i < length b.region → class_has_cores (length b.core) class ≡ true → class_has_parts b class ≡ true → NamesParts b (class_of_region i class)
named_region b i given.Code lt cores parts = tt
named_region b i (given.Private core) lt cores parts = ltb-true core (length b.core) cores
named_region b i (given.Mutex mutex) lt cores parts = ltb-true mutex (length b.mutex) parts
named_region b i (given.Passed holder mailboxes) lt cores parts = lt
named_region b i given.Uncached lt cores parts = tt

one_region : (b : Board) → IsValid b → (i : ℕ) (row : RegionRow) → slice_get b.region i ≡ Some row → NamesParts b (class_of_region i row.class)
unfolding core_fault part_fault
one_region b valid i row e =
    let lt : i < length b.region = slice_get_within b.region i row e in
    let kept = keeps b valid Region i (omega arith) lt in
    let cores : unless (class_has_cores (length b.core) row.class) (NoCore (part_of Region i)) ≡ None = sym (ap (λ (o : Option RegionRow). option_and_then (λ r. unless (class_has_cores (length b.core) r.class) (NoCore (part_of Region i))) o) e) ∙ kept.cores in
    let parts : unless (class_has_parts b row.class) (NoPart (part_of Region i)) ≡ None = sym (ap (λ (o : Option RegionRow). option_and_then (λ r. unless (class_has_parts b r.class) (NoPart (part_of Region i))) o) e) ∙ kept.parts in
    named_region b i row.class lt (none_good (class_has_cores (length b.core) row.class) (NoCore (part_of Region i)) cores) (none_good (class_has_parts b row.class) (NoPart (part_of Region i)) parts)

regions_from : (b : Board) (i : ℕ) (rows : List RegionRow) → ((k : ℕ) (row : RegionRow) → slice_get rows k ≡ Some row → NamesParts b (class_of_region (i + k) row.class)) → All (λ zone. NamesParts b zone.class) (region_zones i rows)
unfolding region_zones
regions_from b i [] each = All-nil (λ (zone : LineZone). NamesParts b zone.class)
regions_from b i (row ∷ rows) each =
    All-cons (λ (zone : LineZone). NamesParts b zone.class) _ (region_zones (i + 1) rows)
    (subst (λ k. NamesParts b (class_of_region k row.class)) (omega arith) (each 0 row refl))
    (regions_from b (i + 1) rows (λ k r e. subst (λ n. NamesParts b (class_of_region n r.class)) (omega arith) (each (suc k) r e)))

-- ---- all zones

pub named : (b : Board) → IsValid b → (segments : List LoadedSegment) → All (λ s. s.core < length b.core) segments → All (λ zone. NamesParts b zone.class) (line_zones b segments)
unfolding line_zones
named b valid segments cores =
    let P : LineZone → Type 0 = λ zone. NamesParts b zone.class in
    All-append P (region_zones 0 b.region ++ code_zones segments) (own_zones segments)
    (All-append P (region_zones 0 b.region) (code_zones segments)
    (regions_from b 0 b.region (λ k row e. subst (λ n. NamesParts b (class_of_region n row.class)) (omega arith) (one_region b valid k row e)))
    (All-map P _ (filter (λ (s : LoadedSegment). s.code) segments) (λ k d lt. tt)))
    (All-map P _ (filter (λ (s : LoadedSegment). s.own) segments) (All-filter (λ (s : LoadedSegment). s.own) (λ (s : LoadedSegment). s.core < length b.core) segments cores))

-- what holds of each zone's class, and of Absent, holds of a line's class
pub class_among : (P : Class → Type 0) (zones : List LineZone) (line : ℕ) → P Absent → All (λ zone. P zone.class) zones → P (class_in zones line)
unfolding class_in
class_among P [] line none all = none
class_among P (zone ∷ zones) line none all =
    elim (holds zone.lines line) as (λ x. P (cond x zone.class (class_in zones line))) [
      | true ↦ all 0 zone (omega arith)
      | false ↦ class_among P zones line none (All-tail (λ (z : LineZone). P z.class) zone zones all)
    ]

-- ---- the cores of segments

weaker : (segments : List LoadedSegment) (n m : ℕ) → n ≤ m → All (λ s. s.core < n) segments → All (λ s. s.core < m) segments
weaker segments n m le all = λ k d lt. (let low = all k d lt in omega arith)

cores_from : (core : ℕ) (images : List Image) → All (λ s. s.core < core + length images) (segments_from core images)
unfolding segments_from
cores_from core [] = All-nil (λ (s : LoadedSegment). s.core < core + 0)
cores_from core (image ∷ images) =
    let n : ℕ = core + suc (length images) in
    let P : LoadedSegment → Type 0 = λ s. s.core < n in
    All-append P (map (loaded_segment core) image.segments) (segments_from (core + 1) images)
    (All-map P (loaded_segment core) image.segments (λ k d lt. omega arith))
    (weaker (segments_from (core + 1) images) (core + 1 + length images) n (omega arith) (cores_from (core + 1) images))

pub cores_of : (images : List Image) (n : ℕ) → length images ≡ n → All (λ s. s.core < n) (loaded_segments images)
cores_of images n e = weaker (loaded_segments images) (0 + length images) n (omega arith) (cores_from 0 images)
