-- One step of each loop over segments, regions and places.
use Rattle.std.proofs.Common.{◌≡◌, ℕ, suc, ◌+◌, ◌-◌, ◌<◌, ◌≤◌, List, [], ◌∷◌, ◌++◌, length, get_or, drop, map, sym, ap, ◌∙◌, append_assoc, drop-cons, arith}
use Rattle.std.proofs.lemmas.List.{append-nil, drop_all}
use Rattle.n2_elf.specs.declared.image.Segment.{Segment}
use Rattle.n2_elf.specs.declared.image.Image.{Image}
use Rattle.n2_parts.specs.declared.board.Board.{Board}
use Rattle.n2_parts.specs.declared.board.RegionRow.{RegionRow}
use Rattle.n2_parts.specs.declared.board.PartKind.{PartKind}
use Rattle.n2_board.specs.declared.segments.LoadedSegment.{LoadedSegment}
use Rattle.n2_board.specs.declared.classes.LineZone.{LineZone}
use Rattle.n2_board.specs.declared.places.PlaceZone.{PlaceZone}
use Rattle.n2_parts.specs.Parts.{count_of, part_of}
use Rattle.n2_parts.specs.Rules.{spans_of}
use Rattle.n2_board.specs.Segments.{loaded_segment, segments_from}
use Rattle.n2_board.specs.Classes.{region_zone, region_zones}
use Rattle.n2_board.specs.Places.{zones_at, kind_zones, place_zones}

-- what was put so far, and what is left
more : {A : Type 0} (out new piece rest all whole : List A) → new ≡ out ++ piece → whole ≡ piece ++ rest → out ++ whole ≡ all → new ++ rest ≡ all
more {A} out new piece rest all whole grown parts so_far =
    ap (λ (x : List A). x ++ rest) grown ∙ append_assoc out piece rest ∙ ap (λ (x : List A). out ++ x) (sym parts) ∙ so_far

ended : {A : Type 0} (out rest all : List A) → rest ≡ [] → out ++ rest ≡ all → out ≡ all
ended {A} out rest all nothing so_far = sym (append-nil out) ∙ ap (λ (x : List A). out ++ x) (sym nothing) ∙ so_far

next : {A : Type 0} (xs : List A) (i : ℕ) (x : A) → i < length xs → x ≡ get_or xs i x → drop i xs ≡ x ∷ drop (i + 1) xs
next {A} xs i x lt here =
    let k : i + 1 ≡ suc i = omega arith in
    rw k (drop-cons xs i x lt ∙ ap (λ (y : A). y ∷ drop (suc i) xs) (sym here))

next_at : {A : Type 0} (xs : List A) (i : ℕ) (d : A) → i < length xs → drop i xs ≡ get_or xs i d ∷ drop (i + 1) xs
next_at xs i d lt =
    let k : i + 1 ≡ suc i = omega arith in rw k (drop-cons xs i d lt)

pub segments-more : (core : ℕ) (out new all : List LoadedSegment) (segments : List Segment) (i : ℕ) (s : Segment) → i < length segments → s ≡ get_or segments i s
    → new ≡ out ++ loaded_segment core s ∷ [] → out ++ map (loaded_segment core) (drop i segments) ≡ all → new ++ map (loaded_segment core) (drop (i + 1) segments) ≡ all
segments-more core out new all segments i s lt here grown so_far =
    more out new (loaded_segment core s ∷ []) (map (loaded_segment core) (drop (i + 1) segments)) all (map (loaded_segment core) (drop i segments)) grown (ap (map (loaded_segment core)) (next segments i s lt here)) so_far

pub segments-done : (core : ℕ) (out all : List LoadedSegment) (segments : List Segment) (i : ℕ) → length segments ≤ i → out ++ map (loaded_segment core) (drop i segments) ≡ all → out ≡ all
segments-done core out all segments i le so_far = ended out (map (loaded_segment core) (drop i segments)) all (ap (map (loaded_segment core)) (drop_all i segments le)) so_far

pub images-more : (core : ℕ) (out new all : List LoadedSegment) (images : List Image) (i : ℕ) (image : Image) → i < length images → image ≡ get_or images i image
    → new ≡ out ++ map (loaded_segment core) image.segments → out ++ segments_from core (drop i images) ≡ all → new ++ segments_from (core + 1) (drop (i + 1) images) ≡ all
unfolding segments_from
images-more core out new all images i image lt here grown so_far =
    more out new (map (loaded_segment core) image.segments) (segments_from (core + 1) (drop (i + 1) images)) all (segments_from core (drop i images)) grown (ap (segments_from core) (next images i image lt here)) so_far

pub images-done : (core : ℕ) (out all : List LoadedSegment) (images : List Image) (i : ℕ) → length images ≤ i → out ++ segments_from core (drop i images) ≡ all → out ≡ all
unfolding segments_from
images-done core out all images i le so_far = ended out (segments_from core (drop i images)) all (ap (segments_from core) (drop_all i images le)) so_far

pub regions-more : (n : ℕ) (out new all : List LineZone) (rows : List RegionRow) (i : ℕ) (row : RegionRow) → i < length rows → row ≡ get_or rows i row
    → new ≡ out ++ region_zone n row ∷ [] → out ++ region_zones n (drop i rows) ≡ all → new ++ region_zones (n + 1) (drop (i + 1) rows) ≡ all
unfolding region_zones
regions-more n out new all rows i row lt here grown so_far =
    more out new (region_zone n row ∷ []) (region_zones (n + 1) (drop (i + 1) rows)) all (region_zones n (drop i rows)) grown (ap (region_zones n) (next rows i row lt here)) so_far

pub regions-done : (n : ℕ) (out all : List LineZone) (rows : List RegionRow) (i : ℕ) → length rows ≤ i → out ++ region_zones n (drop i rows) ≡ all → out ≡ all
unfolding region_zones
regions-done n out all rows i le so_far = ended out (region_zones n (drop i rows)) all (ap (region_zones n) (drop_all i rows le)) so_far

pub kind-more : (b : Board) (kind : PartKind) (i count : ℕ) (out new all : List PlaceZone) → i < count → new ≡ out ++ zones_at (part_of kind i) (spans_of b (part_of kind i))
    → out ++ kind_zones b kind i (count - i) ≡ all → new ++ kind_zones b kind (i + 1) (count - (i + 1)) ≡ all
unfolding kind_zones
kind-more b kind i count out new all lt grown so_far =
    let k : count - i ≡ suc (count - (i + 1)) = omega arith in
    more out new (zones_at (part_of kind i) (spans_of b (part_of kind i))) (kind_zones b kind (i + 1) (count - (i + 1))) all (kind_zones b kind i (count - i)) grown (ap (kind_zones b kind i) k) so_far

pub kind-done : (b : Board) (kind : PartKind) (i count : ℕ) (out all : List PlaceZone) → count ≤ i → out ++ kind_zones b kind i (count - i) ≡ all → out ≡ all
unfolding kind_zones
kind-done b kind i count out all le so_far =
    let k : count - i ≡ 0 = omega arith in
    ended out (kind_zones b kind i (count - i)) all (ap (kind_zones b kind i) k) so_far

pub kinds-more : (b : Board) (out new all : List PlaceZone) (kinds : List PartKind) (i : ℕ) (d : PartKind) → i < length kinds
    → new ≡ out ++ kind_zones b (get_or kinds i d) 0 (count_of b (get_or kinds i d)) → out ++ place_zones b (drop i kinds) ≡ all → new ++ place_zones b (drop (i + 1) kinds) ≡ all
unfolding place_zones
kinds-more b out new all kinds i d lt grown so_far =
    more out new (kind_zones b (get_or kinds i d) 0 (count_of b (get_or kinds i d))) (place_zones b (drop (i + 1) kinds)) all (place_zones b (drop i kinds)) grown (ap (place_zones b) (next_at kinds i d lt)) so_far

pub kinds-done : (b : Board) (out all : List PlaceZone) (kinds : List PartKind) (i : ℕ) → length kinds ≤ i → out ++ place_zones b (drop i kinds) ≡ all → out ≡ all
unfolding place_zones
kinds-done b out all kinds i le so_far = ended out (place_zones b (drop i kinds)) all (ap (place_zones b) (drop_all i kinds le)) so_far
