-- The machine at the start is whole.
use Rattle.std.proofs.Common.{◌≡◌, ◌⊎◌, ℕ, zero, suc, ◌+◌, ◌%◌, ◌/◌, ◌^◌, ◌<◌, ◌&&◌, eqb, Bool, true, false, leb, List, [], ◌∷◌, ◌++◌, length, map, Option, Some, None, slice_get, refl, sym, ap, subst, inl, inr, ◌∙◌, arith}
use Rattle.std.specs.Prelude.{option_and_then}
use Rattle.std.proofs.Common.{not}
use Rattle.std.specs.List.{AllByRecursion}
use Rattle.std.specs.Option.{option_or}
use Rattle.std.proofs.lemmas.Bool.{false≢true, eqb-true}
use Rattle.std.proofs.lemmas.Option.{slice_get_within}
use Rattle.n2_word.specs.Lines.{is_cache_size}
use Rattle.n2_text.specs.Firsts.{unless}
use Rattle.n2_elf.specs.declared.image.Image.{Image}
use Rattle.n2_elf.specs.Reading.{IsSized}
use Rattle.n2_parts.specs.declared.board.Board.{Board}
use Rattle.n2_parts.specs.declared.board.CoreRow.{CoreRow}
use Rattle.n2_parts.specs.declared.board.Key.{Key}
use Rattle.n2_parts.specs.declared.board.Key.TheVariants as keys
use Rattle.n2_parts.specs.declared.board.PartKind.TheVariants.{Core}
use Rattle.n2_parts.specs.Numbers.{core_numbers, number_fault, is_place}
use Rattle.n2_parts.specs.Parts.{part_of, first_from}
use Rattle.n2_parts.specs.Valid.{IsValid}
use Rattle.n2_parts.proofs.Sound.{keeps, all_good}
use Rattle.n2_board.specs.declared.placement.OpenFault.{OpenFault}
use Rattle.n2_board.specs.declared.placement.OpenFault.TheVariants.{EntryOutside}
use Rattle.n2_board.specs.AddressMap.{AddressMap, address_map}
use Rattle.n2_board.specs.Placement.{first_pc, starts_inside, entry_fault, first_placement_fault, open_fault}
use Rattle.n2_watch.specs.declared.past.Past.{Past}
use Rattle.n2_watch.specs.Book.{start_book}
use Rattle.n2_bus.specs.Wiring.{wiring_of}
use Rattle.n2_watch.specs.Kept.{IsKept}
use Rattle.n2_watch.specs.Shapes.{HasWorldShape}
use Rattle.n2_watch.specs.Watched.{StandsFor}
use Rattle.n2_watch.specs.World.{start_world}
use Rattle.n2_front.specs.Front.{Front, started_front}
use Rattle.n2_runs.specs.FlatRun.{started_fronts, flat_start}
use Rattle.n2_flat.specs.State.{CoreState, CommonState, IsStarted, IsWhole, IsAligned, front_of, past_of, machine_of}

-- ---- a list that grows by one
pub got_last : {A : Type 0} (xs : List A) (x : A) (k : ℕ) (y : A) → slice_get (xs ++ x ∷ []) k ≡ Some y → (slice_get xs k ≡ Some y) ⊎ ((k ≡ length xs) × (x ≡ y))
got_last [] x zero y e = inr (refl, grind arith)
got_last [] x (suc k) y e = absurd (cc)
got_last (z ∷ xs) x zero y e = inl e
got_last (z ∷ xs) x (suc k) y e = elim (got_last xs x k y e) [
  | inl there ↦ inl there
  | inr last ↦ inr (ap suc last.0, last.1)
]

-- ---- fronts and past events of all cores
pub fronts_started : (rows : List CoreRow) (images : List Image) (cores : List CoreState) → length cores ≡ length rows → length images ≡ length rows → ((k : ℕ) (c : CoreState) → slice_get cores k ≡ Some c → (row : CoreRow) × (image : Image) × (slice_get rows k ≡ Some row) × (slice_get images k ≡ Some image) × (c.front ≡ started_front row image)) → map front_of cores ≡ started_fronts rows images
fronts_started [] images [] n m h = refl
fronts_started [] images (c ∷ cores) n m h = absurd (omega arith)
fronts_started (row ∷ rows) [] cores n m h = absurd (omega arith)
fronts_started (row ∷ rows) (image ∷ images) [] n m h = absurd (omega arith)
fronts_started (row ∷ rows) (image ∷ images) (c ∷ cores) n m h =
    let first = h 0 c refl in
    let same : first.0 ≡ row = (let e = first.2 in grind arith) in
    let image_same : first.1 ≡ image = (let e = first.3 in grind arith) in
    let front : c.front ≡ started_front row image = first.4 ∙ ap (λ (r : CoreRow). started_front r first.1) same ∙ ap (λ (i : Image). started_front row i) image_same in
    ap (λ (f : Front). f ∷ map front_of cores) front
    ∙ ap (λ (fs : List Front). started_front row image ∷ fs) (fronts_started rows images cores (omega arith) (omega arith) (λ k d e. h (suc k) d e))

pub pasts_started : (rows : List CoreRow) (cores : List CoreState) → length cores ≡ length rows → ((k : ℕ) (c : CoreState) → slice_get cores k ≡ Some c → c.front.past ≡ []) → map (λ core. []) rows ≡ map past_of cores
pasts_started [] [] n h = refl
pasts_started [] (c ∷ cores) n h = absurd (omega arith)
pasts_started (row ∷ rows) [] n h = absurd (omega arith)
pasts_started (row ∷ rows) (c ∷ cores) n h =
    ap (λ (p : List Past). p ∷ map (λ (row : CoreRow). []) rows) (sym (h 0 c refl))
    ∙ ap (λ (ps : List (List Past)). c.front.past ∷ ps) (pasts_started rows cores (omega arith) (λ k d e. h (suc k) d e))

-- ---- alignment
neither : {F : Type 0} (a b : Option F) → option_or a b ≡ None → (a ≡ None) × (b ≡ None)
neither None b h = (refl, h)
neither (Some fault) b h = absurd cc

first_none : (f : ℕ → Option OpenFault) (i n k : ℕ) → first_from f i n ≡ None → k < n → f (i + k) ≡ None
unfolding first_from
first_none f i zero k e lt = absurd (omega arith)
first_none f i (suc n) zero e lt = let z : i + 0 ≡ i = omega arith in rw z (neither (f i) _ e).0
first_none f i (suc n) (suc k) e lt =
    let s : i + suc k ≡ i + 1 + k = omega arith in rw s (first_none f (i + 1) n k (neither (f i) _ e).1 (omega arith))

multiple : (x y : Bool) → (x && y) ≡ true → x ≡ true
multiple true y h = refl
multiple false y h = absurd (false≢true h)

good : (x : Bool) (fault : OpenFault) → unless x fault ≡ None → x ≡ true
good true fault h = refl
good false fault h = absurd (cc)

pub exception_aligned : (b : Board) → IsValid b → (i : ℕ) (row : CoreRow) → slice_get b.core i ≡ Some row → row.exception % 4 ≡ 0
unfolding number_fault core_numbers
exception_aligned b valid i row e =
    let h : number_fault b (part_of Core i) ≡ None = (keeps b valid Core i (omega arith) (slice_get_within b.core i row e)).numbers in
    let here : core_numbers (part_of Core i) row ≡ None = sym (ap (λ (o : Option CoreRow). option_and_then (core_numbers (part_of Core i)) o) e) ∙ h in
    let checks : List (Key × Bool) =
    (keys.At, is_place 32 row.at) ∷ (keys.Exception, is_place 4 row.exception) ∷ (keys.Dcache, is_cache_size row.dcache) ∷ (keys.Icache, is_cache_size row.icache) ∷ (keys.Sample, leb 2 row.sample) ∷ (keys.Evict, not (eqb row.evict 1)) ∷ []
    in
    let all = all_good (part_of Core i) checks here in
    eqb-true (row.exception % 4) 0 (multiple _ _ all.1.0)

entry_at : (b : Board) (images : List Image) (k : ℕ) (row : CoreRow) (image : Image) → slice_get b.core k ≡ Some row → slice_get images k ≡ Some image → entry_fault b images k ≡ None → first_pc row image.entry % 4 ≡ 0
unfolding entry_fault
entry_at b images k row image r i e =
    let at : unless (starts_inside b.memory (first_pc row image.entry)) (EntryOutside k) ≡ None =
    sym (ap (λ (o : Option CoreRow). option_and_then (λ (core : CoreRow). option_and_then (λ (image : Image). unless (starts_inside b.memory (first_pc core image.entry)) (EntryOutside k)) (slice_get images k)) o) r
    ∙ ap (λ (o : Option Image). option_and_then (λ (image : Image). unless (starts_inside b.memory (first_pc row image.entry)) (EntryOutside k)) o) i) ∙ e in
    eqb-true (first_pc row image.entry % 4) 0 (multiple _ _ (good (starts_inside b.memory (first_pc row image.entry)) (EntryOutside k) at))

pub pc_aligned : (b : Board) (images : List Image) → open_fault b images ≡ None → (k : ℕ) (row : CoreRow) (image : Image) → slice_get b.core k ≡ Some row → slice_get images k ≡ Some image → first_pc row image.entry % 4 ≡ 0
unfolding first_placement_fault
pc_aligned b images h k row image r i =
    (let z : 0 + k ≡ k = omega arith in entry_at b images k row image r i (rw z at (first_none (λ j. entry_fault b images j) 0 (length b.core) k (neither _ _ (neither _ _ h).1).0 (slice_get_within b.core k row r))))

pub core_aligned : (b : Board) (images : List Image) (map' : AddressMap) (k : ℕ) (c : CoreState) → IsValid b → open_fault b images ≡ None → IsStarted b images map' k c → IsAligned c.front.regs
core_aligned b images map' k c valid fits s =
    subst (λ (f : Front). IsAligned f.regs) (sym s.front)
    (record { pc = pc_aligned b images fits k s.row s.image s.row_is s.image_is; vector = exception_aligned b valid k s.row s.row_is })

-- no address has the line that stands for none
no_line : (pc : ℕ) → pc < 2 ^ 32 → pc / 32 ≡ 4294967295 → ⊥
no_line pc few line = omega arith

pub started_whole : (b : Board) (images : List Image) (map' : AddressMap) (common : CommonState) (cores : List CoreState) → IsValid b → length images ≡ length b.core → AllByRecursion IsSized images → open_fault b images ≡ None → map' ≡ address_map b images → common ≡ record { wiring = wiring_of b; world = start_world b images } → length cores ≡ length b.core → ((k : ℕ) (c : CoreState) → slice_get cores k ≡ Some c → IsStarted b images map' k c) → HasWorldShape b (start_world b images) → IsKept b map' (start_book b) (map (λ core. []) b.core) → IsWhole map' (record { board = b; common = common; cores = cores; recent = 4294967295 })
started_whole b images map' common cores valid count sized fits maps e long each shape kept = record {
  map_of = record { valid = valid; images = images; count = count; maps = maps };
  wiring = ap (λ (x : CommonState). x.wiring) e;
  count = long;
  shape = subst (λ (x : CommonState). HasWorldShape b x.world) (sym e) shape;
  kept = subst (λ (x : CommonState). IsKept b map' x.world.book (map past_of cores)) (sym e) (subst (λ (ps : List (List Past)). IsKept b map' (start_book b) ps) (pasts_started b.core cores long (λ k c f. ap (λ (g : Front). g.past) (each k c f).front)) kept);
  watched = λ k c f. record { stands = subst (λ (x : CommonState). StandsFor b map' k c.watch x.world.book c.front.past) (sym e) (subst (λ (p : List Past). StandsFor b map' k c.watch (start_book b) p) (sym (ap (λ (g : Front). g.past) (each k c f).front)) (each k c f).stands) };
  aligned = λ k c f. core_aligned b images map' k c valid fits (each k c f);
  fetched = λ pc few line. absurd (no_line pc few line);
}

pub started_machine : (b : Board) (images : List Image) (map' : AddressMap) (common : CommonState) (cores : List CoreState) → length images ≡ length b.core → common ≡ record { wiring = wiring_of b; world = start_world b images } → length cores ≡ length b.core → ((k : ℕ) (c : CoreState) → slice_get cores k ≡ Some c → IsStarted b images map' k c) → machine_of (record { board = b; common = common; cores = cores; recent = 4294967295 }) ≡ flat_start b images
started_machine b images map' common cores count e long each =
    ap (λ (x : CommonState). record { world = x.world; cores = map front_of cores }) e
    ∙ ap (λ (fs : List Front). record { world = start_world b images; cores = fs })
    (fronts_started b.core images cores long count (λ k c f. let s = each k c f in (s.row, s.image, s.row_is, s.image_is, s.front)))
