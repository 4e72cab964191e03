-- A machine before its first turn, and what is left of one after its last.
use Rattle.std.proofs.Common.{◌≡◌, ℕ, zero, suc, ◌+◌, ◌<◌, ◌++◌, List, [], ◌∷◌, length, map, take, drop, get_or, slice_get, slice_set, Option, Some, None, refl, ap, sym, ◌∙◌, arith, subst}
use Rattle.std.proofs.lemmas.List.{length-replicate}
use Rattle.std.proofs.lemmas.List.Elements.{All-nil}
use Rattle.n2_elf.specs.declared.image.Image.{Image}
use Rattle.n2_parts.specs.declared.board.Board.{Board}
use Rattle.n2_parts.specs.declared.board.CoreRow.{CoreRow}
use Rattle.n2_parts.specs.Valid.{IsValid}
use Rattle.n2_board.specs.AddressMap.{AddressMap, address_map}
use Rattle.n2_bus.specs.Transfer.{BusState}
use Rattle.n2_bus.specs.Transfer as bus
use Rattle.n2_bus.specs.Opened.{shared_at_start}
use Rattle.n2_journal.specs.Journals.{Content, Limited, empty_of, IsWithinLimits}
use Rattle.n2_watch.specs.World.{start_world}
use Rattle.n2_front.specs.Core.{Core, started_core}
use Rattle.n2_cpu.specs.declared.state.State.{State}
use Rattle.n2_cpu.specs.Stands as cpu
use Rattle.n2_runs.specs.Machine.{Machine, started_cores, events_of, start, run, tails}
use Rattle.n2_runs.specs.Knows.{IsBookKept}
use Rattle.n2_runs.specs.Recorded.{journal_of, HasCounts}
use Rattle.n2_runs.proofs.Quiets.{run-none}
use Rattle.n2_runs.proofs.Limits.{counts}
use Rattle.n2_smp.specs.declared.machine.Ran.{Ran}
use Rattle.n2_smp.specs.Rows.{FitsRow}
use Rattle.n2_smp.specs.Scripts.{Reached, left, IsReached}
use Rattle.n2_smp.specs.Standing.{Parts, StandsFor, IsSound, AreOpened, locals_of, RanStandsFor}
use Rattle.n2_smp.proofs.Rows.{within_limits}

-- what holds of each of some and of one more holds of each of all
pub push_each : {X : Type 0} (P : ℕ → X → Type 0) (xs : List X) (x : X) → ((j : ℕ) (y : X) → slice_get xs j ≡ Some y → P j y) → P (length xs) x → (j : ℕ) (y : X) → slice_get (xs ++ x ∷ []) j ≡ Some y → P j y
push_each P [] x old new zero y e = let same : x ≡ y = cc in subst (λ z. P 0 z) same new
push_each P [] x old new (suc j) y e = absurd (cc)
push_each P (z ∷ zs) x old new zero y e = old zero y e
push_each P (z ∷ zs) x old new (suc j) y e = push_each (λ n. P (suc n)) zs x (λ i w h. old (suc i) w h) new j y e

-- a core of the start
record IsStarted (rows : List CoreRow) (images : List Image) (k : ℕ) (c : Core) : Type 0 where
  row : CoreRow
  image : Image
  has_row : slice_get rows k ≡ Some row
  has_image : slice_get images k ≡ Some image
  is : c ≡ started_core row image

started_at : (rows : List CoreRow) (images : List Image) (k : ℕ) (c : Core) → slice_get (started_cores rows images) k ≡ Some c → IsStarted rows images k c
started_at [] images k c e = absurd (cc)
started_at (row ∷ rows) [] k c e = absurd (cc)
started_at (row ∷ rows) (image ∷ images) zero c e = let same : c ≡ started_core row image = cc in record { row = row; image = image; has_row = refl; has_image = refl; is = same }
started_at (row ∷ rows) (image ∷ images) (suc k) c e = let x = started_at rows images k c e in record { row = x.row; image = x.image; has_row = x.has_row; has_image = x.has_image; is = x.is }

module _ (b : Board) (map' : AddressMap) (images : List Image) (values : List State) (behind : BusState) (script : Reached) (n : ℕ) where
  abbrev pub opened : Parts
  opened = record { board = b; map = map'; cores = values; bus = behind; journal = record { content = empty_of n; limit = b.journal }; script = script }

  pub start_stands : length values ≡ length b.core → AreOpened b map' values images → bus.StandsFor b behind (shared_at_start b images) → left b script ≡ events_of b.script → StandsFor opened (start b images)
  start_stands count cores stands rest = record {
    count = count;
    cores = λ k value c found there.
        let x : IsStarted b.core images k c = started_at b.core images k c there in
        subst (λ (d : Core). cpu.StandsFor b map' k value d (start_world b images)) (sym x.is) (cores k value x.image found x.has_image x.row images x.has_row);
    bus = stands;
    entries = refl;
    limit = refl;
    script = rest;
  }

  pub start_sound : IsValid b → length images ≡ length b.core → map' ≡ address_map b images → IsBookKept b map' (start b images) → IsReached b script → length b.core ≡ n → StandsFor opened (start b images) → IsSound opened
  start_sound valid count maps kept reached many stands = record {
    map_of = record { valid = valid; images = images; count = count; maps = maps };
    reached = reached;
    tails = length-replicate n 0 ∙ sym many;
    rows = All-nil FitsRow;
    state = start b images;
    order = [];
    along = sym (run-none b map' (start b images));
    stands = stands;
    kept = kept;
  }

-- ---- tails
pub tail_step : (xs ys : List ℕ) (i x : ℕ) → length xs ≡ length ys → slice_get xs i ≡ Some x → slice_set (take i xs ++ drop i ys) i x ≡ take (suc i) xs ++ drop (suc i) ys
tail_step [] ys i x many e = absurd (cc)
tail_step (z ∷ zs) [] i x many e = absurd (omega arith)
tail_step (z ∷ zs) (y ∷ ys) zero x many e = let same : x ≡ z = cc in ap (λ w. w ∷ ys) same
tail_step (z ∷ zs) (y ∷ ys) (suc i) x many e = ap (λ ws. z ∷ ws) (tail_step zs ys i x (omega arith) e)

same_locals : (values : List State) (cores : List Core) → length values ≡ length cores → ((k : ℕ) (value : State) (c : Core) → slice_get values k ≡ Some value → slice_get cores k ≡ Some c → c.local ≡ value.clock.local) → locals_of values ≡ map (λ (c : Core). c.local) cores
same_locals [] [] many each = refl
same_locals [] (c ∷ cores) many each = absurd (omega arith)
same_locals (value ∷ values) [] many each = absurd (omega arith)
same_locals (value ∷ values) (c ∷ cores) many each =
    let first : value.clock.local ≡ c.local = sym (each 0 value c refl refl) in
    ap (λ n. n ∷ locals_of values) first ∙ ap (λ ns. c.local ∷ ns) (same_locals values cores (omega arith) (λ k s d e h. each (suc k) s d e h))

-- what a machine hands out: its journal with the tail of each core
abbrev pub handed_out : Parts → Content
handed_out v = record { entries = v.journal.content.entries; tails = locals_of v.cores }

journal_is : (v : Parts) (m : Machine) → StandsFor v m → length m.cores ≡ length v.board.core → handed_out v ≡ journal_of m
journal_is v m h many =
    ap (λ es. record { entries = es; tails = locals_of v.cores }) h.entries
    ∙ ap (λ ns. record { entries = m.entries; tails = ns }) (same_locals v.cores m.cores (h.count ∙ sym many) (λ k value c e there. (h.cores k value c e there).local))

-- that is the journal of a run from the start, and each of its entries has a row
journal_within : (v : Parts) → IsSound v → IsWithinLimits (handed_out v)
journal_within v sound =
    let b = v.board in
    let counted : HasCounts (length b.core) (journal_of (run b v.map (start b sound.map_of.images) sound.order)) = counts b sound.map_of.images v.map sound.order sound.map_of.valid sound.map_of.count in
    let at_state : HasCounts (length b.core) (journal_of sound.state) = subst (λ (m : Machine). HasCounts (length b.core) (journal_of m)) (sym sound.along) counted in
    let is : handed_out v ≡ journal_of sound.state = journal_is v sound.state sound.stands sound.kept.count in
    within_limits b sound.map_of.valid (handed_out v) (subst (λ (j : Content). HasCounts (length b.core) j) (sym is) at_state) sound.rows

pub ran_stands : (v : Parts) → IsSound v → (m : Machine) → StandsFor v m → length m.cores ≡ length v.board.core → RanStandsFor v.board v.map (record { cores = v.cores; bus = v.bus; journal = record { content = handed_out v; limit = v.journal.limit } }) m
ran_stands v sound m h many = record { count = h.count; cores = h.cores; bus = h.bus; journal = journal_is v m h many; within = journal_within v sound }
