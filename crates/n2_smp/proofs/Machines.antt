-- A machine after a turn stands for the definition's state after it.
use Rattle.std.proofs.Common.{◌≡◌, ◌≢◌, ℕ, ◌<◌, ◌≤◌, ◌++◌, Bool, List, [], ◌∷◌, length, slice_get, slice_set, get_or, Option, Some, None, cond, refl, ap, sym, ◌∙◌, arith, subst, length-set}
use Rattle.std.specs.Prelude.{is_some}
use Rattle.std.proofs.lemmas.Bool.{eqb-true}
use Rattle.std.proofs.lemmas.Option.{slice_get-get_or}
use Rattle.n2_parts.specs.declared.board.Board.{Board}
use Rattle.n2_parts.specs.declared.board.CoreRow.{CoreRow}
use Rattle.n2_parts.specs.declared.board.DeviceEvent.{DeviceEvent}
use Rattle.n2_board.specs.AddressMap.{AddressMap}
use Rattle.n2_memory.specs.Memories.{Contents}
use Rattle.n2_bus.specs.Transfer.{BusState}
use Rattle.n2_journal.specs.Journals.{Limited}
use Rattle.n2_watch.specs.World.{World}
use Rattle.n2_parts.specs.declared.stops.Stop.{Stop}
use Rattle.n2_front.specs.Core.{Core, stop_of}
use Rattle.n2_cpu.specs.declared.state.State.{State}
use Rattle.n2_cpu.specs.Stands as cpu
use Rattle.n2_cpu.proofs.Others.{with_watch, watch_in}
use Rattle.n2_runs.specs.Machine.{Machine, Made, script_is_over, core_is_over, is_over, start, turn, run}
use Rattle.n2_runs.specs.FlatRun.{Flat}
use Rattle.n2_runs.specs.Along.{IsAlong, after}
use Rattle.n2_runs.specs.Knows.{KnowsSame, IsBookKept}
use Rattle.n2_runs.proofs.Lists.{set_each, slice_get-set_other}
use Rattle.n2_runs.proofs.Sets.{within}
use Rattle.n2_runs.proofs.Books.{book_kept, known_same, other_core}
use Rattle.n2_runs.proofs.Turns.{turn_keeps}
use Rattle.n2_runs.proofs.Views.{turn_cases}
use Rattle.n2_runs.proofs.Quiets.{run-append}
use Rattle.n2_smp.specs.declared.turns.Turned.{Turned}
use Rattle.n2_smp.specs.Rows.{FitRows}
use Rattle.n2_smp.specs.Scripts.{Reached, left, IsReached}
use Rattle.n2_smp.specs.Standing.{Parts, StandsFor, IsSound, StandsAt, IsReady, IsTurnedAt, EventsStandFor, AreTurned, answer_of}
use Rattle.n2_smp.proofs.Cores.{some_within, not_less}

-- a core that another actor leaves what it knows stands for what it stood for
left_standing : (b : Board) (map : AddressMap) (k : ℕ) (s : State) (c : Core) (w other : World) → cpu.StandsFor b map k s c w → KnowsSame b k w.book other.book → cpu.StandsFor b map k s c other
left_standing b map k s c w other h same = with_watch b map k s c w other h (watch_in b map k s c w other h same.guards (λ index row found sends. same.pointers index row found (eqb-true row.sender k sends)))

-- a turn of a core leaves the script
script_left : (b : Board) (map : AddressMap) (m : Machine) → length m.cores ≡ length b.core → (k : ℕ) → k < length b.core → (turn b map m k).machine.script ≡ m.script
script_left b map m count k lt = turn_cases b map m count k (λ (x : Made). x.machine.script ≡ m.script) (λ e. refl) (λ row c h quiet. refl) (λ row c request h wants room. refl) (λ event script e h room. absurd (omega (arith, lt)))

-- one more turn of a run
one_turn : (b : Board) (map : AddressMap) (k : ℕ) (m : Machine) → run b map m (k ∷ []) ≡ (turn b map m k).machine
unfolding run
one_turn b map k m = refl

along_after : (b : Board) (map : AddressMap) (first m : Machine) (order : List ℕ) (k : ℕ) → m ≡ run b map first order → (turn b map m k).machine ≡ run b map first (order ++ k ∷ [])
along_after b map first m order k e = ap (λ (x : Machine). (turn b map x k).machine) e ∙ sym (run-append b map order (k ∷ []) first ∙ one_turn b map k (run b map first order))

module _ (v : Parts) (sound : IsSound v) where
  abbrev b : Board
  b = v.board

  pub kept_after : (m : Machine) (actor : ℕ) → IsBookKept v.board v.map m → IsBookKept v.board v.map (turn v.board v.map m actor).machine
  kept_after m actor kept = book_kept v.board sound.map_of.images v.map sound.map_of.valid sound.map_of.maps m kept actor

  pub agrees_after : (first : Contents) (m : Machine) (f : Flat) (actor : ℕ) → IsAlong v.board v.map first m f → IsAlong v.board v.map first (turn v.board v.map m actor).machine (after v.board v.map f (turn v.board v.map m actor).act)
  agrees_after first m f actor h = turn_keeps v.board sound.map_of.images v.map sound.map_of.valid sound.map_of.maps first m f h actor

  -- each core but the one that moved
  other_stands : (m : Machine) (actor j : ℕ) (s : State) (c : Core) → StandsFor v m → IsBookKept v.board v.map m → j ≢ actor → slice_get v.cores j ≡ Some s → slice_get (turn v.board v.map m actor).machine.cores j ≡ Some c → cpu.StandsFor v.board v.map j s c (turn v.board v.map m actor).machine.world
  other_stands m actor j s c h kept ne found there =
      let lt : j < length v.board.core = let x = within v.cores j s found in omega (arith, h.count) in
      left_standing v.board v.map j s c m.world (turn v.board v.map m actor).machine.world
      (h.cores j s c found (sym (other_core v.board v.map m actor j ne) ∙ there))
      (known_same v.board sound.map_of.images v.map sound.map_of.valid sound.map_of.maps m kept actor j lt ne)

  -- ---- a turn of a core
  module _ (k : ℕ) (value : State) (found : slice_get v.cores k ≡ Some value) where
    core_within : k < length v.board.core
    core_within = let x = within v.cores k value found in omega (arith, sound.stands.count)

    pub stands_at : (m : Machine) → StandsFor v m → StandsAt v.board v.map k value v.bus v.journal m
    stands_at m h = record { within = core_within; core = λ c there. h.cores k value c found there; bus = h.bus; entries = h.entries; limit = h.limit }

    pub ready : IsReady v.map k value v.bus v.journal
    ready = record { board = v.board; map_of = sound.map_of; state = sound.state; stands = stands_at sound.state sound.stands; kept = sound.kept }

    module _ (new : State) (behind : BusState) (journal : Limited) (stands : (b : Board) (m : Machine) → StandsAt b v.map k value v.bus v.journal m → IsBookKept b v.map m → StandsAt b v.map k new behind journal (turn b v.map m k).machine) where
      abbrev next : Parts
      next = record { board = v.board; map = v.map; cores = slice_set v.cores k new; bus = behind; journal = journal; script = v.script }

      pub core_stands : (m : Machine) → StandsFor v m → IsBookKept v.board v.map m → StandsFor next (turn v.board v.map m k).machine
      core_stands m h kept =
          let x : StandsAt v.board v.map k new behind journal (turn v.board v.map m k).machine = stands v.board m (stands_at m h) kept in
          let each = set_each (λ (j : ℕ) (s : State). (c : Core) → slice_get (turn v.board v.map m k).machine.cores j ≡ Some c → cpu.StandsFor v.board v.map j s c (turn v.board v.map m k).machine.world)
          v.cores k new (λ c there. x.core c there) (λ j s e ne c there. other_stands m k j s c h kept ne e there)
          in
          record {
            count = length-set v.cores k new ∙ h.count;
            cores = λ j s c e there. each j s e c there;
            bus = x.bus;
            entries = x.entries;
            limit = x.limit;
            script = h.script ∙ sym (script_left v.board v.map m kept.count k core_within);
          }

      pub core_sound : journal.content.tails ≡ v.journal.content.tails → (FitRows v.journal.content.entries → FitRows journal.content.entries) → IsSound next
      core_sound tails rows = record {
        map_of = sound.map_of;
        reached = sound.reached;
        tails = ap (λ (xs : List ℕ). length xs) tails ∙ sound.tails;
        rows = rows sound.rows;
        state = (turn v.board v.map sound.state k).machine;
        order = sound.order ++ k ∷ [];
        along = along_after v.board v.map (start v.board sound.map_of.images) sound.state sound.order k sound.along;
        stands = core_stands sound.state sound.stands sound.kept;
        kept = kept_after sound.state k sound.kept;
      }

  -- ---- a turn of the device actor
  module _ (behind : BusState) (journal : Limited) (script : Reached) (answer : Turned) (turned : (map : AddressMap) (m : Machine) → EventsStandFor v.board v.bus v.journal v.script m → AreTurned v.board map behind journal script m answer) where
    abbrev next_of : Parts
    next_of = record { board = v.board; map = v.map; cores = v.cores; bus = behind; journal = journal; script = script }

    events_after : (m : Machine) → StandsFor v m → AreTurned v.board v.map behind journal script m answer
    events_after m h = turned v.map m (record { bus = h.bus; entries = h.entries; limit = h.limit; left_is = h.script })

    pub event_stands : (m : Machine) (actor : ℕ) → actor ≡ length v.board.core → StandsFor v m → IsBookKept v.board v.map m → StandsFor next_of (turn v.board v.map m actor).machine
    event_stands m actor is h kept =
        let x : AreTurned v.board v.map behind journal script m answer = events_after m h in
        let made : StandsFor next_of (turn v.board v.map m (length v.board.core)).machine = record {
          count = h.count;
          cores = λ j s c e there. other_stands m (length v.board.core) j s c h kept (λ same. let y = within v.cores j s e in absurd (omega (arith, h.count))) e there;
          bus = x.stand.bus;
          entries = x.stand.entries;
          limit = x.stand.limit;
          script = x.stand.left_is;
        }
        in
        subst (λ (n : ℕ). StandsFor next_of (turn v.board v.map m n).machine) (sym is) made

    pub event_answers : (m : Machine) (actor : ℕ) → actor ≡ length v.board.core → StandsFor v m → answer ≡ answer_of (is_over v.board m actor) (turn v.board v.map m actor).act
    event_answers m actor is h = (events_after m h).answer_is ∙ sym (ap (λ (n : ℕ). answer_of (is_over v.board m n) (turn v.board v.map m n).act) is)

    pub event_sound : (actor : ℕ) → actor ≡ length v.board.core → IsReached v.board script → journal.content.tails ≡ v.journal.content.tails → (FitRows v.journal.content.entries → FitRows journal.content.entries) → IsSound next_of
    event_sound actor is reached tails rows = record {
      map_of = sound.map_of;
      reached = reached;
      tails = ap (λ (xs : List ℕ). length xs) tails ∙ sound.tails;
      rows = rows sound.rows;
      state = (turn v.board v.map sound.state actor).machine;
      order = sound.order ++ actor ∷ [];
      along = along_after v.board v.map (start v.board sound.map_of.images) sound.state sound.order actor sound.along;
      stands = event_stands sound.state actor is sound.stands sound.kept;
      kept = kept_after sound.state actor sound.kept;
    }

pub indexed : {X : Type 0} (xs : List X) (i : ℕ) (x : X) → i < length xs → x ≡ get_or xs i x → slice_get xs i ≡ Some x
indexed xs i x lt e = slice_get-get_or xs i x lt ∙ ap (λ y. Some y) (sym e)

-- a core is over where its value has stopped
pub core_over : (v : Parts) (m : Machine) → StandsFor v m → length m.cores ≡ length v.board.core → (k : ℕ) (value : State) → slice_get v.cores k ≡ Some value → is_some value.stop ≡ is_over v.board m k
core_over v m h many k value found =
    let lt : k < length v.board.core = let x = within v.cores k value found in omega (arith, h.count) in
    let there = some_within m.cores k (omega (arith, many)) in
    let s : value.stop ≡ stop_of there.0 = (h.cores k value there.0 found there.1).stop in
    ap (λ (o : Option Stop). is_some o) s
    ∙ sym (ap core_is_over there.1)
    ∙ sym (ap (λ (x : Bool). cond x (script_is_over v.board m m.script) (core_is_over (slice_get m.cores k))) (not_less k (length v.board.core) lt))
