-- Each turn of each actor keeps the agreement.
use Rattle.std.proofs.Common.{◌≡◌, ◌≢◌, ℕ, ◌<◌, Bool, true, false, cond, eqb, List, [], ◌∷◌, ◌++◌, length, slice_get, slice_set, Option, Some, None, refl, ap, sym, ◌∙◌, arith, subst, length-set}
use Rattle.std.specs.Prelude.{option_map}
use Rattle.std.specs.Option.{option_or}
use Rattle.std.proofs.lemmas.Bool.Decides.{nat_tests}
use Rattle.std.proofs.lemmas.List.{length-map}
use Rattle.std.proofs.lemmas.Option.{slice_get-map}
use Rattle.n2_elf.specs.declared.image.Image.{Image}
use Rattle.n2_parts.specs.declared.board.Board.{Board}
use Rattle.n2_parts.specs.declared.board.CoreRow.{CoreRow}
use Rattle.n2_parts.specs.declared.board.DeviceEvent.{DeviceEvent}
use Rattle.n2_parts.specs.declared.board.DeviceEvent.TheVariants as events
use Rattle.n2_parts.specs.declared.stops.Stop.{Stop}
use Rattle.n2_parts.specs.declared.stops.Act.{Act}
use Rattle.n2_parts.specs.declared.stops.Act.TheVariants as acts_of
use Rattle.n2_parts.specs.MemoryLines.{HasLine}
use Rattle.n2_parts.specs.Valid.{IsValid}
use Rattle.n2_board.specs.declared.guards.Guard.{Guard}
use Rattle.n2_board.specs.declared.guards.Guard.TheVariants as guard_kinds
use Rattle.n2_board.specs.AddressMap.{AddressMap, address_map, class_of}
use Rattle.n2_memory.specs.Memories.{Contents, line_at}
use Rattle.n2_bus.specs.declared.request.Request.{Request}
use Rattle.n2_bus.specs.Transfer.{line_reply, no_words, served}
use Rattle.n2_watch.specs.declared.past.Past.{Past}
use Rattle.n2_watch.specs.Book.{Book, owned_by, sets_of}
use Rattle.n2_watch.specs.World.{World, transferred}
use Rattle.n2_watch.specs.Kept.{may_write, IsKept}
use Rattle.n2_front.specs.Front.{Front}
use Rattle.n2_front.specs.Retire.{Acted, acted, retired}
use Rattle.n2_bus.specs.Transfer.{request_for}
use Rattle.n2_front.specs.Core.{Core, Ended, stop_of, ended_stop, log_full}
use Rattle.n2_front.specs.Turn.{CoreTurn, served_by, wants, core_turn}
use Rattle.n2_journal.specs.declared.entry.Entry.{Entry}
use Rattle.n2_runs.specs.Machine.{Machine, Made, unmoved, entry_of, made_by, made, core_made, core_of, event_made, script_made, turn, has_room, entered, full_made, run, acts, with_act as made_act}
use Rattle.n2_runs.specs.FlatRun.{Flat, with_core, unless_stopped, retires, sampled_by, samples, act, flat}
use Rattle.n2_runs.specs.Agree.{may_read, fronts_of, pasts_of}
use Rattle.n2_runs.proofs.Lists.{set_each, slice_get-set_same, slice_get-set_other, slice_set-same, map-slice_set}
use Rattle.n2_runs.specs.Along.{IsOf, dirty_at, IsOwnWell, AreCodesWell, IsAlong, after}
use Rattle.n2_watch.proofs.Owners.{one_owner}
use Rattle.n2_runs.proofs.Sets.{within, some_sets}
use Rattle.n2_runs.proofs.Rights.{laid_out, not_true, is_uncached, uncached-write, exclusive, read-like}
use Rattle.n2_runs.proofs.Solo.{AreFresh, IsSolo, own_frame}
use Rattle.n2_runs.proofs.Bypass.{world_of}
use Rattle.n2_watch.specs.Shapes.{HasBoardShape}
use Rattle.n2_runs.proofs.Kept.{put_exchange, got_exchange, retired_kept, sampled_kept, event_kept, shape_kept}
use Rattle.n2_runs.proofs.Steps.{IsActOf, IsStep, codes_stay, picks, held_right, no_right_clean, turn_step}

-- no core but k holds the line dirty
abbrev others : Board → List Core → ℕ → ℕ → Type 0
others b cs k l = (j : ℕ) (x : Core) → slice_get cs j ≡ Some x → j ≢ k → dirty_at (sets_of b j) x.data_slots l ≡ false

abbrev front_of : Core → Front
front_of c = c.front

abbrev past_of : Front → List Past
past_of f = f.past

abbrev with_cores : CoreTurn → Machine → ℕ → List Entry → List DeviceEvent → Machine
with_cores t m k es script = record { world = t.world; cores = slice_set m.cores k t.core; entries = es; script = script }

abbrev with_act : Acted → Flat → ℕ → Flat
with_act a f k = record { world = a.world; cores = slice_set f.cores k a.front }

module _ (b : Board) (images : List Image) (map' : AddressMap) (valid : IsValid b) (is : map' ≡ address_map b images) (first : Contents) where
  module _ (m : Machine) (f : Flat) (h : IsAlong b map' first m f) where
    -- each core's past events keep what they must
    fresh : (j : ℕ) (x : Core) → slice_get m.cores j ≡ Some x → AreFresh map' (owned_by b m.world.book j) j (sets_of b j) x.front.past
    fresh j x e = (h.kept.cores j x.front.past (ap (λ (xs : List Front). slice_get (pasts_of xs) j) h.fronts ∙ slice_get-map past_of (fronts_of m.cores) j ∙ ap (option_map past_of) (slice_get-map front_of m.cores j ∙ ap (option_map front_of) e))).dirty_lines

    core_within : (j : ℕ) (x : Core) → slice_get m.cores j ≡ Some x → j < length b.core
    core_within j x e = let lt = within m.cores j x e in omega (arith, h.count)

    module _ (k : ℕ) (c : Core) (there : slice_get m.cores k ≡ Some c) where
      alone : (l : ℕ) → HasLine b.memory l → may_read (class_of map' l) k (owned_by b m.world.book k) ≡ true → others b m.cores k l
      alone l i r j x e n = not_true (dirty_at (sets_of b j) x.data_slots l) (λ d. n (sym (exclusive (class_of map' l) k j (owned_by b m.world.book k) (owned_by b m.world.book j) (λ g p q. one_owner b valid m.world.book g k j (core_within k c there) (core_within j x e) p q) r (held_right b map' (owned_by b m.world.book j) f.world.memory j (sets_of b j) x.data_slots x.front.past l (h.cores j x e) (fresh j x e) d))))

      rivals : (j l : ℕ) → j < length b.core → j ≢ k → may_read (class_of map' l) j (owned_by b m.world.book j) ≡ true → may_write (class_of map' l) k (owned_by b m.world.book k) ≡ true → ⊥
      rivals j l lt n r w = n (exclusive (class_of map' l) j k (owned_by b m.world.book j) (owned_by b m.world.book k) (λ g p q. one_owner b valid m.world.book g j k lt (core_within k c there) p q) r w)

      apart : (l : ℕ) → HasLine b.memory l → is_uncached (class_of map' l) ≡ true → others b m.cores k l
      apart l i u j x e n = no_right_clean b map' (owned_by b m.world.book j) f.world.memory j (sets_of b j) x.data_slots x.front.past l (uncached-write (class_of map' l) j (owned_by b m.world.book j) u) (h.cores j x e) (fresh j x e)

      each_clean : (l : ℕ) → others b m.cores k l → dirty_at (sets_of b k) c.data_slots l ≡ false → (j : ℕ) (x : Core) (t : Bool) → eqb j k ≡ t → slice_get m.cores j ≡ Some x → dirty_at (sets_of b j) x.data_slots l ≡ false
      each_clean l o d j x true n e =
          let i : j ≡ k = grind (arith, nat_tests) in
          let y : slice_get m.cores k ≡ Some x = ap (slice_get m.cores) (sym i) ∙ e in
          let g : c ≡ x = grind arith in
          ap (λ n. dirty_at (sets_of b n) x.data_slots l) i ∙ ap (λ (z : Core). dirty_at (sets_of b k) z.data_slots l) (sym g) ∙ d
      each_clean l o d j x false n e = o j x e (grind (arith, nat_tests))

      solo : IsSolo b map' k (sets_of b k) (others b m.cores k) (owned_by b m.world.book k) m.world.memory f.world.memory c.data_slots c.front.past
      solo = record {
        core = h.cores k c there;
        mem_of = h.mem_of;
        flat_of = h.flat_of;
        memory = λ l i o d. h.memory l i (λ j x e. each_clean l o d j x (eqb j k) refl e);
      }

      -- what core k does alone, all keep
      lift : (t : CoreTurn) (a : Acted) (es : List Entry) (script : List DeviceEvent) → IsStep b map' k (others b m.cores k) m.world.book f.world.memory t a → IsKept b map' a.world.book (pasts_of (slice_set f.cores k a.front)) → HasBoardShape b t.world.book → IsAlong b map' first (with_cores t m k es script) (with_act a f k)
      lift t a es script i kept shape = record {
        fronts = ap (λ (xs : List Front). slice_set xs k a.front) h.fronts ∙ ap (λ (x : Front). slice_set (fronts_of m.cores) k x) (sym i.front) ∙ sym (map-slice_set front_of m.cores k t.core);
        book_is = sym i.book_is;
        count = length-set m.cores k t.core ∙ h.count;
        mem_of = i.solo.mem_of;
        flat_of = i.solo.flat_of;
        shape = shape;
        memory = λ l here all. i.solo.memory l here (λ j x e n. all j x (slice_get-set_other m.cores k j t.core n ∙ e)) (all k t.core (slice_get-set_same m.cores k c t.core there));
        cores = set_each (λ (j : ℕ) (x : Core). IsOwnWell b map' (owned_by b t.world.book j) a.world.memory j (sets_of b j) x.data_slots x.front.past) m.cores k t.core
            (subst (λ (y : Book). IsOwnWell b map' (owned_by b y k) a.world.memory k (sets_of b k) t.core.data_slots t.core.front.past) (sym i.book_is)
            (subst (λ (y : Front). IsOwnWell b map' (owned_by b a.world.book k) a.world.memory k (sets_of b k) t.core.data_slots y.past) (sym i.front) i.solo.core))
            (λ j x e n. subst (λ (y : Book). IsOwnWell b map' (owned_by b y j) a.world.memory j (sets_of b j) x.data_slots x.front.past) (sym i.book_is)
            (own_frame b map' (owned_by b m.world.book j) (owned_by b a.world.book j) f.world.memory a.world.memory j (sets_of b j) x.data_slots x.front.past
            (λ l here r. let lt = core_within j x e in let y : may_read (class_of map' l) j (owned_by b m.world.book j) ≡ true = sym (read-like (class_of map' l) j (owned_by b m.world.book j) (owned_by b a.world.book j) (λ g. i.owned j g lt n)) ∙ r in (y, i.words j l lt n here y)) (h.cores j x e)));
        codes = set_each (λ (j : ℕ) (x : Core). AreCodesWell b map' a.world.memory x.code_slots) m.cores k t.core i.codes (λ j x e n. codes_stay b map' f.world.memory a.world.memory x.code_slots i.code_words (h.codes j x e));
        kept = subst (λ (y : Book). IsKept b map' y (pasts_of (slice_set f.cores k a.front))) (sym i.book_is) kept;
        code_lines = λ l here e. i.code_words l here e ∙ h.code_lines l here e;
      }

      -- the flat machine beside it
      flat_world : f.world ≡ world_of f.world.memory m.world.book
      flat_world = ap (λ (y : Book). world_of f.world.memory y) h.book_is

      flat_core : slice_get f.cores k ≡ Some c.front
      flat_core = ap (λ (xs : List Front). slice_get xs k) h.fronts ∙ slice_get-map front_of m.cores k ∙ ap (option_map front_of) there

      same_cores : slice_set f.cores k c.front ≡ f.cores
      same_cores = slice_set-same f.cores k c.front flat_core

      still : f ≡ with_act (acted c.front (world_of f.world.memory m.world.book)) f k
      still = ap (λ (w : World). record { world = w; cores = f.cores }) flat_world ∙ ap (λ (xs : List Front). record { world = world_of f.world.memory m.world.book; cores = xs }) (sym same_cores)

      past_there : slice_get (pasts_of f.cores) k ≡ Some c.front.past
      past_there = slice_get-map past_of f.cores k ∙ ap (option_map past_of) flat_core

      past_count : length (pasts_of f.cores) ≡ length b.core
      past_count = length-map f.cores past_of ∙ ap (λ (xs : List Front). length xs) h.fronts ∙ length-map m.cores front_of ∙ h.count

      -- a front with the same past events
      same_kept : (g : Front) → g.past ≡ c.front.past → (book : Book) → IsKept b map' book (pasts_of f.cores) → IsKept b map' book (pasts_of (slice_set f.cores k g))
      same_kept g e book kept =
          subst (λ (xs : List (List Past)). IsKept b map' book xs) (sym (map-slice_set past_of f.cores k g ∙ ap (λ (p : List Past). slice_set (pasts_of f.cores) k p) e ∙ slice_set-same (pasts_of f.cores) k c.front.past past_there)) kept

      -- a turn that makes no act
      none_kept : IsKept b map' m.world.book (pasts_of (slice_set f.cores k c.front))
      none_kept = same_kept c.front refl m.world.book h.kept

      retire_kept : IsKept b map' (retired b map' k c.front (world_of f.world.memory m.world.book)).world.book (pasts_of (slice_set f.cores k (retired b map' k c.front (world_of f.world.memory m.world.book)).front))
      retire_kept =
          subst (λ (xs : List (List Past)). IsKept b map' (retired b map' k c.front (world_of f.world.memory m.world.book)).world.book xs) (sym (map-slice_set past_of f.cores k (retired b map' k c.front (world_of f.world.memory m.world.book)).front))
          (retired_kept b images map' valid is k (core_within k c there) c.front (world_of f.world.memory m.world.book) (pasts_of f.cores) past_count past_there h.shape h.kept)

      sample_kept : IsKept b map' (sampled_by b map' k c.front (world_of f.world.memory m.world.book)).world.book (pasts_of (slice_set f.cores k (sampled_by b map' k c.front (world_of f.world.memory m.world.book)).front))
      sample_kept =
          same_kept (sampled_by b map' k c.front (world_of f.world.memory m.world.book)).front refl (sampled_by b map' k c.front (world_of f.world.memory m.world.book)).world.book
          (sampled_kept b images map' valid is k (core_within k c there) (world_of f.world.memory m.world.book) (pasts_of f.cores) h.shape h.kept)

      runs : c.front.stop ≡ None → (a : Acted) → unless_stopped f k c.front.stop a ≡ with_core f k a
      runs e a = ap (λ (o : Option Stop). unless_stopped f k o a) e

      retire_flat : c.front.stop ≡ None → act b map' f (acts_of.Retire k) ≡ with_act (retired b map' k c.front (world_of f.world.memory m.world.book)) f k
      unfolding act
      retire_flat e = ap (retires b map' f k) flat_core ∙ runs e (retired b map' k c.front f.world) ∙ ap (λ (w : World). with_core f k (retired b map' k c.front w)) flat_world

      sample_flat : c.front.stop ≡ None → act b map' f (acts_of.Sample k) ≡ with_act (sampled_by b map' k c.front (world_of f.world.memory m.world.book)) f k
      unfolding act
      sample_flat e = ap (samples b map' f k) flat_core ∙ runs e (sampled_by b map' k c.front f.world) ∙ ap (λ (w : World). with_core f k (sampled_by b map' k c.front w)) flat_world

      abbrev picked : Option Act → Acted
      picked o = picks o (acted c.front (world_of f.world.memory m.world.book)) (retired b map' k c.front (world_of f.world.memory m.world.book)) (sampled_by b map' k c.front (world_of f.world.memory m.world.book))

      act_keeps : (t : CoreTurn) (es : List Entry) (script : List DeviceEvent) (o : Option Act) → IsActOf k o → c.front.stop ≡ None → HasBoardShape b t.world.book → IsStep b map' k (others b m.cores k) m.world.book f.world.memory t (picked o) → IsAlong b map' first (with_cores t m k es script) (after b map' f o)
      act_keeps t es script None x e shape i = subst (λ (v : Flat). IsAlong b map' first (with_cores t m k es script) v) (sym still) (lift t (picked None) es script i none_kept shape)
      act_keeps t es script (Some (acts_of.Retire j)) x e shape i =
          subst (λ (v : Flat). IsAlong b map' first (with_cores t m k es script) v) (sym (ap (λ n. act b map' f (acts_of.Retire n)) x ∙ retire_flat e)) (lift t (picked (Some (acts_of.Retire j))) es script i retire_kept shape)
      act_keeps t es script (Some (acts_of.Sample j)) x e shape i =
          subst (λ (v : Flat). IsAlong b map' first (with_cores t m k es script) v) (sym (ap (λ n. act b map' f (acts_of.Sample n)) x ∙ sample_flat e)) (lift t (picked (Some (acts_of.Sample j))) es script i sample_kept shape)
      act_keeps t es script (Some (acts_of.Device event)) x e shape i = absurd x

      -- a turn that wants a transfer while the journal is full
      full_step : IsStep b map' k (others b m.cores k) m.world.book f.world.memory (record { core = log_full c; world = m.world; request = None; reply = line_reply no_words; act = None }) (acted c.front (world_of f.world.memory m.world.book))
      full_step = record {
        its = tt;
        front = refl;
        book_is = refl;
        solo = solo;
        codes = h.codes k c there;
        owned = λ j g lt n. refl;
        words = λ j l lt n i r. refl;
        code_words = λ l i r. refl;
      }

      full_keeps : IsAlong b map' first (record { world = m.world; cores = slice_set m.cores k (log_full c); entries = m.entries; script = m.script }) f
      full_keeps = subst (λ (v : Flat). IsAlong b map' first (record { world = m.world; cores = slice_set m.cores k (log_full c); entries = m.entries; script = m.script }) v) (sym still)
          (lift (record { core = log_full c; world = m.world; request = None; reply = line_reply no_words; act = None }) (acted c.front (world_of f.world.memory m.world.book)) m.entries m.script full_step none_kept h.shape)

      served_shape : (o : Option Request) → HasBoardShape b (served_by b map' k m.world o).world.book
      served_shape None = h.shape
      served_shape (Some request) = shape_kept b images map' valid is k request m.world h.shape

      turn_shape : (row : CoreRow) → HasBoardShape b (core_turn b map' k row c m.world).world.book
      unfolding core_turn
      turn_shape row = served_shape (wants b map' k row m.world.book c)

      step_is : (row : CoreRow) → IsStep b map' k (others b m.cores k) m.world.book f.world.memory (core_turn b map' k row c m.world) (picked (core_turn b map' k row c m.world).act)
      step_is row =
          turn_step b map' k (others b m.cores k) c m.world.book m.world.memory f.world.memory (laid_out b images map' valid is) (some_sets b valid k (core_within k c there)) alone apart solo (h.codes k c there) (fresh k c there) rivals
          (λ a value width e. put_exchange b images map' valid is k (core_within k c there) (world_of f.world.memory m.world.book) c.front.past h.shape h.kept.posted a value width e)
          (λ a width e. got_exchange b images map' valid is k (core_within k c there) (world_of f.world.memory m.world.book) c.front.past h.shape h.kept.posted a width e)
          row

      room_keeps : (row : CoreRow) (request : Request) (x : Bool) → c.front.stop ≡ None → let t : CoreTurn = core_turn b map' k row c m.world in let n : Made = cond x (entered m k t (entry_of k c t request)) (full_made m k c) in IsAlong b map' first n.machine (after b map' f n.act)
      room_keeps row request true e =
          let t = core_turn b map' k row c m.world in
          act_keeps t (m.entries ++ entry_of k c t request ∷ []) m.script t.act (step_is row).its e (turn_shape row) (step_is row)
      room_keeps row request false e = full_keeps

      made_keeps : (row : CoreRow) (o : Option Request) → c.front.stop ≡ None → let n : Made = made_by b m k c (core_turn b map' k row c m.world) o in IsAlong b map' first n.machine (after b map' f n.act)
      made_keeps row None e = let t = core_turn b map' k row c m.world in act_keeps t m.entries m.script t.act (step_is row).its e (turn_shape row) (step_is row)
      made_keeps row (Some request) e = room_keeps row request (has_room b m) e

      stop_none : (x : Option Stop) (y : Option Ended) → option_or x (ended_stop y) ≡ None → x ≡ None
      stop_none None y e = refl
      stop_none (Some stop) y e = absurd (cc)

      core_keeps : (row : CoreRow) (o : Option Stop) → stop_of c ≡ o → let n : Made = core_made b map' m k row c o in IsAlong b map' first n.machine (after b map' f n.act)
      core_keeps row (Some stop) e = h
      core_keeps row None e = made_keeps row (core_turn b map' k row c m.world).request (stop_none c.front.stop c.ended e)

    of_keeps : (k : ℕ) (row : Option CoreRow) (o : Option Core) → slice_get m.cores k ≡ o → let n : Made = core_of b map' m k row o in IsAlong b map' first n.machine (after b map' f n.act)
    of_keeps k None o e = h
    of_keeps k (Some row) None e = h
    of_keeps k (Some row) (Some c) e = core_keeps k c e row (stop_of c) refl

    -- an event
    event_memory : (event : DeviceEvent) (w : World) → (transferred b map' (length b.core) w (request_for event)).world.memory ≡ w.memory
    unfolding transferred served
    event_memory (events.Tick n) w = refl
    event_memory (events.Receive uart) w = refl
    event_memory (events.Drain uart) w = refl

    event_owned : (event : DeviceEvent) (w : World) (j : ℕ) (g : Guard) → owned_by b (transferred b map' (length b.core) w (request_for event)).world.book j g ≡ owned_by b w.book j g
    unfolding transferred served
    event_owned (events.Tick n) w j (guard_kinds.Mutex i) = refl
    event_owned (events.Tick n) w j (guard_kinds.Passed r) = refl
    event_owned (events.Receive uart) w j (guard_kinds.Mutex i) = refl
    event_owned (events.Receive uart) w j (guard_kinds.Passed r) = refl
    event_owned (events.Drain uart) w j (guard_kinds.Mutex i) = refl
    event_owned (events.Drain uart) w j (guard_kinds.Passed r) = refl

    event_book : (event : DeviceEvent) (w v : World) → w.book ≡ v.book → (transferred b map' (length b.core) w (request_for event)).world.book ≡ (transferred b map' (length b.core) v (request_for event)).world.book
    unfolding transferred served
    event_book (events.Tick n) w v e = ap (λ (y : Book). (transferred b map' (length b.core) (world_of v.memory y) (request_for (events.Tick n))).world.book) e
    event_book (events.Receive uart) w v e = ap (λ (y : Book). (transferred b map' (length b.core) (world_of v.memory y) (request_for (events.Receive uart))).world.book) e
    event_book (events.Drain uart) w v e = ap (λ (y : Book). (transferred b map' (length b.core) (world_of v.memory y) (request_for (events.Drain uart))).world.book) e

    event_keeps : (event : DeviceEvent) (es : List Entry) (script : List DeviceEvent) → IsAlong b map' first (record { world = (transferred b map' (length b.core) m.world (request_for event)).world; cores = m.cores; entries = es; script = script }) (record { world = (transferred b map' (length b.core) f.world (request_for event)).world; cores = f.cores })
    event_keeps event es script =
        let t = transferred b map' (length b.core) m.world (request_for event) in
        let u = transferred b map' (length b.core) f.world (request_for event) in
        let p : t.world.memory ≡ m.world.memory = event_memory event m.world in
        let q : u.world.memory ≡ f.world.memory = event_memory event f.world in
        record {
          fronts = h.fronts;
          book_is = event_book event f.world m.world h.book_is;
          count = h.count;
          mem_of = subst (λ (x : Contents). IsOf b.memory x) (sym p) h.mem_of;
          flat_of = subst (λ (x : Contents). IsOf b.memory x) (sym q) h.flat_of;
          shape = shape_kept b images map' valid is (length b.core) (request_for event) m.world h.shape;
          memory = λ l here all. ap (λ (x : Contents). line_at x l) p ∙ h.memory l here all ∙ sym (ap (λ (x : Contents). line_at x l) q);
          cores = λ j x e. subst (λ (y : Contents). IsOwnWell b map' (owned_by b t.world.book j) y j (sets_of b j) x.data_slots x.front.past) (sym q)
              (own_frame b map' (owned_by b m.world.book j) (owned_by b t.world.book j) f.world.memory f.world.memory j (sets_of b j) x.data_slots x.front.past
              (λ l here r. (sym (read-like (class_of map' l) j (owned_by b m.world.book j) (owned_by b t.world.book j) (event_owned event m.world j)) ∙ r, refl)) (h.cores j x e));
          codes = λ j x e. subst (λ (y : Contents). AreCodesWell b map' y x.code_slots) (sym q) (h.codes j x e);
          kept = event_kept b images map' valid is event m.world (pasts_of f.cores) h.shape h.kept;
          code_lines = λ l here e. ap (λ (x : Contents). line_at x l) q ∙ h.code_lines l here e;
        }

    script_room : (event : DeviceEvent) (script : List DeviceEvent) (x : Bool) → let n : Made = cond x (event_made b m event script (transferred b map' (length b.core) m.world (request_for event))) (unmoved m) in IsAlong b map' first n.machine (after b map' f n.act)
    unfolding act
    script_room event script true = event_keeps event (m.entries ++ record { actor = length b.core; local = 0; request = request_for event; reply = (transferred b map' (length b.core) m.world (request_for event)).reply } ∷ []) script
    script_room event script false = h

    script_keeps : (script : List DeviceEvent) → let n : Made = script_made b map' m script in IsAlong b map' first n.machine (after b map' f n.act)
    script_keeps [] = h
    script_keeps (event ∷ script) = script_room event script (has_room b m)

    actor_keeps : (actor : ℕ) (x : Bool) → let n : Made = cond x (script_made b map' m m.script) (core_of b map' m actor (slice_get b.core actor) (slice_get m.cores actor)) in IsAlong b map' first n.machine (after b map' f n.act)
    actor_keeps actor true = script_keeps m.script
    actor_keeps actor false = of_keeps actor (slice_get b.core actor) (slice_get m.cores actor) refl

    -- a turn of any actor, beside its act
    pub turn_keeps : (actor : ℕ) → IsAlong b map' first (turn b map' m actor).machine (after b map' f (turn b map' m actor).act)
    unfolding turn
    turn_keeps actor = actor_keeps actor (eqb actor (length b.core))

  acts_flat : (f : Flat) (o : Option Act) (rest : List Act) → flat b map' f (made_act o rest) ≡ flat b map' (after b map' f o) rest
  unfolding flat
  acts_flat f None rest = refl
  acts_flat f (Some made) rest = refl

  -- a run, beside its acts
  pub run_keeps : (order : List ℕ) (m : Machine) (f : Flat) → IsAlong b map' first m f → IsAlong b map' first (run b map' m order) (flat b map' f (acts b map' m order))
  unfolding run acts flat
  run_keeps [] m f h = h
  run_keeps (actor ∷ order) m f h =
      subst (λ (v : Flat). IsAlong b map' first (run b map' (turn b map' m actor).machine order) v) (sym (acts_flat f (turn b map' m actor).act (acts b map' (turn b map' m actor).machine order)))
      (run_keeps order (turn b map' m actor).machine (after b map' f (turn b map' m actor).act) (turn_keeps m f h actor))
