-- What each turn makes of the book and of past events, whatever the caches hold: it keeps what they keep by themselves, and
-- leaves to the other cores what is theirs.
use Rattle.std.proofs.Common.{◌≡◌, ◌≢◌, ℕ, ◌<◌, Bool, true, false, cond, eqb, List, [], ◌∷◌, ◌++◌, length, slice_get, slice_set, Option, Some, None, refl, ap, sym, ◌∙◌, arith, subst, length-set}
use Rattle.std.specs.Prelude.{option_map}
use Rattle.std.proofs.lemmas.List.{length-map}
use Rattle.std.proofs.lemmas.Option.{slice_get-map}
use Rattle.n2_word.specs.declared.Width.TheVariants.{Word}
use Rattle.n2_word.specs.Lines.{line}
use Rattle.n2_insn.specs.declared.DataOp.{DataOp}
use Rattle.n2_insn.specs.declared.DataOp.TheVariants.{Initd, Initda, Flushd, Flushda}
use Rattle.n2_exec.specs.declared.Outcome.{Outcome}
use Rattle.n2_exec.specs.Registers.{is_waiting}
use Rattle.n2_exec.specs.Outcomes.{regs_of, asked_of}
use Rattle.n2_exec.specs.Effect.{effect_of_word}
use Rattle.n2_elf.specs.declared.image.Image.{Image}
use Rattle.n2_parts.specs.declared.board.Board.{Board}
use Rattle.n2_parts.specs.declared.board.CoreRow.{CoreRow}
use Rattle.n2_parts.specs.declared.board.DeviceEvent.{DeviceEvent}
use Rattle.n2_parts.specs.declared.board.DeviceEvent.TheVariants as events
use Rattle.n2_parts.specs.declared.stops.Stop.{Stop}
use Rattle.n2_parts.specs.Valid.{IsValid}
use Rattle.n2_board.specs.AddressMap.{AddressMap, address_map}
use Rattle.n2_dcache.specs.declared.Held.{Held}
use Rattle.n2_dcache.specs.Cache.{slot_at, own_set, has_line, found}
use Rattle.n2_bus.specs.declared.request.Request.{Request}
use Rattle.n2_bus.specs.Transfer.{request_for}
use Rattle.n2_journal.specs.declared.entry.Entry.{Entry}
use Rattle.n2_watch.specs.declared.past.Past.{Past}
use Rattle.n2_watch.specs.declared.past.Past.TheVariants.{Clean}
use Rattle.n2_watch.specs.declared.access.Access.TheVariants.{Fetch}
use Rattle.n2_watch.specs.Discipline.{Breach, breach}
use Rattle.n2_watch.specs.Book.{start_book}
use Rattle.n2_watch.specs.World.{World, Transferred, transferred}
use Rattle.n2_watch.specs.Kept.{IsPosted, IsKept}
use Rattle.n2_watch.specs.Shapes.{HasBoardShape, is_access}
use Rattle.n2_watch.proofs.KeptDevices.{owned_like, pointer_like}
use Rattle.n2_watch.proofs.KeptTransfers.{other_request}
use Rattle.n2_watch.proofs.KeptSteps.{request_kept}
use Rattle.n2_watch.proofs.KeptShapes.{shape_kept, start_shape}
use Rattle.n2_front.specs.Front.{Front, with_regs}
use Rattle.n2_front.specs.Tasks as tasks
use Rattle.n2_front.specs.Tasks.{Task, task_of, task_breach}
use Rattle.n2_front.specs.Retire.{who, done}
use Rattle.n2_front.specs.Core.{Core, TurnKind, SampleTurn, EvictTurn, StepTurn, turn_kind, stop_of, log_full}
use Rattle.n2_front.specs.Turn.{Intent, Samples, Evicts, Interrupts, Stops, FillsCode, Does, judged_task, executes, with_code, fetches, steps, intent_by, intent, back, filled_or, wants_line, wants_op, wants_by, wants, Turned, with_line, is_in_way, emptied, loads, stores, answered, CoreTurn, served_by, core_turn}
use Rattle.n2_front.proofs.KeptActs.{task_kept}
use Rattle.n2_front.proofs.Others.{IsLeft, done_left}
use Rattle.n2_runs.specs.Machine.{Machine, unmoved, has_room, entry_of, entered, full_made, made_by, core_made, core_of, event_made, script_made, start, turn, run}
use Rattle.n2_runs.specs.Agree.{fronts_of, pasts_of}
use Rattle.n2_runs.specs.Knows.{KnowsSame, IsBookKept}
use Rattle.n2_runs.proofs.Lists.{slice_get-set_other, slice_set-same, map-slice_set}
use Rattle.n2_runs.proofs.Sets.{within}
use Rattle.n2_runs.proofs.Begins.{same_fronts, as_many, kept_started}

abbrev front_of : Core → Front
front_of c = c.front

abbrev past_of : Front → List Past
past_of f = f.past

-- ---- which requests turns make: of lines, beside those of loads and stores past the caches
abbrev IsOfLine : Option Request → Type 0
IsOfLine None = Unit {0}
IsOfLine (Some request) = is_access request ≡ false

back_line : (o : Option Held) → IsOfLine (back o)
back_line None = tt
back_line (Some held) = at held.dirty
  where
    at : (x : Bool) → IsOfLine (cond x (back (Some (record { line = held.line; words = held.words; dirty = true }))) None)
    at true = refl
    at false = tt

filled_line : (number : ℕ) (o : Option Request) → IsOfLine o → IsOfLine (filled_or number o)
filled_line number None h = refl
filled_line number (Some request) h = h

either_line : (x : Bool) (o p : Option Request) → IsOfLine o → IsOfLine p → IsOfLine (cond x o p)
either_line true o p h i = h
either_line false o p h i = i

missing_line : (slots : List (Option Held)) (number : ℕ) → IsOfLine (wants_line slots number)
missing_line slots number =
    either_line (has_line slots number) None (filled_or number (back (slot_at slots (own_set slots number)))) tt
    (filled_line number (back (slot_at slots (own_set slots number))) (back_line (slot_at slots (own_set slots number))))

op_line : (slots : List (Option Held)) (op : DataOp) (address : ℕ) → IsOfLine (wants_op slots op address)
op_line slots Initd address = tt
op_line slots Initda address = tt
op_line slots Flushd address = back_line (slot_at slots (own_set slots (line address)))
op_line slots Flushda address =
    either_line (has_line slots (line address)) (back (slot_at slots (own_set slots (line address)))) None (back_line (slot_at slots (own_set slots (line address)))) tt

module _ (b : Board) (images : List Image) (map : AddressMap) (valid : IsValid b) (is : map ≡ address_map b images) where
  -- ---- requests of lines, and events
  request_left : (k actor : ℕ) (w : World) (request : Request) → is_access request ≡ false → IsLeft b k w.book (transferred b map actor w request).world.book
  request_left k actor w request e =
      let x = other_request b map actor w request e in
      record {
        guards = λ j guard lt n. owned_like b w.book (transferred b map actor w request).world.book j x.mutexes x.holders guard;
        pointers = λ index row found n. pointer_like w.book (transferred b map actor w request).world.book index x.mailboxes;
      }

  module _ (k : ℕ) (w : World) where
    same_left : IsLeft b k w.book w.book
    same_left = record { guards = λ j guard lt n. refl; pointers = λ index row e n. refl }

    served_left : (o : Option Request) → IsOfLine o → IsLeft b k w.book (served_by b map k w o).world.book
    served_left None h = same_left
    served_left (Some request) h = request_left k k w request h

    served_kept : (o : Option Request) → IsOfLine o → (pasts : List (List Past)) → IsKept b map w.book pasts → IsKept b map (served_by b map k w o).world.book pasts
    served_kept None h pasts kept = kept
    served_kept (Some request) h pasts kept = request_kept b map k w pasts request h kept

    served_shape : (o : Option Request) → HasBoardShape b w.book → HasBoardShape b (served_by b map k w o).world.book
    served_shape None shape = shape
    served_shape (Some request) shape = shape_kept b map k w request shape

    module _ (c : Core) where
      -- ---- what a core is about to do breaks nothing
      abbrev IsLet : Intent → Type 0
      IsLet Samples = Unit {0}
      IsLet (Evicts set) = Unit {0}
      IsLet Interrupts = Unit {0}
      IsLet (Stops stop) = Unit {0}
      IsLet (FillsCode number) = Unit {0}
      IsLet (Does f task) = (f.past ≡ c.front.past) × (task_breach b map (who b k f w.book) task ≡ None)

      judged_let : (f : Front) (word : ℕ) (task : Task) (o : Option Breach) → f.past ≡ c.front.past → task_breach b map (who b k f w.book) task ≡ o → IsLet (judged_task f word task o)
      judged_let f word task None p e = (p, e)
      judged_let f word task (Some why) p e = tt

      executes_let : (word : ℕ) (outcome : Outcome) → IsLet (executes b map k w.book c.front word outcome)
      unfolding executes
      executes_let word outcome =
          let f = with_regs c.front (regs_of c.front.regs outcome) in
          let task = task_of (asked_of outcome) in
          judged_let f word task (task_breach b map (who b k f w.book) task) refl refl

      code_let : (o : Option ℕ) → IsLet (with_code b map k w.book c.front o)
      code_let None = tt
      code_let (Some word) = executes_let word (effect_of_word c.front.regs word)

      fetches_let : (o : Option Breach) → IsLet (fetches b map k w.book c o)
      fetches_let None = code_let (found c.code_slots c.front.regs.pc Word)
      fetches_let (Some why) = tt

      waits_let : (x : Bool) (o : Option Breach) → IsLet (cond x Interrupts (fetches b map k w.book c o))
      waits_let true o = tt
      waits_let false o = fetches_let o

      kind_let : (row : CoreRow) (kind : TurnKind) → IsLet (intent_by b map k row w.book c kind)
      unfolding steps
      kind_let row SampleTurn = tt
      kind_let row EvictTurn = tt
      kind_let row StepTurn = waits_let (is_waiting c.front.regs) (breach b map (who b k c.front w.book) (Fetch c.front.regs.pc) Word)

      intent_let : (row : CoreRow) → IsLet (intent b map k row w.book c)
      intent_let row = kind_let row (turn_kind row c.turns)

      -- ---- what it leaves to the others
      module _ (klt : k < length b.core) (shape : HasBoardShape b w.book) (posted : IsPosted map w.book) where
        intent_left : (i : Intent) → IsLet i → IsLeft b k w.book (served_by b map k w (wants_by c.data_slots i)).world.book
        intent_left Samples h = served_left (wants_by c.data_slots Samples) refl
        intent_left (Evicts set) h = served_left (wants_by c.data_slots (Evicts set)) (back_line (slot_at c.data_slots set))
        intent_left Interrupts h = same_left
        intent_left (Stops stop) h = same_left
        intent_left (FillsCode number) h = served_left (wants_by c.data_slots (FillsCode number)) refl
        intent_left (Does f tasks.Done) h = same_left
        intent_left (Does f tasks.Raise) h = same_left
        intent_left (Does f tasks.Break) h = same_left
        intent_left (Does f (tasks.CodeOp a)) h = same_left
        intent_left (Does f (tasks.LineOp op a)) h = served_left (wants_op c.data_slots op a) (op_line c.data_slots op a)
        intent_left (Does f (tasks.Load a width signed to)) h = served_left (wants_line c.data_slots (line a)) (missing_line c.data_slots (line a))
        intent_left (Does f (tasks.Store a width value)) h = served_left (wants_line c.data_slots (line a)) (missing_line c.data_slots (line a))
        intent_left (Does f (tasks.LoadPast a width signed to)) h = done_left b images map k w valid is klt shape posted f (tasks.LoadPast a width signed to) h.1
        intent_left (Does f (tasks.StorePast a width value)) h = done_left b images map k w valid is klt shape posted f (tasks.StorePast a width value) h.1

        pub turn_left : (row : CoreRow) → IsLeft b k w.book (core_turn b map k row c w).world.book
        unfolding core_turn
        turn_left row = intent_left (intent b map k row w.book c) (intent_let row)

      pub turn_shape : (row : CoreRow) → HasBoardShape b w.book → HasBoardShape b (core_turn b map k row c w).world.book
      unfolding core_turn
      turn_shape row shape = served_shape (wants b map k row w.book c) shape

      -- ---- what it keeps
      module _ (pasts : List (List Past)) (shape : HasBoardShape b w.book) (count : length pasts ≡ length b.core) (there : slice_get pasts k ≡ Some c.front.past) (kept : IsKept b map w.book pasts) where
        still_kept : IsKept b map w.book (slice_set pasts k c.front.past)
        still_kept = subst (λ (ps : List (List Past)). IsKept b map w.book ps) (sym (slice_set-same pasts k c.front.past there)) kept

        did_kept : (f : Front) (task : Task) → f.past ≡ c.front.past → task_breach b map (who b k f w.book) task ≡ None → IsKept b map (done b map k f w task).world.book (slice_set pasts k (done b map k f w task).front.past)
        did_kept f task p e = task_kept b images map k f w pasts task valid is shape count (there ∙ ap (λ (past : List Past). Some past) (sym p)) kept e

        -- a load or a store, or a line that goes first
        either_kept : (x : Bool) (o : Option Request) → IsOfLine o → (u v : Turned) → u.front ≡ c.front → IsKept b map w.book (slice_set pasts k v.front.past) → IsKept b map (served_by b map k w o).world.book (slice_set pasts k (cond x u v).front.past)
        either_kept true o h u v e i = served_kept o h (slice_set pasts k u.front.past) (subst (λ (f : Front). IsKept b map w.book (slice_set pasts k f.past)) (sym e) still_kept)
        either_kept false o h u v e i = served_kept o h (slice_set pasts k v.front.past) i

        abbrev served_for : Intent → Transferred
        served_for i = served_by b map k w (wants_by c.data_slots i)

        intent_kept : (i : Intent) → IsLet i → IsKept b map (served_for i).world.book (slice_set pasts k (answered b map k c w (served_for i) i).front.past)
        intent_kept Samples h = served_kept (wants_by c.data_slots Samples) refl (slice_set pasts k c.front.past) still_kept
        intent_kept (Evicts set) h = served_kept (back (slot_at c.data_slots set)) (back_line (slot_at c.data_slots set)) (slice_set pasts k c.front.past) still_kept
        intent_kept Interrupts h = still_kept
        intent_kept (Stops stop) h = still_kept
        intent_kept (FillsCode number) h = served_kept (wants_by c.data_slots (FillsCode number)) refl (slice_set pasts k c.front.past) still_kept
        intent_kept (Does f tasks.Done) h = did_kept f tasks.Done h.0 h.1
        intent_kept (Does f tasks.Raise) h = did_kept f tasks.Raise h.0 h.1
        intent_kept (Does f tasks.Break) h = did_kept f tasks.Break h.0 h.1
        intent_kept (Does f (tasks.CodeOp a)) h = did_kept f (tasks.CodeOp a) h.0 h.1
        intent_kept (Does f (tasks.LineOp op a)) h =
            served_kept (wants_op c.data_slots op a) (op_line c.data_slots op a) (slice_set pasts k (Clean op a ∷ f.past)) (did_kept f (tasks.LineOp op a) h.0 h.1)
        intent_kept (Does f (tasks.Load a width signed to)) h =
            let o = wants_line c.data_slots (line a) in
            let t = served_by b map k w o in
            either_kept (is_in_way c.data_slots (line a)) o (missing_line c.data_slots (line a)) (emptied c (own_set c.data_slots (line a))) (loads c k f a width signed to (with_line c.data_slots (line a) t.reply)) refl (did_kept f (tasks.Load a width signed to) h.0 h.1)
        intent_kept (Does f (tasks.Store a width value)) h =
            let o = wants_line c.data_slots (line a) in
            let t = served_by b map k w o in
            either_kept (is_in_way c.data_slots (line a)) o (missing_line c.data_slots (line a)) (emptied c (own_set c.data_slots (line a))) (stores c k f a width value (with_line c.data_slots (line a) t.reply)) refl (did_kept f (tasks.Store a width value) h.0 h.1)
        intent_kept (Does f (tasks.LoadPast a width signed to)) h = did_kept f (tasks.LoadPast a width signed to) h.0 h.1
        intent_kept (Does f (tasks.StorePast a width value)) h = did_kept f (tasks.StorePast a width value) h.0 h.1

        pub turn_kept : (row : CoreRow) → IsKept b map (core_turn b map k row c w).world.book (slice_set pasts k (core_turn b map k row c w).core.front.past)
        unfolding core_turn
        turn_kept row = intent_kept (intent b map k row w.book c) (intent_let row)

  -- ---- events
  event_is : (event : DeviceEvent) → is_access (request_for event) ≡ false
  event_is (events.Tick n) = refl
  event_is (events.Receive uart) = refl
  event_is (events.Drain uart) = refl

  -- ---- the machine
  module _ (m : Machine) (h : IsBookKept b map m) where
    abbrev pasts : List (List Past)
    pasts = pasts_of (fronts_of m.cores)

    module _ (k : ℕ) (c : Core) (there : slice_get m.cores k ≡ Some c) where
      count : length pasts ≡ length b.core
      count = length-map (fronts_of m.cores) past_of ∙ length-map m.cores front_of ∙ h.count

      past_there : slice_get pasts k ≡ Some c.front.past
      past_there = slice_get-map past_of (fronts_of m.cores) k ∙ ap (option_map past_of) (slice_get-map front_of m.cores k ∙ ap (option_map front_of) there)

      klt : k < length b.core
      klt = let lt = within m.cores k c there in omega (arith, h.count)

      with_core : (w : World) (d : Core) (es : List Entry) (script : List DeviceEvent) → HasBoardShape b w.book → IsKept b map w.book (slice_set pasts k d.front.past) → IsBookKept b map (record { world = w; cores = slice_set m.cores k d; entries = es; script = script })
      with_core w d es script shape kept = record {
        count = length-set m.cores k d ∙ h.count;
        shape = shape;
        kept = subst (λ (ps : List (List Past)). IsKept b map w.book ps) (sym (ap pasts_of (map-slice_set front_of m.cores k d) ∙ map-slice_set past_of (fronts_of m.cores) k d.front)) kept;
      }

      module _ (row : CoreRow) where
        abbrev t : CoreTurn
        t = core_turn b map k row c m.world

        turned_kept : (es : List Entry) (script : List DeviceEvent) → IsBookKept b map (record { world = t.world; cores = slice_set m.cores k t.core; entries = es; script = script })
        turned_kept es script = with_core t.world t.core es script (turn_shape k m.world c row h.shape) (turn_kept k m.world c pasts h.shape count past_there h.kept row)

        room_kept : (request : Request) (x : Bool) → IsBookKept b map (cond x (entered m k t (entry_of k c t request)) (full_made m k c)).machine
        room_kept request true = turned_kept (m.entries ++ entry_of k c t request ∷ []) m.script
        room_kept request false = with_core m.world (log_full c) m.entries m.script h.shape (still_kept k m.world c pasts h.shape count past_there h.kept)

        made_kept : (o : Option Request) → IsBookKept b map (made_by b m k c t o).machine
        made_kept None = turned_kept m.entries m.script
        made_kept (Some request) = room_kept request (has_room b m)

        made_left : (o : Option Request) → IsLeft b k m.world.book (made_by b m k c t o).machine.world.book
        made_left None = turn_left k m.world c klt h.shape h.kept.posted row
        made_left (Some request) = at (has_room b m)
          where
            at : (x : Bool) → IsLeft b k m.world.book (cond x (entered m k t (entry_of k c t request)) (full_made m k c)).machine.world.book
            at true = turn_left k m.world c klt h.shape h.kept.posted row
            at false = same_left k m.world

        stop_kept : (stop : Option Stop) → IsBookKept b map (core_made b map m k row c stop).machine
        stop_kept None = made_kept t.request
        stop_kept (Some stop) = h

        stop_left : (stop : Option Stop) → IsLeft b k m.world.book (core_made b map m k row c stop).machine.world.book
        stop_left None = made_left t.request
        stop_left (Some stop) = same_left k m.world

    core_kept : (k : ℕ) (row : Option CoreRow) (c : Option Core) → slice_get m.cores k ≡ c → IsBookKept b map (core_of b map m k row c).machine
    core_kept k None c e = h
    core_kept k (Some row) None e = h
    core_kept k (Some row) (Some c) e = stop_kept k c e row (stop_of c)

    core_left : (k : ℕ) (row : Option CoreRow) (c : Option Core) → slice_get m.cores k ≡ c → IsLeft b k m.world.book (core_of b map m k row c).machine.world.book
    core_left k None c e = same_left k m.world
    core_left k (Some row) None e = same_left k m.world
    core_left k (Some row) (Some c) e = stop_left k c e row (stop_of c)

    event_kept : (event : DeviceEvent) (script : List DeviceEvent) (x : Bool) → IsBookKept b map (cond x (event_made b m event script (transferred b map (length b.core) m.world (request_for event))) (unmoved m)).machine
    event_kept event script true = record {
      count = h.count;
      shape = shape_kept b map (length b.core) m.world (request_for event) h.shape;
      kept = request_kept b map (length b.core) m.world pasts (request_for event) (event_is event) h.kept;
    }
    event_kept event script false = h

    event_left : (actor : ℕ) (event : DeviceEvent) (script : List DeviceEvent) (x : Bool) → IsLeft b actor m.world.book (cond x (event_made b m event script (transferred b map (length b.core) m.world (request_for event))) (unmoved m)).machine.world.book
    event_left actor event script true = request_left actor (length b.core) m.world (request_for event) (event_is event)
    event_left actor event script false = same_left actor m.world

    script_kept : (script : List DeviceEvent) → IsBookKept b map (script_made b map m script).machine
    script_kept [] = h
    script_kept (event ∷ script) = event_kept event script (has_room b m)

    script_left : (actor : ℕ) (script : List DeviceEvent) → IsLeft b actor m.world.book (script_made b map m script).machine.world.book
    script_left actor [] = same_left actor m.world
    script_left actor (event ∷ script) = event_left actor event script (has_room b m)

    actor_kept : (actor : ℕ) (x : Bool) → IsBookKept b map (cond x (script_made b map m m.script) (core_of b map m actor (slice_get b.core actor) (slice_get m.cores actor))).machine
    actor_kept actor true = script_kept m.script
    actor_kept actor false = core_kept actor (slice_get b.core actor) (slice_get m.cores actor) refl

    actor_left : (actor : ℕ) (x : Bool) → IsLeft b actor m.world.book (cond x (script_made b map m m.script) (core_of b map m actor (slice_get b.core actor) (slice_get m.cores actor))).machine.world.book
    actor_left actor true = script_left actor m.script
    actor_left actor false = core_left actor (slice_get b.core actor) (slice_get m.cores actor) refl

    pub book_kept : (actor : ℕ) → IsBookKept b map (turn b map m actor).machine
    unfolding turn
    book_kept actor = actor_kept actor (eqb actor (length b.core))

    book_left : (actor : ℕ) → IsLeft b actor m.world.book (turn b map m actor).machine.world.book
    unfolding turn
    book_left actor = actor_left actor (eqb actor (length b.core))

    -- each other core knows the same afterwards
    pub known_same : (actor j : ℕ) → j < length b.core → j ≢ actor → KnowsSame b j m.world.book (turn b map m actor).machine.world.book
    known_same actor j lt n =
        let x = book_left actor in
        record {
          guards = λ guard. x.guards j guard lt n;
          pointers = λ index row found sends. x.pointers index row found (λ e. n (sym sends ∙ e));
        }

  pub run_kept : (order : List ℕ) (m : Machine) → IsBookKept b map m → IsBookKept b map (run b map m order)
  unfolding run
  run_kept [] m h = h
  run_kept (actor ∷ order) m h = run_kept order (turn b map m actor).machine (book_kept m h actor)

-- ---- the cores
module _ (b : Board) (map : AddressMap) (m : Machine) (actor j : ℕ) (n : j ≢ actor) where
  abbrev IsSame : Machine → Type 0
  IsSame x = slice_get x.cores j ≡ slice_get m.cores j

  set_same : (w : World) (d : Core) (es : List Entry) (script : List DeviceEvent) → IsSame (record { world = w; cores = slice_set m.cores actor d; entries = es; script = script })
  set_same w d es script = slice_get-set_other m.cores actor j d n

  room_same : (c : Core) (t : CoreTurn) (request : Request) (x : Bool) → IsSame (cond x (entered m actor t (entry_of actor c t request)) (full_made m actor c)).machine
  room_same c t request true = set_same t.world t.core (m.entries ++ entry_of actor c t request ∷ []) m.script
  room_same c t request false = set_same m.world (log_full c) m.entries m.script

  made_same : (c : Core) (t : CoreTurn) (o : Option Request) → IsSame (made_by b m actor c t o).machine
  made_same c t None = set_same t.world t.core m.entries m.script
  made_same c t (Some request) = room_same c t request (has_room b m)

  stop_same : (row : CoreRow) (c : Core) (stop : Option Stop) → IsSame (core_made b map m actor row c stop).machine
  stop_same row c None = made_same c (core_turn b map actor row c m.world) (core_turn b map actor row c m.world).request
  stop_same row c (Some stop) = refl

  core_same : (row : Option CoreRow) (c : Option Core) → IsSame (core_of b map m actor row c).machine
  core_same None c = refl
  core_same (Some row) None = refl
  core_same (Some row) (Some c) = stop_same row c (stop_of c)

  event_same : (event : DeviceEvent) (script : List DeviceEvent) (x : Bool) → IsSame (cond x (event_made b m event script (transferred b map (length b.core) m.world (request_for event))) (unmoved m)).machine
  event_same event script true = refl
  event_same event script false = refl

  script_same : (script : List DeviceEvent) → IsSame (script_made b map m script).machine
  script_same [] = refl
  script_same (event ∷ script) = event_same event script (has_room b m)

  actor_same : (x : Bool) → IsSame (cond x (script_made b map m m.script) (core_of b map m actor (slice_get b.core actor) (slice_get m.cores actor))).machine
  actor_same true = script_same m.script
  actor_same false = core_same (slice_get b.core actor) (slice_get m.cores actor)

  pub other_core : slice_get (turn b map m actor).machine.cores j ≡ slice_get m.cores j
  unfolding turn
  other_core = actor_same (eqb actor (length b.core))

-- ---- the start
pub start_kept : (b : Board) (images : List Image) (map : AddressMap) → length images ≡ length b.core → IsBookKept b map (start b images)
start_kept b images map long = record {
  count = as_many b.core images long;
  shape = start_shape b;
  kept = subst (λ (fs : List Front). IsKept b map (start_book b) (pasts_of fs)) (same_fronts b.core images) (kept_started b map images);
}
