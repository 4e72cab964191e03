-- A turn that stops its core changes nothing else.
use Rattle.std.proofs.Common.{◌≡◌, ℕ, ◌<◌, Bool, true, false, cond, eqb, length, slice_get, slice_set, Option, Some, None, refl, ap, sym, ◌∙◌, arith}
use Rattle.std.specs.Option.{option_or}
use Rattle.std.proofs.lemmas.Bool.Decides.{nat_tests}
use Rattle.n2_word.specs.declared.Width.TheVariants.{Word}
use Rattle.n2_word.specs.Lines.{line}
use Rattle.n2_exec.specs.declared.Outcome.{Outcome}
use Rattle.n2_exec.specs.declared.Outcome.TheVariants as outcomes
use Rattle.n2_exec.specs.Registers.{is_waiting}
use Rattle.n2_exec.specs.Outcomes.{regs_of, asked_of}
use Rattle.n2_exec.specs.Effect.{effect_of_word}
use Rattle.n2_parts.specs.declared.board.Board.{Board}
use Rattle.n2_parts.specs.declared.board.CoreRow.{CoreRow}
use Rattle.n2_parts.specs.declared.stops.Stop.{Stop}
use Rattle.n2_parts.specs.declared.stops.Stop.TheVariants.{Broke}
use Rattle.n2_parts.specs.declared.stops.Act.TheVariants.{Retire}
use Rattle.n2_board.specs.AddressMap.{AddressMap}
use Rattle.n2_dcache.specs.Cache.{own_set, found}
use Rattle.n2_bus.specs.declared.request.Request.{Request}
use Rattle.n2_bus.specs.Transfer.{line_reply, no_words}
use Rattle.n2_watch.specs.declared.access.Access.TheVariants.{Fetch}
use Rattle.n2_watch.specs.Discipline.{Breach, breach}
use Rattle.n2_watch.specs.World.{World}
use Rattle.n2_front.specs.Front.{Front, with_regs}
use Rattle.n2_front.specs.Tasks as tasks
use Rattle.n2_front.specs.Tasks.{Task, task_of, task_breach}
use Rattle.n2_front.specs.Retire.{who}
use Rattle.n2_front.specs.Core.{Core, TurnKind, SampleTurn, EvictTurn, StepTurn, turn_kind, stop_of, ended_stop, log_full}
use Rattle.n2_front.specs.Turn.{Intent, Samples, Evicts, Interrupts, Stops, FillsCode, Does, judged_task, executes, with_code, fetches, steps, intent_by, intent, wants_by, wants_line, Turned, with_line, is_in_way, emptied, loads, stores, CoreTurn, served_by, turn_with, core_turn}
use Rattle.n2_runs.specs.Machine.{Machine, has_room, entry_of, entered, full_made, made_by, script_made, core_of, turn}
use Rattle.n2_runs.specs.Knows.{only_stopped, with_stopped}
use Rattle.n2_runs.proofs.Lists.{slice_get-set_same}
use Rattle.n2_runs.proofs.Sets.{within}

none_stops : {P : Type 0} (now : Option Stop) (stop : Stop) → now ≡ None → now ≡ Some stop → P
none_stops now stop e d = let z : ◌≡◌ {A = Option Stop} None (Some stop) = sym e ∙ d in absurd (cc)

same_some : {X : Type 0} (x y : X) → ◌≡◌ {A = Option X} (Some x) (Some y) → x ≡ y
same_some x y e = grind arith

module _ (b : Board) (map : AddressMap) (k : ℕ) (c : Core) (w : World) (runs : c.front.stop ≡ None) where
  -- a core about to do a task stands where it stood, at `break` with all its registers
  abbrev IsFrom : Intent → Type 0
  IsFrom Samples = Unit {0}
  IsFrom (Evicts set) = Unit {0}
  IsFrom Interrupts = Unit {0}
  IsFrom (Stops stop) = Unit {0}
  IsFrom (FillsCode number) = Unit {0}
  IsFrom (Does f task) = (f.stop ≡ None) × (task ≡ tasks.Break → f ≡ c.front)

  judged_from : (f : Front) (word : ℕ) (task : Task) (o : Option Breach) → f.stop ≡ None → (task ≡ tasks.Break → f ≡ c.front) → IsFrom (judged_task f word task o)
  judged_from f word task None s e = (s, e)
  judged_from f word task (Some why) s e = tt

  outcome_from : (outcome : Outcome) → task_of (asked_of outcome) ≡ tasks.Break → with_regs c.front (regs_of c.front.regs outcome) ≡ c.front
  outcome_from (outcomes.Next regs) e = absurd (cc)
  outcome_from (outcomes.Load a width signed io to) e = refl
  outcome_from (outcomes.Store a width value io) e = refl
  outcome_from (outcomes.LineOp op a) e = refl
  outcome_from (outcomes.CodeOp a) e = refl
  outcome_from (outcomes.Raise cause) e = refl
  outcome_from outcomes.Broke e = refl

  executes_from : (word : ℕ) (outcome : Outcome) → IsFrom (executes b map k w.book c.front word outcome)
  unfolding executes
  executes_from word outcome =
      let f = with_regs c.front (regs_of c.front.regs outcome) in
      let task = task_of (asked_of outcome) in
      judged_from f word task (task_breach b map (who b k f w.book) task) runs (outcome_from outcome)

  code_from : (o : Option ℕ) → IsFrom (with_code b map k w.book c.front o)
  code_from None = tt
  code_from (Some word) = executes_from word (effect_of_word c.front.regs word)

  fetches_from : (o : Option Breach) → IsFrom (fetches b map k w.book c o)
  fetches_from None = code_from (found c.code_slots c.front.regs.pc Word)
  fetches_from (Some why) = tt

  waits_from : (x : Bool) (o : Option Breach) → IsFrom (cond x Interrupts (fetches b map k w.book c o))
  waits_from true o = tt
  waits_from false o = fetches_from o

  kind_from : (row : CoreRow) (kind : TurnKind) → IsFrom (intent_by b map k row w.book c kind)
  unfolding steps
  kind_from row SampleTurn = tt
  kind_from row EvictTurn = tt
  kind_from row StepTurn = waits_from (is_waiting c.front.regs) (breach b map (who b k c.front w.book) (Fetch c.front.regs.pc) Word)

  abbrev turn_for : Intent → CoreTurn
  turn_for i = turn_with b map k c w i (wants_by c.data_slots i) (served_by b map k w (wants_by c.data_slots i))

  abbrev stopped_turn : Stop → CoreTurn
  stopped_turn stop = record { core = only_stopped c stop; world = w; request = None; reply = line_reply no_words; act = Some (Retire k) }

  module _ (stop : Stop) where
    this_stop : (now : Stop) → ◌≡◌ {A = Option Stop} (Some now) (Some stop) → stopped_turn now ≡ stopped_turn stop
    this_stop now e = ap stopped_turn (same_some now stop e)

    neither_stops : {P : Type 0} (x : Bool) (u v : Turned) → u.front.stop ≡ None → v.front.stop ≡ None → (cond x u v).front.stop ≡ Some stop → P
    neither_stops true u v e f d = none_stops u.front.stop stop e d
    neither_stops false u v e f d = none_stops v.front.stop stop f d

    intent_stops : (i : Intent) → IsFrom i → (turn_for i).core.front.stop ≡ Some stop → turn_for i ≡ stopped_turn stop
    intent_stops Samples h e = none_stops c.front.stop stop runs e
    intent_stops (Evicts set) h e = none_stops c.front.stop stop runs e
    intent_stops Interrupts h e = none_stops c.front.stop stop runs e
    intent_stops (Stops now) h e = this_stop now e
    intent_stops (FillsCode number) h e = none_stops c.front.stop stop runs e
    intent_stops (Does f tasks.Done) h e = none_stops f.stop stop h.0 e
    intent_stops (Does f tasks.Raise) h e = none_stops f.stop stop h.0 e
    intent_stops (Does f tasks.Break) h e = ap (λ (g : Front). turn_for (Does g tasks.Break)) (h.1 refl) ∙ this_stop Broke e
    intent_stops (Does f (tasks.CodeOp a)) h e = none_stops f.stop stop h.0 e
    intent_stops (Does f (tasks.LineOp op a)) h e = none_stops f.stop stop h.0 e
    intent_stops (Does f (tasks.Load a width signed to)) h e =
        let t = served_by b map k w (wants_line c.data_slots (line a)) in
        neither_stops (is_in_way c.data_slots (line a)) (emptied c (own_set c.data_slots (line a))) (loads c k f a width signed to (with_line c.data_slots (line a) t.reply)) runs h.0 e
    intent_stops (Does f (tasks.Store a width value)) h e =
        let t = served_by b map k w (wants_line c.data_slots (line a)) in
        neither_stops (is_in_way c.data_slots (line a)) (emptied c (own_set c.data_slots (line a))) (stores c k f a width value (with_line c.data_slots (line a) t.reply)) runs h.0 e
    intent_stops (Does f (tasks.LoadPast a width signed to)) h e = none_stops f.stop stop h.0 e
    intent_stops (Does f (tasks.StorePast a width value)) h e = none_stops f.stop stop h.0 e

    pub turn_stops : (row : CoreRow) → (core_turn b map k row c w).core.front.stop ≡ Some stop → core_turn b map k row c w ≡ stopped_turn stop
    unfolding core_turn
    turn_stops row e = intent_stops (intent b map k row w.book c) (kind_from row (turn_kind row c.turns)) e

front_runs : (x : Option Stop) (y : Option Stop) → option_or x y ≡ None → x ≡ None
front_runs None y e = refl
front_runs (Some stop) y e = absurd (cc)

-- the machine after a turn that stops its core
module _ (b : Board) (map : AddressMap) (m : Machine) (k : ℕ) (c : Core) (there : slice_get m.cores k ≡ Some c) (front : c.front.stop ≡ None) (row : CoreRow) (stop : Stop) where
  abbrev Stopping : Machine → Type 0
  Stopping x = (d : Core) → slice_get x.cores k ≡ Some d → d.front.stop ≡ Some stop → x ≡ with_stopped m k c stop

  abbrev t : CoreTurn
  t = core_turn b map k row c m.world

  placed : (e d : Core) → slice_get (slice_set m.cores k e) k ≡ Some d → d.front.stop ≡ Some stop → e.front.stop ≡ Some stop
  placed e d h s = ap (λ (x : Core). x.front.stop) (same_some e d (sym (slice_get-set_same m.cores k c e there) ∙ h)) ∙ s

  room_stops : (request : Request) → t.request ≡ Some request → (x : Bool) → Stopping (cond x (entered m k t (entry_of k c t request)) (full_made m k c)).machine
  room_stops request is true d h s =
      let z : t.request ≡ None = ap (λ (u : CoreTurn). u.request) (turn_stops b map k c m.world front stop row (placed t.core d h s)) in
      absurd (cc)
  room_stops request is false d h s = none_stops c.front.stop stop front (placed (log_full c) d h s)

  made_stops : (o : Option Request) → t.request ≡ o → Stopping (made_by b m k c t o).machine
  made_stops None is d h s =
      ap (λ (u : CoreTurn). record { world = u.world; cores = slice_set m.cores k u.core; entries = m.entries; script = m.script })
      (turn_stops b map k c m.world front stop row (placed t.core d h s))
  made_stops (Some request) is d h s = room_stops request is (has_room b m) d h s

pub only_the_stop : (b : Board) (map : AddressMap) (m : Machine) (k : ℕ) (row : CoreRow) (c d : Core) (stop : Stop) → slice_get b.core k ≡ Some row → slice_get m.cores k ≡ Some c → stop_of c ≡ None → slice_get (turn b map m k).machine.cores k ≡ Some d → d.front.stop ≡ Some stop → (turn b map m k).machine ≡ with_stopped m k c stop
unfolding turn
only_the_stop b map m k row c d stop is there runs h s = go ∙ made_stops b map m k c there (front_runs c.front.stop (ended_stop c.ended) runs) row stop (core_turn b map k row c m.world).request refl d (ap (λ (x : Machine). slice_get x.cores k) (sym go) ∙ h) s
  where
    lt : k < length b.core
    lt = within b.core k row is

    apart : eqb k (length b.core) ≡ false
    apart = grind (arith, nat_tests, lt)

    go : (cond (eqb k (length b.core)) (script_made b map m m.script) (core_of b map m k (slice_get b.core k) (slice_get m.cores k))).machine ≡ (made_by b m k c (core_turn b map k row c m.world) (core_turn b map k row c m.world).request).machine
    go = rw (apart, is, there, runs) refl
