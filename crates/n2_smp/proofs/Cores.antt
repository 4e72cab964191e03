-- A turn of a core, over the parts of a machine that it uses.
use Rattle.std.proofs.Common.{◌≡◌, ℕ, zero, suc, ◌<◌, ◌++◌, Bool, true, false, cond, eqb, ltb, List, [], ◌∷◌, length, slice_get, slice_set, Option, Some, None, IsTrue, inl, inr, refl, ap, sym, ◌∙◌, arith, subst}
use Rattle.std.specs.Prelude.{is_some}
use Rattle.std.proofs.lemmas.Bool.Decides.{nat_tests}
use Rattle.n2_parts.specs.declared.board.Board.{Board}
use Rattle.n2_parts.specs.declared.board.CoreRow.{CoreRow}
use Rattle.n2_parts.specs.declared.stops.Stop.{Stop}
use Rattle.n2_parts.specs.declared.stops.Act.{Act}
use Rattle.n2_board.specs.AddressMap.{AddressMap}
use Rattle.n2_bus.specs.declared.request.Request.{Request}
use Rattle.n2_bus.specs.declared.request.Reply.{Reply}
use Rattle.n2_bus.specs.Wiring.{Wiring, wiring_of, proper}
use Rattle.n2_bus.specs.Transfer.{BusState, Shared, served, bus_after}
use Rattle.n2_bus.specs.Transfer as bus
use Rattle.n2_bus.proofs.Standing.{next_stands, same_reply}
use Rattle.n2_journal.specs.declared.entry.Entry.{Entry}
use Rattle.n2_journal.specs.Journals.{Limited, with_entry}
use Rattle.n2_watch.specs.World.{World, shared, transferred}
use Rattle.n2_front.specs.Core.{Core, stop_of, log_full}
use Rattle.n2_front.specs.Turn.{CoreTurn, wants, core_turn, turn_with, served_by, intent}
use Rattle.n2_cpu.specs.declared.state.State.{State}
use Rattle.n2_cpu.specs.declared.turns.Step.{Step}
use Rattle.n2_cpu.specs.declared.turns.Step.TheVariants as steps
use Rattle.n2_cpu.specs.Stands.{IsShared, IsNext, IsStep, IsStepBy}
use Rattle.n2_cpu.specs.Stands as cpu
use Rattle.n2_runs.specs.Machine.{Machine, Made, unmoved, has_room, entry_of, entered, script_is_over, core_is_over, is_over, turn}
use Rattle.n2_runs.specs.Knows.{IsBookKept}
use Rattle.n2_runs.proofs.Lists.{slice_get-set_same}
use Rattle.n2_runs.proofs.Known.{local_world}
use Rattle.n2_runs.proofs.Views.{put, IsCoreAt, quiet, quiet_by, quiet_act, quiet_act_by, turn_quiet, turn_enters}
use Rattle.n2_smp.specs.declared.turns.Turned.{Turned}
use Rattle.n2_smp.specs.declared.turns.Turned.TheVariants as answers
use Rattle.n2_smp.specs.Standing.{StandsAt, IsReady, IsWanted, IsMadeAt, IsTurnedAt, answer_of}

pub some_within : {X : Type 0} (xs : List X) (i : ℕ) → i < length xs → (x : X) × (slice_get xs i ≡ Some x)
some_within [] i lt = absurd (omega arith)
some_within (x ∷ xs) zero lt = (x, refl)
some_within (x ∷ xs) (suc i) lt = some_within xs i (omega arith)

pub one_some : {X : Type 0} (x y : X) (o : Option X) → o ≡ Some x → o ≡ Some y → x ≡ y
one_some x y o e h = cc

pub not_less : (k n : ℕ) → k < n → eqb k n ≡ false
not_less k n lt = grind (arith, nat_tests)

-- what cores share keeps what books keep
pub is_shared : (b : Board) (map : AddressMap) (m : Machine) → IsBookKept b map m → IsShared b map m.world
is_shared b map m h = record { shape = h.shape; posted = h.kept.posted }

pub transferred_shared : (b : Board) (map : AddressMap) (k : ℕ) (w : World) (request : Request) → shared (transferred b map k w request).world ≡ (served (wiring_of b) k (shared w) request).shared
unfolding transferred
transferred_shared b map k w request = refl

pub transferred_reply : (b : Board) (map : AddressMap) (k : ℕ) (w : World) (request : Request) → (transferred b map k w request).reply ≡ (served (wiring_of b) k (shared w) request).reply
unfolding transferred
transferred_reply b map k w request = refl

module _ (b : Board) (map : AddressMap) (k : ℕ) (m : Machine) (row : CoreRow) (c : Core) (lt : k < length b.core) (has_row : slice_get b.core k ≡ Some row) (there : slice_get m.cores k ≡ Some c) where
  put_at : (value : State) (behind : BusState) (journal : Limited) (d : Core) (w : World) (es : List Entry) → cpu.StandsFor b map k value d w → bus.StandsFor b behind (shared w) → journal.content.entries ≡ es → journal.limit ≡ b.journal → StandsAt b map k value behind journal (record { world = w; cores = slice_set m.cores k d; entries = es; script = m.script })
  put_at value behind journal d w es h stands e l = record {
    within = lt;
    core = λ x found. let same : d ≡ x = one_some d x _ (slice_get-set_same m.cores k c d there) found in subst (λ (y : Core). cpu.StandsFor b map k value y w) same h;
    bus = stands;
    entries = e;
    limit = l;
  }

  abbrev t : CoreTurn
  t = core_turn b map k row c m.world

  pub over_by : (stop : Option Stop) → stop_of c ≡ stop → is_over b m k ≡ is_some stop
  over_by stop e =
      ap (λ (x : Bool). cond x (script_is_over b m m.script) (core_is_over (slice_get m.cores k))) (not_less k (length b.core) lt)
      ∙ ap core_is_over there
      ∙ ap (λ (o : Option Stop). is_some o) e

  over_turn : (stop : Stop) → stop_of c ≡ Some stop → turn b map m k ≡ unmoved m
  unfolding turn
  over_turn stop e = rw (not_less k (length b.core) lt, has_row, there, e) refl

  module _ (runs : stop_of c ≡ None) where
    at : IsCoreAt b m k row c
    at = record { row_is = has_row; there = there; runs = runs }

    -- a turn without a transfer
    local_turned : (value : State) (behind : BusState) (journal : Limited) (act : Option Act) → bus.StandsFor b behind (shared m.world) → journal.content.entries ≡ m.entries → journal.limit ≡ b.journal → wants b map k row m.world.book c ≡ None → IsNext b map k value act t → IsTurnedAt b map k value behind journal m (answer_of false act)
    unfolding quiet quiet_act
    local_turned value behind journal act stands e l w next =
        let same : t.world ≡ m.world = local_world b map k row c m.world w in
        let is : turn b map m k ≡ record { machine = put m k t.core; act = t.act } =
        turn_quiet b map k row m c at (inl w) ∙ ap (λ (o : Option Request). record { machine = put m k (quiet_by b map k row m.world c o); act = quiet_act_by b map k row m.world c o }) w
        in
        let h : cpu.StandsFor b map k value t.core m.world = subst (λ (x : World). cpu.StandsFor b map k value t.core x) same next.stands in
        record {
          stands = subst (λ (x : Made). StandsAt b map k value behind journal x.machine) (sym is) (put_at value behind journal t.core m.world m.entries h stands e l);
          answer_is = ap (answer_of false) (next.act ∙ sym (ap (λ (x : Made). x.act) is)) ∙ sym (ap (λ (x : Bool). answer_of x (turn b map m k).act) (over_by None runs));
        }

    module _ (request : Request) (w : wants b map k row m.world.book c ≡ Some request) where
      served_world : t.world ≡ (transferred b map k m.world request).world
      unfolding core_turn
      served_world = ap (λ (o : Option Request). (turn_with b map k c m.world (intent b map k row m.world.book c) o (served_by b map k m.world o)).world) w

      served_reply : t.reply ≡ (transferred b map k m.world request).reply
      unfolding core_turn
      served_reply = ap (λ (o : Option Request). (turn_with b map k c m.world (intent b map k row m.world.book c) o (served_by b map k m.world o)).reply) w

      -- the journal is full
      full_made : (value : State) (behind : BusState) (journal : Limited) → bus.StandsFor b behind (shared m.world) → journal.content.entries ≡ m.entries → journal.limit ≡ b.journal → has_room b m ≡ false → cpu.StandsFor b map k value (log_full c) m.world → IsMadeAt b map k value behind journal m None
      unfolding quiet quiet_act
      full_made value behind journal stands e l room h =
          let is : turn b map m k ≡ record { machine = put m k (log_full c); act = None } =
          turn_quiet b map k row m c at (inr room) ∙ ap (λ (o : Option Request). record { machine = put m k (quiet_by b map k row m.world c o); act = quiet_act_by b map k row m.world c o }) w
          in
          record {
            stands = subst (λ (x : Made). StandsAt b map k value behind journal x.machine) (sym is) (put_at value behind journal (log_full c) m.world m.entries h stands e l);
            act_is = sym (ap (λ (x : Made). x.act) is);
          }

      -- the transfer is made and entered
      entered_made : (value : State) (behind : BusState) (journal : Limited) (local : ℕ) (reply : Reply) (act : Option Act) → bus.StandsFor b behind (shared m.world) → journal.content.entries ≡ m.entries → journal.limit ≡ b.journal → has_room b m ≡ true → local ≡ c.local → reply ≡ (served behind.wiring k behind.shared request).reply → IsNext b map k value act t → IsMadeAt b map k value (bus_after behind k request) (record { content = with_entry journal.content (record { actor = k; local = local; request = request; reply = reply }); limit = journal.limit }) m act
      entered_made value behind journal local reply act stands e l room count replied next =
          let is : turn b map m k ≡ entered m k t (entry_of k c t request) = turn_enters b map k row m c at request w room in
          let after : bus.StandsFor b (bus_after behind k request) (shared t.world) =
          subst (λ (x : Shared). bus.StandsFor b (bus_after behind k request) x) (sym (ap (λ (x : World). shared x) served_world ∙ transferred_shared b map k m.world request)) (next_stands b behind (shared m.world) k request stands)
          in
          let r : reply ≡ t.reply = replied ∙ same_reply b behind (shared m.world) k request stands ∙ sym (served_reply ∙ transferred_reply b map k m.world request) in
          let same : record { actor = k; local = local; request = request; reply = reply } ≡ entry_of k c t request =
          ap (λ (n : ℕ). record { actor = k; local = n; request = request; reply = reply }) count ∙ ap (λ (x : Reply). record { actor = k; local = c.local; request = request; reply = x }) r
          in
          let es : journal.content.entries ++ record { actor = k; local = local; request = request; reply = reply } ∷ [] ≡ m.entries ++ entry_of k c t request ∷ [] =
          ap (λ (xs : List Entry). xs ++ record { actor = k; local = local; request = request; reply = reply } ∷ []) e ∙ ap (λ (x : Entry). m.entries ++ x ∷ []) same
          in
          record {
            stands = subst (λ (x : Made). StandsAt b map k value (bus_after behind k request) (record { content = with_entry journal.content (record { actor = k; local = local; request = request; reply = reply }); limit = journal.limit }) x.machine) (sym is)
                (put_at value (bus_after behind k request) (record { content = with_entry journal.content (record { actor = k; local = local; request = request; reply = reply }); limit = journal.limit }) t.core t.world (m.entries ++ entry_of k c t request ∷ []) next.stands after es l);
            act_is = next.act ∙ sym (ap (λ (x : Made). x.act) is);
          }

-- ---- what a step came to
module _ (b : Board) (map : AddressMap) (k : ℕ) (old new : State) (step : Step) (t : CoreTurn) where
  made_case : (act : Option Act) (stop : Option Stop) (wanted : Option Request) → step ≡ steps.Made act → IsStepBy b map k old new step t stop wanted → (stop ≡ None) × (wanted ≡ None) × IsNext b map k new act t
  made_case act (Some stop) wanted e h = let x = h.0 in absurd (cc)
  made_case act None (Some request) e h = let x = h.0 in absurd (cc)
  made_case act None None e h =
      let x : steps.Made h.0 ≡ steps.Made act = sym h.1 ∙ e in
      let same : h.0 ≡ act = cc in
      (refl, refl, subst (λ (a : Option Act). IsNext b map k new a t) same h.2)

  wants_case : (request : Request) (stop : Option Stop) (wanted : Option Request) → step ≡ steps.Wants request → IsStepBy b map k old new step t stop wanted → (stop ≡ None) × (wanted ≡ Some request) × (new ≡ old)
  wants_case request (Some stop) wanted e h = let x = h.0 in absurd (cc)
  wants_case request None (Some other) e h =
      let x : steps.Wants other ≡ steps.Wants request = sym h.0 ∙ e in
      let same : other ≡ request = cc in
      (refl, ap (λ r. Some r) same, h.1)
  wants_case request None None e h = let x = h.1 in absurd (cc)

  over_case : (stop : Option Stop) (wanted : Option Request) → step ≡ steps.Over → IsStepBy b map k old new step t stop wanted → ((why : Stop) × (stop ≡ Some why)) × (new ≡ old)
  over_case (Some stop) wanted e h = ((stop, refl), h.1)
  over_case None (Some request) e h = let x = h.0 in absurd (cc)
  over_case None None e h = let x = h.1 in absurd (cc)

-- ---- a core's turn, for each state for which its parts stand
module _ (b : Board) (map : AddressMap) (k : ℕ) (m : Machine) (old : State) (behind : BusState) (journal : Limited) (at : StandsAt b map k old behind journal m) (kept : IsBookKept b map m) where
  there : (c : Core) × (slice_get m.cores k ≡ Some c)
  there = let lt = at.within in some_within m.cores k (omega (arith, kept.count))

  has_row : (row : CoreRow) × (slice_get b.core k ≡ Some row)
  has_row = some_within b.core k at.within

  abbrev pub TellsStep : State → Step → Type 0
  TellsStep new step = (row : CoreRow) (c : Core) → cpu.StandsFor b map k old c m.world → IsShared b map m.world → slice_get b.core k ≡ Some row → IsStep b map k row old new step c m.world

  told : (new : State) (step : Step) → TellsStep new step → IsStep b map k has_row.0 old new step there.0 m.world
  told new step tells = tells has_row.0 there.0 (at.core there.0 there.1) (is_shared b map m kept) has_row.1

  abbrev next : CoreTurn
  next = core_turn b map k has_row.0 there.0 m.world

  pub room_same : has_room b m ≡ ltb (length journal.content.entries) journal.limit
  room_same = ap (λ (es : List Entry). ltb (length es) b.journal) (sym at.entries) ∙ ap (λ (n : ℕ). ltb (length journal.content.entries) n) (sym at.limit)

  pub made_turned : (new : State) (step : Step) (act : Option Act) (answer : Turned) → TellsStep new step → step ≡ steps.Made act → answer ≡ answer_of false act → IsTurnedAt b map k new behind journal m answer
  made_turned new step act answer tells e is =
      let x = made_case b map k old new step next act (stop_of there.0) (wants b map k has_row.0 m.world.book there.0) e (told new step tells) in
      subst (λ (a : Turned). IsTurnedAt b map k new behind journal m a) (sym is)
      (local_turned b map k m has_row.0 there.0 at.within has_row.1 there.1 x.0 new behind journal act at.bus at.entries at.limit x.1 x.2)

  pub over_turned : (new : State) (step : Step) → TellsStep new step → step ≡ steps.Over → IsTurnedAt b map k new behind journal m answers.Over
  over_turned new step tells e =
      let x = over_case b map k old new step next (stop_of there.0) (wants b map k has_row.0 m.world.book there.0) e (told new step tells) in
      let is : turn b map m k ≡ unmoved m = over_turn b map k m has_row.0 there.0 at.within has_row.1 there.1 x.0.0 x.0.1 in
      let over : is_over b m k ≡ true = over_by b map k m has_row.0 there.0 at.within has_row.1 there.1 (Some x.0.0) x.0.1 in
      record {
        stands = subst (λ (y : Made). StandsAt b map k new behind journal y.machine) (sym is) (subst (λ (s : State). StandsAt b map k s behind journal m) (sym x.1) at);
        answer_is = sym (ap (λ (y : Bool). answer_of y (turn b map m k).act) over);
      }

  pub over_same : (new : State) (step : Step) → TellsStep new step → step ≡ steps.Over → new ≡ old
  over_same new step tells e = (over_case b map k old new step next (stop_of there.0) (wants b map k has_row.0 m.world.book there.0) e (told new step tells)).1

  pub wants_same : (new : State) (step : Step) (request : Request) → TellsStep new step → step ≡ steps.Wants request → new ≡ old
  wants_same new step request tells e = (wants_case b map k old new step next request (stop_of there.0) (wants b map k has_row.0 m.world.book there.0) e (told new step tells)).2

  pub is_wanted : (new : State) (step : Step) (request : Request) → TellsStep new step → step ≡ steps.Wants request → IsWanted b map k m request
  is_wanted new step request tells e =
      let x = wants_case b map k old new step next request (stop_of there.0) (wants b map k has_row.0 m.world.book there.0) e (told new step tells) in
      record { row = has_row.0; core = there.0; has_row = has_row.1; has_core = there.1; runs = x.0; wants = x.1 }

  pub is_proper : (new : State) (request : Request) → ((row : CoreRow) (c : Core) → cpu.StandsFor b map k old c m.world → slice_get b.core k ≡ Some row → IsTrue (proper (wiring_of b) k request)) → IsTrue (proper behind.wiring k request)
  is_proper new request tells = subst (λ (w : Wiring). IsTrue (proper w k request)) (sym at.bus.wiring) (tells has_row.0 there.0 (at.core there.0 there.1) has_row.1)

  -- the answer of a turn that wants a transfer
  pub wants_turned : (new : State) (step : Step) (request : Request) → TellsStep new step → step ≡ steps.Wants request → (last : State) (after : BusState) (entered : Limited) (act : Option Act) (answer : Turned) → IsMadeAt b map k last after entered m act → answer ≡ answer_of false act → IsTurnedAt b map k last after entered m answer
  wants_turned new step request tells e last after entered act answer made is =
      let runs : stop_of there.0 ≡ None = (wants_case b map k old new step next request (stop_of there.0) (wants b map k has_row.0 m.world.book there.0) e (told new step tells)).0 in
      record {
        stands = made.stands;
        answer_is = is ∙ ap (answer_of false) made.act_is ∙ sym (ap (λ (x : Bool). answer_of x (turn b map m k).act) (over_by b map k m has_row.0 there.0 at.within has_row.1 there.1 None runs));
      }

  -- ---- with the transfer that it wants
  module _ (request : Request) (wanted : IsWanted b map k m request) where
    stands_now : cpu.StandsFor b map k old wanted.core m.world
    stands_now = at.core wanted.core wanted.has_core

    pub full_turned : (new : State) → ltb (length journal.content.entries) journal.limit ≡ false → ((c : Core) → cpu.StandsFor b map k old c m.world → cpu.StandsFor b map k new (log_full c) m.world) → IsMadeAt b map k new behind journal m None
    full_turned new room tells =
        full_made b map k m wanted.row wanted.core at.within wanted.has_row wanted.has_core wanted.runs request wanted.wants new behind journal at.bus at.entries at.limit (room_same ∙ room) (tells wanted.core stands_now)

    pub entered_turned : (new : State) (reply : Reply) (act : Option Act) → ltb (length journal.content.entries) journal.limit ≡ true → reply ≡ (served behind.wiring k behind.shared request).reply → ((row : CoreRow) (c : Core) → cpu.StandsFor b map k old c m.world → IsShared b map m.world → slice_get b.core k ≡ Some row → stop_of c ≡ None → wants b map k row m.world.book c ≡ Some request → reply ≡ (transferred b map k m.world request).reply → IsNext b map k new act (core_turn b map k row c m.world)) → IsMadeAt b map k new (bus_after behind k request) (record { content = with_entry journal.content (record { actor = k; local = old.clock.local; request = request; reply = reply }); limit = journal.limit }) m act
    entered_turned new reply act room replied tells =
        let r : reply ≡ (transferred b map k m.world request).reply = replied ∙ same_reply b behind (shared m.world) k request at.bus ∙ sym (transferred_reply b map k m.world request) in
        entered_made b map k m wanted.row wanted.core at.within wanted.has_row wanted.has_core wanted.runs request wanted.wants new behind journal old.clock.local reply act at.bus at.entries at.limit (room_same ∙ room) (sym stands_now.local) replied
        (tells wanted.row wanted.core stands_now (is_shared b map m kept) wanted.has_row wanted.runs wanted.wants r)
