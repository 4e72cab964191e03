-- A turn of a core without a transfer.
use Rattle.std.proofs.Common.{◌≡◌, ℕ, ◌<◌, ◌++◌, Bool, true, false, ltb, List, [], ◌∷◌, length, slice_get, Option, Some, None, refl, ap, sym, ◌∙◌, arith, subst}
use Rattle.std.specs.Prelude.{Result, Ok, Err}
use Rattle.n2_parts.specs.declared.board.Board.{Board}
use Rattle.n2_parts.specs.declared.stops.Act.{Act}
use Rattle.n2_board.specs.AddressMap.{AddressMap}
use Rattle.n2_bus.specs.declared.request.Request.{Request}
use Rattle.n2_bus.specs.Transfer.{BusState}
use Rattle.n2_journal.specs.declared.entry.Entry.{Entry}
use Rattle.n2_journal.specs.Journals.{Limited}
use Rattle.n2_front.specs.Core.{Core, log_full}
use Rattle.n2_front.specs.Turn.{core_turn}
use Rattle.n2_cpu.specs.declared.turns.Step.{Step}
use Rattle.n2_cpu.specs.declared.turns.Step.TheVariants as steps
use Rattle.n2_cpu.specs.Stands as cpu
use Rattle.n2_cpu.specs.declared.state.State.{State}
use Rattle.n2_runs.specs.Machine.{Machine, Made, has_room, entry_of, entered, is_over, turn}
use Rattle.n2_runs.specs.Knows.{IsBookKept}
use Rattle.n2_runs.specs.Replay.{added, if_quiet, quiet_turn}
use Rattle.n2_runs.proofs.Compared.{added_none, added_some}
use Rattle.n2_runs.proofs.Views.{turn_enters}
use Rattle.n2_smp.specs.declared.turns.Turned.{Turned}
use Rattle.n2_smp.specs.declared.turns.Turned.TheVariants as answers
use Rattle.n2_smp.specs.Standing.{StandsAt, IsWanted, IsMadeAt, IsTurnedAt, answer_of}
use Rattle.n2_smp.specs.Replayed.{IsQuietAt}
use Rattle.n2_smp.proofs.Cores.{TellsStep, over_by, made_turned, over_turned, wants_same, is_wanted, room_same, full_turned}

-- a turn was made, so its actor was not over
not_over : (x : Bool) (made : Option Act) (act : Option Act) → answer_of false made ≡ answer_of x act → x ≡ false
not_over true None act e = absurd (cc)
not_over true (Some a) act e = absurd (cc)
not_over false made act e = refl

pub if_added : (m : Machine) (x : Bool) (after : Machine) (o : Option Entry) (entry : Entry) → o ≡ Some entry → if_quiet m x after o ≡ Err m
if_added m true after o entry e = refl
if_added m false after None entry e = absurd (cc)
if_added m false after (Some other) entry e = refl

module _ (b : Board) (map : AddressMap) (k : ℕ) (m : Machine) where
  by_parts : (x : Bool) (o : Option Entry) → is_over b m k ≡ x → added m (turn b map m k).machine ≡ o → quiet_turn b map m k ≡ if_quiet m x (turn b map m k).machine o
  unfolding quiet_turn
  by_parts x o e h = ap (λ (y : Bool). if_quiet m y (turn b map m k).machine (added m (turn b map m k).machine)) e ∙ ap (λ (y : Option Entry). if_quiet m x (turn b map m k).machine y) h

  -- the journal stands for the entries before and after, so none was added
  none_added : (journal : Limited) → journal.content.entries ≡ m.entries → journal.content.entries ≡ (turn b map m k).machine.entries → added m (turn b map m k).machine ≡ None
  none_added journal e h = added_none m (turn b map m k).machine (sym h ∙ e)

  pub made_quiet : (old new : State) (behind : BusState) (journal : Limited) (act : Option Act) (answer : Turned) → StandsAt b map k old behind journal m → answer ≡ answer_of false act → IsTurnedAt b map k new behind journal m answer → quiet_turn b map m k ≡ Ok (turn b map m k).machine
  made_quiet old new behind journal act answer at is made =
      by_parts false None (not_over (is_over b m k) act (turn b map m k).act (sym is ∙ made.answer_is)) (none_added journal at.entries made.stands.entries)

  pub over_quiet : is_over b m k ≡ true → quiet_turn b map m k ≡ Err m
  over_quiet e = by_parts true (added m (turn b map m k).machine) e refl

  -- a full journal takes none
  pub full_quiet : (old new : State) (behind : BusState) (journal : Limited) (act : Option Act) → StandsAt b map k old behind journal m → is_over b m k ≡ false → IsMadeAt b map k new behind journal m act → quiet_turn b map m k ≡ Ok (turn b map m k).machine
  full_quiet old new behind journal act at runs made = by_parts false None runs (none_added journal at.entries made.stands.entries)

  -- a transfer is entered
  pub wanted_entered : (request : Request) (w : IsWanted b map k m request) → has_room b m ≡ true → turn b map m k ≡ entered m k (core_turn b map k w.row w.core m.world) (entry_of k w.core (core_turn b map k w.row w.core m.world) request)
  wanted_entered request w room = turn_enters b map k w.row m w.core (record { row_is = w.has_row; there = w.has_core; runs = w.runs }) request w.wants room

  pub wants_quiet : (request : Request) → IsWanted b map k m request → has_room b m ≡ true → quiet_turn b map m k ≡ Err m
  wants_quiet request w room =
      let entry : Entry = entry_of k w.core (core_turn b map k w.row w.core m.world) request in
      let some : added m (turn b map m k).machine ≡ Some (entry_of k w.core (core_turn b map k w.row w.core m.world) request) =
      added_some m (turn b map m k).machine (entry_of k w.core (core_turn b map k w.row w.core m.world) request) (ap (λ (x : Made). x.machine.entries) (wanted_entered request w room))
      in
      by_parts (is_over b m k) (added m (turn b map m k).machine) refl refl ∙ if_added m (is_over b m k) (turn b map m k).machine (added m (turn b map m k).machine) (entry_of k w.core (core_turn b map k w.row w.core m.world) request) some

is_then_over : (x : Bool) (act : Option Act) → answers.Over ≡ answer_of x act → x ≡ true
is_then_over true act e = refl
is_then_over false None e = absurd (cc)
is_then_over false (Some act) e = absurd (cc)

-- ---- by what a step came to, for each state for which the parts of a core's turn stand
module _ (b : Board) (map : AddressMap) (k : ℕ) (m : Machine) (old : State) (behind : BusState) (journal : Limited) (at : StandsAt b map k old behind journal m) (kept : IsBookKept b map m) where
  pub made_at : (new : State) (step : Step) (act : Option Act) → TellsStep b map k m old behind journal at kept new step → step ≡ steps.Made act → IsQuietAt b map k old new behind journal m true
  made_at new step act tells e =
      let made = made_turned b map k m old behind journal at kept new step act (answer_of false act) tells e refl in
      (made.stands, made_quiet b map k m old new behind journal act (answer_of false act) at refl made)

  pub over_at : (new : State) (step : Step) → TellsStep b map k m old behind journal at kept new step → step ≡ steps.Over → quiet_turn b map m k ≡ Err m
  over_at new step tells e =
      let made = over_turned b map k m old behind journal at kept new step tells e in
      over_quiet b map k m (is_then_over (is_over b m k) (turn b map m k).act made.answer_is)

  pub wants_at : (new : State) (step : Step) (request : Request) → TellsStep b map k m old behind journal at kept new step → step ≡ steps.Wants request → ltb (length journal.content.entries) journal.limit ≡ true → quiet_turn b map m k ≡ Err m
  wants_at new step request tells e room =
      wants_quiet b map k m request (is_wanted b map k m old behind journal at kept new step request tells e) (room_same b map k m old behind journal at kept ∙ room)

  pub full_at : (new : State) (step : Step) (request : Request) → TellsStep b map k m old behind journal at kept new step → step ≡ steps.Wants request → ltb (length journal.content.entries) journal.limit ≡ false → (last : State) → ((c : Core) → cpu.StandsFor b map k new c m.world → cpu.StandsFor b map k last (log_full c) m.world) → IsQuietAt b map k old last behind journal m true
  full_at new step request tells e room last told =
      let same : new ≡ old = wants_same b map k m old behind journal at kept new step request tells e in
      let w = is_wanted b map k m old behind journal at kept new step request tells e in
      let made = full_turned b map k m old behind journal at kept request w last room (λ c h. told c (subst (λ (s : State). cpu.StandsFor b map k s c m.world) (sym same) h)) in
      (made.stands, full_quiet b map k m old last behind journal None at (over_by b map k m w.row w.core at.within w.has_row w.has_core None w.runs) made)

  pub runs_at : (new : State) (step : Step) (request : Request) → TellsStep b map k m old behind journal at kept new step → step ≡ steps.Wants request → new.stop ≡ None
  runs_at new step request tells e =
      let w = is_wanted b map k m old behind journal at kept new step request tells e in
      ap (λ (s : State). s.stop) (wants_same b map k m old behind journal at kept new step request tells e) ∙ (at.core w.core w.has_core).stop ∙ w.runs
