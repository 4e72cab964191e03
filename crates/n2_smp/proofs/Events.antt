-- A turn of the device actor, over the parts of a machine that it uses.
use Rattle.std.proofs.Common.{◌≡◌, ℕ, zero, suc, ◌++◌, Bool, true, false, cond, eqb, ltb, not, List, [], ◌∷◌, length, drop, slice_get, Option, Some, None, refl, ap, sym, ◌∙◌, arith, subst}
use Rattle.std.proofs.lemmas.Bool.Decides.{nat_tests}
use Rattle.n2_parts.specs.declared.board.Board.{Board}
use Rattle.n2_parts.specs.declared.board.DeviceEvent.{DeviceEvent}
use Rattle.n2_parts.specs.declared.stops.Act.TheVariants as acts
use Rattle.n2_board.specs.AddressMap.{AddressMap}
use Rattle.n2_bus.specs.declared.request.Reply.{Reply}
use Rattle.n2_bus.specs.Transfer.{BusState, Shared, served, bus_after, request_for}
use Rattle.n2_bus.specs.Transfer as bus
use Rattle.n2_bus.proofs.Standing.{next_stands, same_reply}
use Rattle.n2_journal.specs.declared.entry.Entry.{Entry}
use Rattle.n2_journal.specs.Journals.{Limited, with_entry}
use Rattle.n2_watch.specs.World.{World, shared, transferred}
use Rattle.n2_runs.specs.Machine.{Machine, Made, unmoved, has_room, event_made, script_made, core_of, script_is_over, core_is_over, is_over, turn}
use Rattle.n2_runs.proofs.Views.{turn_event}
use Rattle.n2_smp.specs.declared.turns.Turned.{Turned}
use Rattle.n2_smp.specs.declared.turns.Turned.TheVariants as answers
use Rattle.n2_smp.specs.Scripts.{Reached, left}
use Rattle.n2_smp.specs.Standing.{EventsStandFor, AreTurned, answer_of}
use Rattle.n2_smp.proofs.Cores.{transferred_shared, transferred_reply}

same_actor : (n : ℕ) → eqb n n ≡ true
same_actor n = grind (arith, nat_tests)

pub none_first : {X : Type 0} (xs : List X) → slice_get xs 0 ≡ None → xs ≡ []
none_first [] e = refl
none_first (x ∷ xs) e = absurd (cc)

pub some_first : {X : Type 0} (xs : List X) (x : X) → slice_get xs 0 ≡ Some x → xs ≡ x ∷ drop 1 xs
some_first [] x e = absurd (cc)
some_first (y ∷ xs) x e = let d : y ≡ x = cc in ap (λ z. z ∷ xs) d

module _ (b : Board) (map : AddressMap) (m : Machine) (behind : BusState) (journal : Limited) (script : Reached) (h : EventsStandFor b behind journal script m) where
  same_room : has_room b m ≡ ltb (length journal.content.entries) journal.limit
  same_room = ap (λ (es : List Entry). ltb (length es) b.journal) (sym h.entries) ∙ ap (λ (n : ℕ). ltb (length journal.content.entries) n) (sym h.limit)

  by_script : is_over b m (length b.core) ≡ script_is_over b m m.script
  by_script = ap (λ (x : Bool). cond x (script_is_over b m m.script) (core_is_over (slice_get m.cores (length b.core)))) (same_actor (length b.core))

  turn_is : turn b map m (length b.core) ≡ script_made b map m m.script
  unfolding turn
  turn_is = ap (λ (x : Bool). cond x (script_made b map m m.script) (core_of b map m (length b.core) (slice_get b.core (length b.core)) (slice_get m.cores (length b.core)))) (same_actor (length b.core))

  full_made : (events : List DeviceEvent) → has_room b m ≡ false → script_made b map m events ≡ unmoved m
  full_made [] e = refl
  full_made (event ∷ events) e = ap (λ (x : Bool). cond x (event_made b m event events (transferred b map (length b.core) m.world (request_for event))) (unmoved m)) e

  full_over : (events : List DeviceEvent) → has_room b m ≡ false → script_is_over b m events ≡ true
  full_over [] e = refl
  full_over (event ∷ events) e = ap not e

  over_turned : turn b map m (length b.core) ≡ unmoved m → is_over b m (length b.core) ≡ true → AreTurned b map behind journal script m answers.Over
  over_turned is over = record {
    stand = subst (λ (x : Made). EventsStandFor b behind journal script x.machine) (sym is) h;
    answer_is = sym (ap (λ (x : Bool). answer_of x (turn b map m (length b.core)).act) over);
  }

  -- the journal is full
  pub full_turned : ltb (length journal.content.entries) journal.limit ≡ false → AreTurned b map behind journal script m answers.Over
  full_turned e =
      let room : has_room b m ≡ false = same_room ∙ e in
      over_turned (turn_is ∙ full_made m.script room) (by_script ∙ full_over m.script room)

  -- the script is used up
  pub used_up : slice_get (left b script) 0 ≡ None → AreTurned b map behind journal script m answers.Over
  used_up e =
      let none : m.script ≡ [] = sym h.left_is ∙ none_first (left b script) e in
      over_turned (turn_is ∙ ap (script_made b map m) none) (by_script ∙ ap (script_is_over b m) none)

  -- an event
  module _ (event : DeviceEvent) (next : slice_get (left b script) 0 ≡ Some event) (room : ltb (length journal.content.entries) journal.limit ≡ true) where
    has_event : m.script ≡ event ∷ drop 1 (left b script)
    has_event = sym h.left_is ∙ some_first (left b script) event next

    made_is : turn b map m (length b.core) ≡ event_made b m event (drop 1 (left b script)) (transferred b map (length b.core) m.world (request_for event))
    made_is = turn_event b map m event (drop 1 (left b script)) has_event (same_room ∙ room)

    not_over : is_over b m (length b.core) ≡ false
    not_over = by_script ∙ ap (script_is_over b m) has_event ∙ ap not (same_room ∙ room)

    pub event_turned : (reply : Reply) (after : Reached) → reply ≡ (served behind.wiring (length b.core) behind.shared (request_for event)).reply → left b after ≡ drop 1 (left b script) → AreTurned b map (bus_after behind (length b.core) (request_for event)) (record { content = with_entry journal.content (record { actor = length b.core; local = 0; request = request_for event; reply = reply }); limit = journal.limit }) after m (answers.Acted (acts.Device event))
    event_turned reply after replied rest =
        let k : ℕ = length b.core in
        let r : reply ≡ (transferred b map (length b.core) m.world (request_for event)).reply =
        replied ∙ same_reply b behind (shared m.world) (length b.core) (request_for event) h.bus ∙ sym (transferred_reply b map (length b.core) m.world (request_for event))
        in
        let stands : bus.StandsFor b (bus_after behind (length b.core) (request_for event)) (shared (transferred b map (length b.core) m.world (request_for event)).world) =
        subst (λ (x : Shared). bus.StandsFor b (bus_after behind (length b.core) (request_for event)) x) (sym (transferred_shared b map (length b.core) m.world (request_for event))) (next_stands b behind (shared m.world) (length b.core) (request_for event) h.bus)
        in
        let es : journal.content.entries ++ record { actor = length b.core; local = 0; request = request_for event; reply = reply } ∷ [] ≡ m.entries ++ record { actor = length b.core; local = 0; request = request_for event; reply = (transferred b map (length b.core) m.world (request_for event)).reply } ∷ [] =
        ap (λ (xs : List Entry). xs ++ record { actor = length b.core; local = 0; request = request_for event; reply = reply } ∷ []) h.entries
        ∙ ap (λ (x : Reply). m.entries ++ record { actor = length b.core; local = 0; request = request_for event; reply = x } ∷ []) r
        in
        record {
          stand = subst (λ (x : Made). EventsStandFor b (bus_after behind (length b.core) (request_for event)) (record { content = with_entry journal.content (record { actor = length b.core; local = 0; request = request_for event; reply = reply }); limit = journal.limit }) after x.machine) (sym made_is)
              (record { bus = stands; entries = es; limit = h.limit; left_is = rest });
          answer_is = sym (ap (λ (x : Bool). answer_of x (turn b map m (length b.core)).act) not_over ∙ ap (λ (x : Made). answer_of false x.act) made_is);
        }
