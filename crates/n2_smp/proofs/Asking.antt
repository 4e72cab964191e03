-- The transfer that the next turn of an actor makes.
use Rattle.std.proofs.Common.{◌≡◌, ℕ, ◌<◌, ◌≤◌, ◌++◌, Bool, true, false, ltb, List, [], ◌∷◌, length, slice_get, Option, Some, None, refl, ap, sym, ◌∙◌, arith, subst}
use Rattle.std.specs.Prelude.{option_map, ◌↔◌}
use Rattle.n2_parts.specs.declared.board.Board.{Board}
use Rattle.n2_parts.specs.declared.board.CoreRow.{CoreRow}
use Rattle.n2_parts.specs.declared.board.DeviceEvent.{DeviceEvent}
use Rattle.n2_parts.specs.declared.stops.Stop.{Stop}
use Rattle.n2_board.specs.AddressMap.{AddressMap}
use Rattle.n2_bus.specs.declared.request.Request.{Request}
use Rattle.n2_bus.specs.Transfer.{request_for}
use Rattle.n2_journal.specs.declared.entry.Entry.{Entry}
use Rattle.n2_watch.specs.World.{World, transferred}
use Rattle.n2_front.specs.Core.{Core, stop_of}
use Rattle.n2_front.specs.Turn.{wants, core_turn}
use Rattle.n2_cpu.specs.declared.turns.Plan.{Plan}
use Rattle.n2_cpu.specs.declared.turns.Plan.TheVariants as plans
use Rattle.n2_cpu.specs.Stands.{planned}
use Rattle.n2_runs.specs.Machine.{Machine, Made, has_room, entry_of, entered, event_made, turn}
use Rattle.n2_runs.specs.Same.{same_request}
use Rattle.n2_runs.specs.Replay.{added}
use Rattle.n2_runs.proofs.Compared.{added_none, added_some}
use Rattle.n2_runs.proofs.Sames.{request_is, request_self}
use Rattle.n2_runs.proofs.Sets.{within}
use Rattle.n2_runs.proofs.Views.{IsCoreAt, put, quiet, turn_enters, turn_event, turn_cases}
use Rattle.n2_smp.specs.Standing.{Parts, StandsFor}
use Rattle.n2_smp.specs.Replayed.{requested, asks_same}
use Rattle.n2_smp.proofs.Cores.{some_within}

planned_is : (o : Option Stop) (w : Option Request) (r : Request) → planned o w ≡ plans.Transfer r → (o ≡ None) × (w ≡ Some r)
planned_is (Some stop) w r e = absurd (cc)
planned_is None None r e = absurd (cc)
planned_is None (Some other) r e = let same : other ≡ r = cc in (refl, ap (λ x. Some x) same)

module _ (b : Board) (map : AddressMap) (m : Machine) (count : length m.cores ≡ length b.core) (actor : ℕ) where
  none_requested : added m (turn b map m actor).machine ≡ None → requested b map m actor ≡ None
  none_requested e = ap (λ (o : Option Entry). option_map (λ (entry : Entry). entry.request) o) e

  -- the journal is full
  pub no_room : has_room b m ≡ false → requested b map m actor ≡ None
  no_room full = none_requested (turn_cases b map m count actor (λ (x : Made). added m x.machine ≡ None)
      (λ e. added_none m m refl)
      (λ row c h quiets. added_none m (put m actor (quiet b map actor row m.world c)) refl)
      (λ row c request h wants room. absurd (cc))
      (λ event script e h room. absurd (cc)))

  -- there is no such actor
  pub no_actor : length b.core < actor → requested b map m actor ≡ None
  no_actor lt = none_requested (turn_cases b map m count actor (λ (x : Made). added m x.machine ≡ None)
      (λ e. added_none m m refl)
      (λ row c h quiets. added_none m (put m actor (quiet b map actor row m.world c)) refl)
      (λ row c request h wants room. let le = within b.core actor row h.row_is in absurd (omega arith))
      (λ event script e h room. absurd (omega arith)))

  -- the script is used up
  pub no_event : length b.core ≡ actor → m.script ≡ [] → requested b map m actor ≡ None
  no_event is empty = none_requested (turn_cases b map m count actor (λ (x : Made). added m x.machine ≡ None)
      (λ e. added_none m m refl)
      (λ row c h quiets. added_none m (put m actor (quiet b map actor row m.world c)) refl)
      (λ row c request h wants room. let le = within b.core actor row h.row_is in absurd (omega arith))
      (λ event script e h room. absurd (cc)))

  -- a core whose plan is no transfer
  pub no_transfer : (plan : Plan) → ((row : CoreRow) (c : Core) → slice_get b.core actor ≡ Some row → slice_get m.cores actor ≡ Some c → plan ≡ planned (stop_of c) (wants b map actor row m.world.book c)) → actor < length b.core → ((r : Request) → plan ≡ plans.Transfer r → ⊥) → requested b map m actor ≡ None
  no_transfer plan tells lt none = none_requested (turn_cases b map m count actor (λ (x : Made). added m x.machine ≡ None)
      (λ e. added_none m m refl)
      (λ row c h quiets. added_none m (put m actor (quiet b map actor row m.world c)) refl)
      (λ row c request h wanted room. absurd (none request (tells row c h.row_is h.there ∙ ap (λ (o : Option Stop). planned o (wants b map actor row m.world.book c)) h.runs ∙ ap (λ (o : Option Request). planned None o) wanted)))
      (λ event script e h room. absurd (omega arith)))

  -- an event
  pub some_event : (event : DeviceEvent) (script : List DeviceEvent) → length b.core ≡ actor → m.script ≡ event ∷ script → has_room b m ≡ true → requested b map m actor ≡ Some (request_for event)
  some_event event script is e room =
      let made = turn_event b map m event script e room in
      subst (λ (n : ℕ). requested b map m n ≡ Some (request_for event)) is
      (ap (λ (o : Option Entry). option_map (λ (entry : Entry). entry.request) o)
      (added_some m (turn b map m (length b.core)).machine (record { actor = length b.core; local = 0; request = request_for event; reply = (transferred b map (length b.core) m.world (request_for event)).reply }) (ap (λ (x : Made). x.machine.entries) made)))

  -- a core whose plan is a transfer
  pub some_transfer : (plan : Plan) (r : Request) → ((row : CoreRow) (c : Core) → slice_get b.core actor ≡ Some row → slice_get m.cores actor ≡ Some c → plan ≡ planned (stop_of c) (wants b map actor row m.world.book c)) → actor < length b.core → plan ≡ plans.Transfer r → has_room b m ≡ true → requested b map m actor ≡ Some r
  some_transfer plan r tells lt e room =
      let row = some_within b.core actor lt in
      let c = some_within m.cores actor (omega (arith, count)) in
      let x = planned_is (stop_of c.0) (wants b map actor row.0 m.world.book c.0) r (sym (tells row.0 c.0 row.1 c.1) ∙ e) in
      let made = turn_enters b map actor row.0 m c.0 (record { row_is = row.1; there = c.1; runs = x.0 }) r x.1 room in
      ap (λ (o : Option Entry). option_map (λ (entry : Entry). entry.request) o)
      (added_some m (turn b map m actor).machine (entry_of actor c.0 (core_turn b map actor row.0 c.0 m.world) r) (ap (λ (y : Made). y.machine.entries) made))

-- a machine's journal has room where the state's has
pub room_is : (v : Parts) (m : Machine) → StandsFor v m → has_room v.board m ≡ ltb (length v.journal.content.entries) v.journal.limit
room_is v m h = ap (λ (es : List Entry). ltb (length es) v.board.journal) (sym h.entries) ∙ ap (λ (n : ℕ). ltb (length v.journal.content.entries) n) (sym h.limit)

-- ---- an entry's own transfer
none_asks : (entry : Entry) (o : Option Entry) → option_map (λ (e : Entry). e.request) o ≡ None → asks_same entry o ≡ false
none_asks entry None e = refl
none_asks entry (Some other) e = absurd (cc)

some_asks : (entry : Entry) (o : Option Entry) (r : Request) → option_map (λ (e : Entry). e.request) o ≡ Some r → asks_same entry o ≡ same_request entry.request r
some_asks entry None r e = absurd (cc)
some_asks entry (Some other) r e = let same : other.request ≡ r = cc in ap (λ (x : Request). same_request entry.request x) same

flag_is : (x y : Bool) (P : Type 0) → ((x ≡ true) ↔ P) → (y ≡ true → P) → (P → y ≡ true) → x ≡ y
flag_is true true P same on off = refl
flag_is false false P same on off = refl
flag_is true false P same on off = let z : false ≡ true = off (same.0 refl) in absurd (cc)
flag_is false true P same on off = let z : false ≡ true = same.1 (on refl) in absurd (cc)

pub asks_none : (b : Board) (map : AddressMap) (m : Machine) (entry : Entry) → requested b map m entry.actor ≡ None → false ≡ asks_same entry (added m (turn b map m entry.actor).machine)
asks_none b map m entry e = sym (none_asks entry (added m (turn b map m entry.actor).machine) e)

pub asks_some : (b : Board) (map : AddressMap) (m : Machine) (entry : Entry) (r : Request) (x : Bool) → requested b map m entry.actor ≡ Some r → ((x ≡ true) ↔ (entry.request ≡ r)) → x ≡ asks_same entry (added m (turn b map m entry.actor).machine)
asks_some b map m entry r x e same =
    flag_is x (same_request entry.request r) (entry.request ≡ r) same (request_is entry.request r) (λ is. ap (λ (y : Request). same_request entry.request y) (sym is) ∙ request_self entry.request)
    ∙ sym (some_asks entry (added m (turn b map m entry.actor).machine) r e)
