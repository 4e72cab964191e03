-- A turn is one of four: of an actor that is over, without a transfer, with one, and an event.
use Rattle.std.proofs.Common.{◌≡◌, ℕ, zero, suc, ◌<◌, ◌≤◌, ◌+◌, ◌⊎◌, inl, inr, Bool, true, false, cond, eqb, not, List, [], ◌∷◌, length, slice_get, slice_set, Option, Some, None, refl, ap, sym, ◌∙◌, arith, subst}
use Rattle.std.specs.Prelude.{is_some}
use Rattle.std.proofs.lemmas.Bool.Decides.{nat_tests}
use Rattle.n2_parts.specs.declared.board.Board.{Board}
use Rattle.n2_parts.specs.declared.board.CoreRow.{CoreRow}
use Rattle.n2_parts.specs.declared.board.DeviceEvent.{DeviceEvent}
use Rattle.n2_parts.specs.declared.stops.Stop.{Stop}
use Rattle.n2_parts.specs.declared.stops.Act.{Act}
use Rattle.n2_board.specs.AddressMap.{AddressMap}
use Rattle.n2_bus.specs.declared.request.Request.{Request}
use Rattle.n2_bus.specs.Transfer.{request_for}
use Rattle.n2_watch.specs.World.{World, transferred}
use Rattle.n2_front.specs.Core.{Core, stop_of, log_full}
use Rattle.n2_front.specs.Turn.{CoreTurn, wants, core_turn}
use Rattle.n2_runs.specs.Machine.{Machine, Made, unmoved, has_room, entry_of, entered, full_made, made_by, core_made, core_of, event_made, script_made, turn, script_is_over, core_is_over, is_over}
use Rattle.n2_runs.proofs.Sets.{within}
use Rattle.n2_runs.proofs.Known.{local_world, local_count}

abbrev pub put : Machine → ℕ → Core → Machine
put m k c = record { world = m.world; cores = slice_set m.cores k c; entries = m.entries; script = m.script }

-- core k is this one, and runs
pub record IsCoreAt (b : Board) (m : Machine) (k : ℕ) (row : CoreRow) (c : Core) : Type 0 where
  pub row_is : slice_get b.core k ≡ Some row
  pub there : slice_get m.cores k ≡ Some c
  pub runs : stop_of c ≡ None

module _ (b : Board) (map : AddressMap) (k : ℕ) (row : CoreRow) where
  -- a core after a turn that makes no transfer, and the turn's act
  abbrev pub quiet_by : World → Core → Option Request → Core
  quiet_by w c None = (core_turn b map k row c w).core
  quiet_by w c (Some request) = log_full c

  abbrev pub quiet_act_by : World → Core → Option Request → Option Act
  quiet_act_by w c None = (core_turn b map k row c w).act
  quiet_act_by w c (Some request) = None

  unfoldable pub quiet : World → Core → Core
  quiet w c = quiet_by w c (wants b map k row w.book c)

  unfoldable pub quiet_act : World → Core → Option Act
  quiet_act w c = quiet_act_by w c (wants b map k row w.book c)

  -- its next turn makes none: it wants none, or there is no room
  abbrev pub IsQuiet : Bool → World → Core → Type 0
  IsQuiet room w c = (wants b map k row w.book c ≡ None) ⊎ (room ≡ false)

  count_by : (w : World) (c : Core) (o : Option Request) → wants b map k row w.book c ≡ o → (quiet_by w c o).local ≡ c.local + 1
  count_by w c None e = local_count b map k row c w e
  count_by w c (Some request) e = refl

  pub quiet_count : (w : World) (c : Core) → (quiet w c).local ≡ c.local + 1
  unfolding quiet
  quiet_count w c = count_by w c (wants b map k row w.book c) refl

  module _ (m : Machine) (c : Core) (h : IsCoreAt b m k row c) where
    lt : k < length b.core
    lt = within b.core k row h.row_is

    apart : eqb k (length b.core) ≡ false
    apart = grind (arith, nat_tests, lt)

    abbrev t : CoreTurn
    t = core_turn b map k row c m.world

    core_is : turn b map m k ≡ made_by b m k c t (wants b map k row m.world.book c)
    unfolding turn core_turn
    core_is = rw (apart, h.row_is, h.there, h.runs) refl

    no_room : (request : Request) (x : Bool) → x ≡ false → cond x (entered m k t (entry_of k c t request)) (full_made m k c) ≡ full_made m k c
    no_room request true e = absurd (cc)
    no_room request false e = refl

    quiet_made : (o : Option Request) → wants b map k row m.world.book c ≡ o → (o ≡ None) ⊎ (has_room b m ≡ false) → made_by b m k c t o ≡ record { machine = put m k (quiet_by m.world c o); act = quiet_act_by m.world c o }
    quiet_made None e q = ap (λ (w : World). record { machine = record { world = w; cores = slice_set m.cores k t.core; entries = m.entries; script = m.script }; act = t.act }) (local_world b map k row c m.world e)
    quiet_made (Some request) e (inl q) = absurd (cc)
    quiet_made (Some request) e (inr q) = no_room request (has_room b m) q

    -- without a transfer
    pub turn_quiet : IsQuiet (has_room b m) m.world c → turn b map m k ≡ record { machine = put m k (quiet m.world c); act = quiet_act m.world c }
    unfolding quiet quiet_act
    turn_quiet q = core_is ∙ quiet_made (wants b map k row m.world.book c) refl q

    -- with one
    pub turn_enters : (request : Request) → wants b map k row m.world.book c ≡ Some request → has_room b m ≡ true → turn b map m k ≡ entered m k t (entry_of k c t request)
    turn_enters request e room =
        core_is ∙ ap (made_by b m k c t) e ∙ ap (λ (x : Bool). cond x (entered m k t (entry_of k c t request)) (full_made m k c)) room

-- an event
pub turn_event : (b : Board) (map : AddressMap) (m : Machine) (event : DeviceEvent) (script : List DeviceEvent) → m.script ≡ event ∷ script → has_room b m ≡ true → turn b map m (length b.core) ≡ event_made b m event script (transferred b map (length b.core) m.world (request_for event))
unfolding turn
turn_event b map m event script e room =
    ap (λ (x : Bool). cond x (script_made b map m m.script) (core_of b map m (length b.core) (slice_get b.core (length b.core)) (slice_get m.cores (length b.core)))) apart
    ∙ ap (script_made b map m) e
    ∙ ap (λ (x : Bool). cond x (event_made b m event script (transferred b map (length b.core) m.world (request_for event))) (unmoved m)) room
  where
    apart : eqb (length b.core) (length b.core) ≡ true
    apart = grind (arith, nat_tests)

some_at : {X : Type 0} (xs : List X) (i : ℕ) → slice_get xs i ≡ None → length xs ≤ i
some_at [] i e = omega arith
some_at (x ∷ xs) zero e = absurd (cc)
some_at (x ∷ xs) (suc i) e = let lt : length xs ≤ i = some_at xs i e in omega arith

-- whatever holds in each of the four holds of every turn
module _ (b : Board) (map : AddressMap) (m : Machine) (count : length m.cores ≡ length b.core) (actor : ℕ) (P : Made → Type 0)
    (over : is_over b m actor ≡ true → P (unmoved m))
    (quiets : (row : CoreRow) (c : Core) → IsCoreAt b m actor row c → IsQuiet b map actor row (has_room b m) m.world c → P (record { machine = put m actor (quiet b map actor row m.world c); act = quiet_act b map actor row m.world c }))
    (enters : (row : CoreRow) (c : Core) (request : Request) → IsCoreAt b m actor row c → wants b map actor row m.world.book c ≡ Some request → has_room b m ≡ true → P (entered m actor (core_turn b map actor row c m.world) (entry_of actor c (core_turn b map actor row c m.world) request)))
    (happens : (event : DeviceEvent) (script : List DeviceEvent) → actor ≡ length b.core → m.script ≡ event ∷ script → has_room b m ≡ true → P (event_made b m event script (transferred b map (length b.core) m.world (request_for event)))) where
  wants_cases : (row : CoreRow) (c : Core) (o : Option Request) → wants b map actor row m.world.book c ≡ o → (room : Bool) → has_room b m ≡ room → IsCoreAt b m actor row c → P (turn b map m actor)
  wants_cases row c None e room r h = subst P (sym (turn_quiet b map actor row m c h (inl e))) (quiets row c h (inl e))
  wants_cases row c (Some request) e false r h = subst P (sym (turn_quiet b map actor row m c h (inr r))) (quiets row c h (inr r))
  wants_cases row c (Some request) e true r h = subst P (sym (turn_enters b map actor row m c h request e r)) (enters row c request h e r)

  stop_cases : (row : CoreRow) (c : Core) (stop : Option Stop) → is_over b m actor ≡ core_is_over (slice_get m.cores actor) → slice_get b.core actor ≡ Some row → slice_get m.cores actor ≡ Some c → stop_of c ≡ stop → P (core_made b map m actor row c stop)
  unfolding core_turn
  stop_cases row c None o i e s =
      let h : IsCoreAt b m actor row c = record { row_is = i; there = e; runs = s } in
      subst P (core_is b map actor row m c h) (wants_cases row c (wants b map actor row m.world.book c) refl (has_room b m) refl h)
  stop_cases row c (Some stop) o i e s = over (o ∙ ap core_is_over e ∙ ap (λ (x : Option Stop). is_some x) s)

  core_cases : (row : Option CoreRow) (c : Option Core) → is_over b m actor ≡ core_is_over (slice_get m.cores actor) → slice_get b.core actor ≡ row → slice_get m.cores actor ≡ c → P (core_of b map m actor row c)
  core_cases None None o i e = over (o ∙ ap core_is_over e)
  core_cases None (Some c) o i e = let lt = within m.cores actor c e in let le = some_at b.core actor i in absurd (omega (arith, count))
  core_cases (Some row) None o i e = over (o ∙ ap core_is_over e)
  core_cases (Some row) (Some c) o i e = stop_cases row c (stop_of c) o i e refl

  room_cases : (event : DeviceEvent) (script : List DeviceEvent) (room : Bool) → actor ≡ length b.core → is_over b m actor ≡ script_is_over b m m.script → m.script ≡ event ∷ script → has_room b m ≡ room → P (cond room (event_made b m event script (transferred b map (length b.core) m.world (request_for event))) (unmoved m))
  room_cases event script true a o e r = happens event script a e r
  room_cases event script false a o e r = over (o ∙ ap (script_is_over b m) e ∙ ap not r)

  script_cases : (script : List DeviceEvent) → actor ≡ length b.core → is_over b m actor ≡ script_is_over b m m.script → m.script ≡ script → P (script_made b map m script)
  script_cases [] a o e = over (o ∙ ap (script_is_over b m) e)
  script_cases (event ∷ script) a o e = room_cases event script (has_room b m) a o e refl

  actor_cases : (x : Bool) → eqb actor (length b.core) ≡ x → P (cond x (script_made b map m m.script) (core_of b map m actor (slice_get b.core actor) (slice_get m.cores actor)))
  actor_cases true e = script_cases m.script (grind (arith, nat_tests)) (ap (λ (x : Bool). cond x (script_is_over b m m.script) (core_is_over (slice_get m.cores actor))) e) refl
  actor_cases false e = core_cases (slice_get b.core actor) (slice_get m.cores actor) (ap (λ (x : Bool). cond x (script_is_over b m m.script) (core_is_over (slice_get m.cores actor))) e) refl refl

  pub turn_cases : P (turn b map m actor)
  unfolding turn
  turn_cases = actor_cases (eqb actor (length b.core)) refl
