-- The machine with caches and the flat machine side by side, from turn to turn.
use Rattle.std.proofs.Common.{◌≡◌, ℕ, zero, suc, ◌+◌, ◌-◌, ◌^◌, ◌<◌, ◌≤◌, ◌++◌, Bool, true, false, cond, eqb, not, List, [], ◌∷◌, length, map, replicate, drop, slice_get, Option, Some, None, IsTrue, refl, ap, sym, ◌∙◌, subst, arith}
use Rattle.std.specs.Prelude.{All}
use Rattle.std.proofs.lemmas.List.Elements.{All-nil, All-cons, All-head, All-tail, All-weaker}
use Rattle.std.proofs.lemmas.Bool.Decides.{nat_tests}
use Rattle.n2_parts.specs.declared.board.Board.{Board}
use Rattle.n2_parts.specs.declared.board.CoreRow.{CoreRow}
use Rattle.n2_parts.specs.declared.board.ScriptRow.{ScriptRow}
use Rattle.n2_parts.specs.declared.board.DeviceEvent.{DeviceEvent}
use Rattle.n2_parts.specs.declared.stops.Act.{Act}
use Rattle.n2_parts.specs.declared.stops.Act.TheVariants as acts_of
use Rattle.n2_parts.specs.Valid.{IsValid}
use Rattle.n2_board.specs.AddressMap.{AddressMap, address_map}
use Rattle.n2_bus.specs.declared.request.Request.{Request}
use Rattle.n2_bus.specs.declared.request.Request.TheVariants as requests
use Rattle.n2_bus.specs.Transfer.{request_for}
use Rattle.n2_bus.specs.Wiring.{wiring_of, proper}
use Rattle.n2_bus.proofs.Passing.{script_passes}
use Rattle.n2_journal.specs.declared.entry.Entry.{Entry}
use Rattle.n2_journal.specs.Journals.{Content, IsActorWithin, HasOrder, tail_turns, order_of}
use Rattle.n2_memory.specs.Memories.{Contents}
use Rattle.n2_front.specs.Core.{Core}
use Rattle.n2_front.specs.Turn.{core_turn, wants}
use Rattle.n2_runs.specs.Machine.{Machine, Made, has_room, events_of, turn, run, with_act, acts, script_is_over, core_is_over, is_over}
use Rattle.n2_runs.specs.FlatRun.{Flat, act, flat}
use Rattle.n2_runs.specs.Along.{IsAlong, after}
use Rattle.n2_runs.specs.Knows.{IsBookKept}
use Rattle.n2_runs.specs.Recorded.{actors_in, HasCounts}
use Rattle.n2_runs.proofs.Sets.{within}
use Rattle.n2_runs.proofs.Steps as steps
use Rattle.n2_runs.proofs.Turns.{run_keeps}
use Rattle.n2_runs.proofs.Views.{quiet_act_by, quiet_act, turn_cases}
use Rattle.n2_runs.proofs.Quiets.{turn_act}
use Rattle.n2_runs.proofs.Counted.{runs_on}
use Rattle.n2_runs.proofs.Compared.{true_false}
use Rattle.n2_smp.specs.declared.turns.Turned.TheVariants as answers
use Rattle.n2_smp.specs.Scripts.{left_of, left}
use Rattle.n2_smp.specs.Standing.{Parts, StandsFor, answer_of}
use Rattle.n2_smp.specs.Replayed.{Stands}
use Rattle.n2_flat.specs.State.{State, IsActOf, IsWhole, machine_of}
use Rattle.n2_driver.specs.Beside.{AreBeside, AreUnderway}

-- ---- what a turn answers is its act
pub acted_is : (x : Bool) (o : Option Act) (made : Act) → answers.Acted made ≡ answer_of x o → o ≡ Some made
acted_is true o made e = absurd (cc)
acted_is false None made e = absurd (cc)
acted_is false (Some act') made e = let same : act' ≡ made = cc in ap (λ (a : Act). Some a) same

pub local_is : (x : Bool) (o : Option Act) → answers.Local ≡ answer_of x o → o ≡ None
local_is true o e = absurd (cc)
local_is false None e = refl
local_is false (Some act') e = absurd (cc)

over_is : (x : Bool) (o : Option Act) → answers.Over ≡ answer_of x o → x ≡ true
over_is true o e = refl
over_is false None e = absurd (cc)
over_is false (Some act') e = absurd (cc)

-- ---- the script's next event is one of its rows
module _ (P : DeviceEvent → Type 0) where
  abbrev HoldsOf : List ScriptRow → Type 0
  HoldsOf rows = (i : ℕ) (row : ScriptRow) → slice_get rows i ≡ Some row → P row.event

  of_rest : (n : ℕ) (rows : List ScriptRow) → HoldsOf rows → HoldsOf (drop n rows)
  of_rest zero rows h = h
  of_rest (suc n) [] h = h
  of_rest (suc n) (row ∷ rows) h = of_rest n rows (λ i r e. h (suc i) r e)

  row_first : (row : ScriptRow) (n : ℕ) (more : List DeviceEvent) (event : DeviceEvent) (rest : List DeviceEvent) → P row.event → (more ≡ event ∷ rest → P event) → replicate n row.event ++ more ≡ event ∷ rest → P event
  row_first row zero more event rest p later e = later e
  row_first row (suc n) more event rest p later e = let same : row.event ≡ event = cc in subst P same p

  events_first : (rows : List ScriptRow) (event : DeviceEvent) (rest : List DeviceEvent) → HoldsOf rows → events_of rows ≡ event ∷ rest → P event
  events_first [] event rest h e = absurd (cc)
  events_first (row ∷ rows) event rest h e = row_first row row.times (events_of rows) event rest (h zero row refl) (events_first rows event rest (λ i r f. h (suc i) r f)) e

  left_first : (made : ℕ) (rows : List ScriptRow) (event : DeviceEvent) (rest : List DeviceEvent) → HoldsOf rows → left_of made rows ≡ event ∷ rest → P event
  left_first made [] event rest h e = absurd (cc)
  left_first made (row ∷ rows) event rest h e = row_first row (row.times - made) (events_of rows) event rest (h zero row refl) (events_first rows event rest (λ i r f. h (suc i) r f)) e

-- ---- an act is of a core, or an event of the board
own_act : (b : Board) (k : ℕ) → k < length b.core → (o : Option Act) → steps.IsActOf k o → (made : Act) → o ≡ Some made → IsActOf b made
own_act b k lt None its made e = absurd (cc)
own_act b k lt (Some (acts_of.Retire j)) its made e = let same : acts_of.Retire j ≡ made = cc in subst (IsActOf b) same (subst (λ (i : ℕ). i < length b.core) (sym its) lt)
own_act b k lt (Some (acts_of.Sample j)) its made e = let same : acts_of.Sample j ≡ made = cc in subst (IsActOf b) same (subst (λ (i : ℕ). i < length b.core) (sym its) lt)
own_act b k lt (Some (acts_of.Device event)) its made e = absurd its

module _ (v : Parts) (valid : IsValid v.board) (map : AddressMap) (m : Machine) (stands : StandsFor v m) (count : length m.cores ≡ length v.board.core) (actor : ℕ) where
  abbrev IsMadeOf : Made → Type 0
  IsMadeOf made = (a : Act) → made.act ≡ Some a → IsActOf v.board a

  quiet_made : (row : CoreRow) (c : Core) → (o : Option Request) → steps.IsActOf actor (quiet_act_by v.board map actor row m.world c o)
  quiet_made row c None = turn_act v.board map actor row c m.world
  quiet_made row c (Some request) = tt

  event_proper : (event : DeviceEvent) (script : List DeviceEvent) → m.script ≡ event ∷ script → IsTrue (proper (wiring_of v.board) (length v.board.core) (request_for event))
  event_proper event script e =
      left_first (λ (d : DeviceEvent). IsTrue (proper (wiring_of v.board) (length v.board.core) (request_for d))) v.script.made (drop v.script.row v.board.script) event script
      (of_rest (λ (d : DeviceEvent). IsTrue (proper (wiring_of v.board) (length v.board.core) (request_for d))) v.script.row v.board.script (λ i row there. script_passes v.board i row valid there))
      (stands.script ∙ e)

  pub made_of : (a : Act) → (turn v.board map m actor).act ≡ Some a → IsActOf v.board a
  unfolding quiet_act
  made_of =
      turn_cases v.board map m count actor IsMadeOf
      (λ over a e. absurd (cc))
      (λ row c at quiet a e. own_act v.board actor (within v.board.core actor row at.row_is) (quiet_act v.board map actor row m.world c) (quiet_made row c (wants v.board map actor row m.world.book c)) a e)
      (λ row c request at wants room a e. own_act v.board actor (within v.board.core actor row at.row_is) (core_turn v.board map actor row c m.world).act (turn_act v.board map actor row c m.world) a e)
      (λ event script last next room a e.
      let same : acts_of.Device event ≡ a = cc in
      subst (IsActOf v.board) same (event_proper event script next))

-- an actor that is over makes none
module _ (b : Board) (map : AddressMap) (m : Machine) (count : length m.cores ≡ length b.core) (actor : ℕ) where
  script_runs : (event : DeviceEvent) (script : List DeviceEvent) → actor ≡ length b.core → m.script ≡ event ∷ script → has_room b m ≡ true → is_over b m actor ≡ false
  script_runs event script last next room =
      ap (λ (x : Bool). cond x (script_is_over b m m.script) (core_is_over (slice_get m.cores actor))) at
      ∙ ap (script_is_over b m) next ∙ ap not room
    where
      at : eqb actor (length b.core) ≡ true
      at = grind (arith, nat_tests)

  none_made : is_over b m actor ≡ true → (turn b map m actor).act ≡ None
  none_made over =
      turn_cases b map m count actor (λ (made : Made). made.act ≡ None)
      (λ ended. refl)
      (λ row c at quiet. true_false (is_over b m actor) over (runs_on b map m actor row c at))
      (λ row c request at asks room. true_false (is_over b m actor) over (runs_on b map m actor row c at))
      (λ event script last next room. true_false (is_over b m actor) over (script_runs event script last next room))

  pub over_has_none : answers.Over ≡ answer_of (is_over b m actor) (turn b map m actor).act → (turn b map m actor).act ≡ None
  over_has_none e = none_made (over_is (is_over b m actor) (turn b map m actor).act e)

-- ---- the rest of an order
first_act : (b : Board) (map : AddressMap) (f : Flat) (o : Option Act) (rest : List Act) → flat b map f (with_act o rest) ≡ flat b map (after b map f o) rest
unfolding flat
first_act b map f None rest = refl
first_act b map f (Some made) rest = refl

kept_on : (v new : Parts) (m : Machine) → new.board ≡ v.board → new.map ≡ v.map → IsBookKept v.board v.map m → IsBookKept new.board new.map m
kept_on v new m board map kept =
    subst (λ (b : Board). IsBookKept b new.map m) (sym board) (subst (λ (g : AddressMap). IsBookKept v.board g m) (sym map) kept)

-- a turn, and its act if it has one
pub next_beside : (end : Machine) (flat_end : Flat) (v new : Parts) (f g : Flat) (actor : ℕ) (rest : List ℕ) → (u : AreUnderway end flat_end v f (actor ∷ rest)) → new.board ≡ v.board → new.map ≡ v.map → StandsFor new (turn v.board v.map u.state actor).machine → IsBookKept v.board v.map (turn v.board v.map u.state actor).machine → g ≡ after v.board v.map f (turn v.board v.map u.state actor).act → AreUnderway end flat_end new g rest
unfolding run acts
next_beside end flat_end v new f g actor rest u board map stands kept e =
    let made = turn v.board v.map u.state actor in
    record {
      state = made.machine;
      stands = (stands, kept_on v new made.machine board map kept);
      leads = ap (λ (b : Board). run b new.map made.machine rest) board ∙ ap (λ (m : AddressMap). run v.board m made.machine rest) map ∙ u.leads;
      flat_leads =
          ap (λ (b : Board). flat b new.map g (acts b new.map made.machine rest)) board
          ∙ ap (λ (m : AddressMap). flat v.board m g (acts v.board m made.machine rest)) map
          ∙ ap (λ (x : Flat). flat v.board v.map x (acts v.board v.map made.machine rest)) e
          ∙ sym (first_act v.board v.map f made.act (acts v.board v.map made.machine rest))
          ∙ u.flat_leads;
    }

pub beside_after : (v new : Parts) (map : AddressMap) (s t : State) (actor : ℕ) (h : AreBeside v map s) → new.board ≡ v.board → new.map ≡ v.map → t.board ≡ s.board → IsWhole map t → StandsFor new (turn v.board v.map h.state actor).machine → IsBookKept v.board v.map (turn v.board v.map h.state actor).machine → AreBeside new map t
beside_after v new map s t actor h board same flat_board whole stands kept = record {
  board = flat_board ∙ h.board ∙ sym board;
  map_is = h.map_is ∙ sym same;
  whole = whole;
  state = (turn v.board v.map h.state actor).machine;
  stands = (stands, kept_on v new (turn v.board v.map h.state actor).machine board same kept);
}

-- the act of a turn, for the flat machine
pub act_there : (v : Parts) (map : AddressMap) (s : State) (actor : ℕ) (made : Act) (h : AreBeside v map s) → answers.Acted made ≡ answer_of (is_over v.board h.state actor) (turn v.board v.map h.state actor).act → IsActOf s.board made
act_there v map s actor made h e =
    subst (λ (b : Board). IsActOf b made) (sym h.board)
    (made_of v (subst IsValid h.board h.whole.map_of.valid) v.map h.state h.stands.0 h.stands.1.count actor made (acted_is (is_over v.board h.state actor) (turn v.board v.map h.state actor).act made e))

pub acted_after : (v : Parts) (map : AddressMap) (s : State) (m : Machine) (g : Flat) (actor : ℕ) (made : Act) (h : AreBeside v map s) → answers.Acted made ≡ answer_of (is_over v.board m actor) (turn v.board v.map m actor).act → g ≡ act s.board map (machine_of s) made → g ≡ after v.board v.map (machine_of s) (turn v.board v.map m actor).act
acted_after v map s m g actor made h e done =
    done
    ∙ ap (λ (b : Board). act b map (machine_of s) made) h.board
    ∙ ap (λ (x : AddressMap). act v.board x (machine_of s) made) h.map_is
    ∙ ap (after v.board v.map (machine_of s)) (sym (acted_is (is_over v.board m actor) (turn v.board v.map m actor).act made e))

pub none_after : (v : Parts) (m : Machine) (f : Flat) (actor : ℕ) → (turn v.board v.map m actor).act ≡ None → f ≡ after v.board v.map f (turn v.board v.map m actor).act
none_after v m f actor e = ap (after v.board v.map f) (sym e)

-- the end of an order
at_end : (end : Machine) (flat_end : Flat) (v : Parts) (f : Flat) → AreUnderway end flat_end v f [] → Stands v end × (f ≡ flat_end)
unfolding run acts flat
at_end end flat_end v f u = (subst (Stands v) u.leads u.stands, u.flat_leads)

-- a whole order, by the groups of its turns
pub led : (v new : Parts) (f g : Flat) (groups told : List (ℕ × ℕ)) → groups ≡ told → ((end : Machine) (flat_end : Flat) → AreUnderway end flat_end v f (actors_in groups) → AreUnderway end flat_end new g [])
    → (m : Machine) → StandsFor v m → IsBookKept v.board v.map m → Stands new (run v.board v.map m (actors_in told)) × (g ≡ flat v.board v.map f (acts v.board v.map m (actors_in told)))
led v new f g groups told e leads m stands kept =
    let end = run v.board v.map m (actors_in told) in
    let flat_end = flat v.board v.map f (acts v.board v.map m (actors_in told)) in
    let start : AreUnderway end flat_end v f (actors_in told) = record { state = m; stands = (stands, kept); leads = refl; flat_leads = refl } in
    at_end end flat_end new g (leads end flat_end (subst (λ (gs : List (ℕ × ℕ)). AreUnderway end flat_end v f (actors_in gs)) (sym e) start))

-- the flat machine that makes the acts of a run agrees with it
pub along_after : (v : Parts) (map : AddressMap) (s : State) → AreBeside v map s → (first : Contents) (m : Machine) (order : List ℕ) (g : Flat) → g ≡ flat v.board v.map (machine_of s) (acts v.board v.map m order) → IsAlong v.board v.map first m (machine_of s) → IsAlong v.board v.map first (run v.board v.map m order) g
along_after v map s h first m order g e along =
    let of = h.whole.map_of in
    subst (λ (x : Flat). IsAlong v.board v.map first (run v.board v.map m order) x) (sym e)
    (run_keeps v.board of.images v.map (subst IsValid h.board of.valid) (sym h.map_is ∙ of.maps ∙ ap (λ (b : Board). address_map b of.images) h.board) first order m (machine_of s) along)

-- ---- groups of turns
pub one_turn : (n rest actor : ℕ) (left : List ℕ) → n ≡ suc rest → replicate n actor ++ left ≡ actor ∷ (replicate rest actor ++ left)
one_turn n rest actor left e = ap (λ (k : ℕ). replicate k actor ++ left) e

pub no_turn_left : (n actor : ℕ) (left : List ℕ) → n ≡ 0 → replicate n actor ++ left ≡ left
no_turn_left n actor left e = ap (λ (k : ℕ). replicate k actor ++ left) e

-- the actors of a journal are actors of the board, and its turns can be counted
actor_within : (cores actor local : ℕ) (request : Request) → IsActorWithin cores actor local request → (actor ≤ cores) × (local ≤ 1000000000)
actor_within cores actor local (requests.FillCode line) h = (omega (arith, h.0), h.1)
actor_within cores actor local (requests.FillData line) h = (omega (arith, h.0), h.1)
actor_within cores actor local (requests.WriteBack line words) h = (omega (arith, h.0), h.1)
actor_within cores actor local (requests.Read address width) h = (omega (arith, h.0), h.1)
actor_within cores actor local (requests.Write address width value) h = (omega (arith, h.0), h.1)
actor_within cores actor local requests.Sample h = (omega (arith, h.0), h.1)
actor_within cores actor local (requests.Tick n) h = (omega (arith, h.0), omega (arith, h.1))
actor_within cores actor local (requests.Receive uart) h = (omega (arith, h.0), omega (arith, h.1))
actor_within cores actor local (requests.Drain uart) h = (omega (arith, h.0), omega (arith, h.1))

abbrev IsEntryWithin : ℕ → Entry → Type 0
IsEntryWithin cores entry = IsActorWithin cores entry.actor entry.local entry.request

abbrev Within : ℕ → ℕ × ℕ → Type 0
Within cores group = group.0 ≤ cores

tails_within : (cores core : ℕ) (ts : List ℕ) → core + length ts ≤ cores → All (Within cores) (tail_turns core ts)
tails_within cores core [] le = All-nil (Within cores)
tails_within cores core (t ∷ ts) le = All-cons (Within cores) (core, t) (tail_turns (core + 1) ts) (omega arith) (tails_within cores (core + 1) ts (omega arith))

abbrev of_entry : Entry → ℕ × ℕ
of_entry entry = (entry.actor, entry.local + 1)

entries_within : (cores : ℕ) (es : List Entry) (more : List (ℕ × ℕ)) → All (IsEntryWithin cores) es → All (Within cores) more → All (Within cores) (map of_entry es ++ more)
entries_within cores [] more h rest = rest
entries_within cores (e ∷ es) more h rest =
    All-cons (Within cores) (of_entry e) (map of_entry es ++ more) (actor_within cores e.actor e.local e.request (All-head (IsEntryWithin cores) e es h)).0 (entries_within cores es more (All-tail (IsEntryWithin cores) e es h) rest)

pub groups_within : (cores : ℕ) (j : Content) → HasCounts cores j → All (λ group. group.0 ≤ cores) (order_of j)
groups_within cores j h = let count = h.tails_are in entries_within cores j.entries (tail_turns 0 j.tails) h.entries (tails_within cores 0 j.tails (omega (arith, count)))

pub order_told : (cores : ℕ) (j : Content) → HasCounts cores j → HasOrder j
order_told cores j h =
    All-weaker (IsEntryWithin cores) (λ entry. entry.local + 1 < 2 ^ 64) (λ entry within. let le = (actor_within cores entry.actor entry.local entry.request within).1 in omega arith) j.entries h.entries
