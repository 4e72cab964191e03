-- A machine that follows a replay, turn by turn.
use Rattle.std.proofs.Common.{◌≡◌, ℕ, zero, suc, ◌+◌, ◌-◌, ◌<◌, ◌≤◌, Bool, true, false, cond, eqb, List, [], ◌∷◌, length, drop, slice_get, slice_set, ◌++◌, Option, Some, None, refl, ap, sym, ◌∙◌, arith, subst}
use Rattle.std.specs.Prelude.{Result, Ok, Err, IsTrue, ◌↔◌, if◌then◌else◌}
use Rattle.std.proofs.lemmas.Bool.Decides.{nat_tests}
use Rattle.n2_parts.specs.declared.board.Board.{Board}
use Rattle.n2_parts.specs.declared.board.CoreRow.{CoreRow}
use Rattle.n2_parts.specs.declared.board.DeviceEvent.{DeviceEvent}
use Rattle.n2_board.specs.AddressMap.{AddressMap}
use Rattle.n2_elf.specs.declared.image.Image.{Image}
use Rattle.n2_bus.specs.declared.request.Request.TheVariants.{FillCode}
use Rattle.n2_bus.specs.Transfer.{BusState, request_for}
use Rattle.n2_watch.specs.World.{transferred}
use Rattle.n2_journal.specs.declared.entry.Entry.{Entry}
use Rattle.n2_journal.specs.Journals.{Content, Limited}
use Rattle.n2_front.specs.Core.{Core}
use Rattle.n2_cpu.specs.declared.state.State.{State}
use Rattle.n2_runs.specs.Machine.{Machine, Made, start, event_made, is_over, script_is_over, core_is_over, turn}
use Rattle.n2_runs.specs.Knows.{IsBookKept}
use Rattle.n2_runs.specs.Same.{same_request, same_entry}
use Rattle.n2_runs.specs.Replay.{Differs, and_then, added, if_quiet, if_same, quiet_turn, quiet_turns, entry_turn, entry_row, entry_rows, if_stopped, tail_row, tail_rows, end_row, at_row, replayed}
use Rattle.n2_runs.specs.Recorded.{Records}
use Rattle.n2_runs.proofs.Followed.{replays_only, replays_all}
use Rattle.n2_runs.proofs.Lists.{slice_set-same}
use Rattle.n2_runs.proofs.Sets.{within}
use Rattle.n2_runs.proofs.Compared.{added_none, added_some}
use Rattle.n2_runs.proofs.Sames.{entry_is, entry_self}
use Rattle.n2_runs.proofs.Views.{turn_cases}
use Rattle.n2_smp.specs.Standing.{Parts, StandsFor, IsSound, StandsAt}
use Rattle.n2_smp.specs.Replayed.{Follows, FollowsRows, IsReplayed, IsQuietAt, asks_same}
use Rattle.n2_smp.specs.declared.replay.Wrong.{Wrong}
use Rattle.n2_smp.proofs.Quiet.{if_added}
use Rattle.n2_smp.proofs.Machines.{core_stands, core_sound, kept_after}

pub record IsAt (v : Parts) (P : Machine → Type 0) : Type 0 where
  pub state : Machine
  pub is : P state
  pub stands : StandsFor v state
  pub kept : IsBookKept v.board v.map state

pub follows_on : (v : Parts) (o : Result Machine Machine) → Follows v true o → IsAt v (λ m. o ≡ Ok m)
follows_on v (Ok m) h = record { state = m; is = refl; stands = h.0; kept = h.1 }
follows_on v (Err m) h = absurd h

pub follows_off : (v : Parts) (o : Result Machine Machine) → Follows v false o → IsAt v (λ m. o ≡ Err m)
follows_off v (Err m) h = record { state = m; is = refl; stands = h.0; kept = h.1 }
follows_off v (Ok m) h = absurd h

moved_stands : (v : Parts) (m x : Machine) → m ≡ x → StandsFor v m → IsBookKept v.board v.map m → StandsFor v x × IsBookKept v.board v.map x
moved_stands v m x same h kept = (subst (λ (y : Machine). StandsFor v y) same h, subst (λ (y : Machine). IsBookKept v.board v.map y) same kept)

pub is_off : (v : Parts) (o : Result Machine Machine) (m : Machine) → o ≡ Err m → StandsFor v m → IsBookKept v.board v.map m → Follows v false o
is_off v (Ok x) m e h kept = absurd (cc)
is_off v (Err x) m e h kept = let same : m ≡ x = cc in moved_stands v m x same h kept

pub is_on : (v : Parts) (o : Result Machine Machine) (m : Machine) → o ≡ Ok m → StandsFor v m → IsBookKept v.board v.map m → Follows v true o
is_on v (Err x) m e h kept = absurd (cc)
is_on v (Ok x) m e h kept = let same : m ≡ x = cc in moved_stands v m x same h kept

-- ---- a loop: the state that has been reached, from which what is left comes to the same as the whole
pub record IsOnTheWay {R : Type 0} (v : Parts) (whole : R) (rest : Board → AddressMap → Machine → R) : Type 0 where
  pub state : Machine
  pub stands : StandsFor v state
  pub kept : IsBookKept v.board v.map state
  pub same : whole ≡ rest v.board v.map state

module _ {R : Type 0} (v w : Parts) (whole : R) (rest next : Board → AddressMap → Machine → R) (step : Board → AddressMap → Machine → Result Machine Machine) (h : IsOnTheWay v whole rest) where
  pub goes_on : w.board ≡ v.board → w.map ≡ v.map → Follows w true (step v.board v.map h.state) → ((y : Machine) → step v.board v.map h.state ≡ Ok y → rest v.board v.map h.state ≡ next v.board v.map y) → IsOnTheWay w whole next
  goes_on board map follows more =
      let x = follows_on w (step v.board v.map h.state) follows in
      record {
        state = x.state;
        stands = x.stands;
        kept = x.kept;
        same = h.same ∙ more x.state x.is ∙ ap (λ (b : Board). next b v.map x.state) (sym board) ∙ ap (λ (g : AddressMap). next w.board g x.state) (sym map);
      }

  pub goes_off : (last : Machine → R) → Follows w false (step v.board v.map h.state) → ((y : Machine) → step v.board v.map h.state ≡ Err y → rest v.board v.map h.state ≡ last y) → IsAt w (λ m. whole ≡ last m)
  goes_off last follows off =
      let x = follows_off w (step v.board v.map h.state) follows in
      record { state = x.state; is = h.same ∙ off x.state x.is; stands = x.stands; kept = x.kept }

-- ---- turns without a transfer
module _ (b : Board) (map : AddressMap) (actor : ℕ) where
  pub turns_on : (n k : ℕ) (x y : Machine) → k ≡ suc n → quiet_turn b map x actor ≡ Ok y → quiet_turns b map actor k x ≡ quiet_turns b map actor n y
  unfolding quiet_turns
  turns_on n k x y e h = ap (λ (i : ℕ). quiet_turns b map actor i x) e ∙ ap (λ (o : Result Machine Machine). and_then (quiet_turns b map actor n) o) h

  pub turns_off : (n k : ℕ) (x y : Machine) → k ≡ suc n → quiet_turn b map x actor ≡ Err y → quiet_turns b map actor k x ≡ Err y
  unfolding quiet_turns
  turns_off n k x y e h = ap (λ (i : ℕ). quiet_turns b map actor i x) e ∙ ap (λ (o : Result Machine Machine). and_then (quiet_turns b map actor n) o) h

  pub turns_none : (k : ℕ) (x : Machine) → k ≡ 0 → quiet_turns b map actor k x ≡ Ok x
  unfolding quiet_turns
  turns_none k x e = ap (λ (i : ℕ). quiet_turns b map actor i x) e

entry_added : (x : Bool) (m after : Machine) (entry : Entry) → after.entries ≡ m.entries ++ entry ∷ [] → if_quiet m x after (added m after) ≡ Err m
entry_added x m after entry e = if_added m x after (added m after) entry (added_some m after entry e)

-- an actor that is no core makes none
pub no_core_quiet : (b : Board) (map : AddressMap) (m : Machine) → length m.cores ≡ length b.core → (actor : ℕ) → length b.core ≤ actor → quiet_turn b map m actor ≡ Err m
unfolding quiet_turn
no_core_quiet b map m count actor le =
    turn_cases b map m count actor (λ (x : Made). if_quiet m (is_over b m actor) x.machine (added m x.machine) ≡ Err m)
    (λ e. ap (λ (x : Bool). if_quiet m x m (added m m)) e)
    (λ row c h quiet. let lt = within b.core actor row h.row_is in absurd (omega arith))
    (λ row c request h wants room. let lt = within b.core actor row h.row_is in absurd (omega arith))
    (λ event script e h room. entry_added (is_over b m actor) m (event_made b m event script (transferred b map (length b.core) m.world (request_for event))).machine (record { actor = length b.core; local = 0; request = request_for event; reply = (transferred b map (length b.core) m.world (request_for event)).reply }) refl)

-- ---- a turn of a core without a transfer
module _ (v : Parts) (sound : IsSound v) (k : ℕ) (value : State) (found : slice_get v.cores k ≡ Some value) (new : State) where
  abbrev pub moved : Parts
  moved = record { board = v.board; map = v.map; cores = slice_set v.cores k new; bus = v.bus; journal = v.journal; script = v.script }

  abbrev pub Told : Bool → Type 0
  Told x = (b : Board) (behind : BusState) (m : Machine) → StandsAt b v.map k value behind v.journal m → IsBookKept b v.map m → IsQuietAt b v.map k value new behind v.journal m x

  unmoved_is : new ≡ value → moved ≡ v
  unmoved_is same = ap (λ (s : State). record { board = v.board; map = v.map; cores = slice_set v.cores k s; bus = v.bus; journal = v.journal; script = v.script }) same ∙ ap (λ (xs : List State). record { board = v.board; map = v.map; cores = xs; bus = v.bus; journal = v.journal; script = v.script }) (slice_set-same v.cores k value found)

  pub quiet_sound : (x : Bool) → Told x → (x ≡ false → new ≡ value) → IsSound moved
  quiet_sound true told same = core_sound v sound k value found new v.bus v.journal (λ b m at kept. (told b v.bus m at kept).0) refl (λ h. h)
  quiet_sound false told same = subst (λ (y : Parts). IsSound y) (sym (unmoved_is (same refl))) sound

  pub quiet_follows : (x : Bool) → Told x → (m : Machine) → StandsFor v m → IsBookKept v.board v.map m → (at : StandsAt v.board v.map k value v.bus v.journal m) → (x ≡ false → new ≡ value) → Follows moved x (quiet_turn v.board v.map m k)
  quiet_follows true told m h kept at same =
      is_on moved (quiet_turn v.board v.map m k) (turn v.board v.map m k).machine (told v.board v.bus m at kept).1
      (core_stands v sound k value found new v.bus v.journal (λ b n at kept. (told b v.bus n at kept).0) m h kept)
      (kept_after v sound m k kept)
  quiet_follows false told m h kept at same = is_off moved (quiet_turn v.board v.map m k) m (told v.board v.bus m at kept) (subst (λ (y : Parts). StandsFor y m) (sym (unmoved_is (same refl))) h) kept

-- ---- the turn of an entry
module _ (b : Board) (map : AddressMap) (m : Machine) (entry : Entry) where
  abbrev after : Machine
  after = (turn b map m entry.actor).machine

  by_flags : (o : Entry) (asks same : Bool) → same_request entry.request o.request ≡ asks → same_entry entry o ≡ same → if_same m entry after (Some o) ≡ (if asks then (if same then Ok after else Err after) else Err m)
  by_flags o asks same e h = ap (λ (y : Bool). if y then (if same_entry entry o then Ok after else Err after) else Err m) e ∙ ap (λ (y : Bool). if asks then (if y then Ok after else Err after) else Err m) h

  with_added : (o : Option Entry) → added m (turn b map m entry.actor).machine ≡ o → entry_turn b map entry m ≡ if_same m entry (turn b map m entry.actor).machine o
  unfolding entry_turn
  with_added o e = ap (λ (y : Option Entry). if_same m entry (turn b map m entry.actor).machine y) e

  unasked_by : (o : Option Entry) → asks_same entry o ≡ false → if_same m entry after o ≡ Err m
  unasked_by None e = refl
  unasked_by (Some o) e = by_flags o false (same_entry entry o) e refl

  -- a turn that does not ask for the entry's transfer is not made
  pub unasked : asks_same entry (added m (turn b map m entry.actor).machine) ≡ false → entry_turn b map entry m ≡ Err m
  unasked e = with_added (added m (turn b map m entry.actor).machine) refl ∙ unasked_by (added m (turn b map m entry.actor).machine) e

  pub record IsAsked : Type 0 where
    pub made : Entry
    pub is : added m (turn b map m entry.actor).machine ≡ Some made
    pub same : same_request entry.request made.request ≡ true

  asked_by : (o : Option Entry) → added m (turn b map m entry.actor).machine ≡ o → asks_same entry o ≡ true → IsAsked
  asked_by None e a = absurd (cc)
  asked_by (Some made) e a = record { made = made; is = e; same = a }

  pub asked : asks_same entry (added m (turn b map m entry.actor).machine) ≡ true → IsAsked
  asked a = asked_by (added m (turn b map m entry.actor).machine) refl a

  not_same : (x : Bool) (o : Entry) → same_entry entry o ≡ x → (entry ≡ o → ⊥) → x ≡ false
  not_same true o e n = absurd (n (entry_is entry o e))
  not_same false o e n = refl

  -- a turn that asks for it is made, and agrees where its entry is this one
  pub entry_follows : (w : Parts) → StandsFor w (turn b map m entry.actor).machine → IsBookKept w.board w.map (turn b map m entry.actor).machine → (made : Entry) → added m (turn b map m entry.actor).machine ≡ Some made → same_request entry.request made.request ≡ true → (x : Bool) → ((x ≡ true) ↔ (entry ≡ made)) → Follows w x (entry_turn b map entry m)
  entry_follows w h kept made e asks true same =
      let equal : same_entry entry made ≡ true = ap (λ (y : Entry). same_entry entry y) (sym (same.0 refl)) ∙ entry_self entry in
      is_on w (entry_turn b map entry m) (turn b map m entry.actor).machine (with_added (Some made) e ∙ by_flags made true true asks equal) h kept
  entry_follows w h kept made e asks false same =
      let other : same_entry entry made ≡ false = not_same (same_entry entry made) made refl (λ is. let z : false ≡ true = same.1 is in absurd (cc)) in
      is_off w (entry_turn b map entry m) (turn b map m entry.actor).machine (with_added (Some made) e ∙ by_flags made true false asks other) h kept

-- ---- rows
abbrev pub stopped_at : ℕ → Machine → Result Machine Differs
stopped_at row m = Err (record { row = row; machine = m })

module _ (b : Board) (map : AddressMap) where
  pub entries_on : (row next : ℕ) (entry : Entry) (es rest : List Entry) (x y : Machine) → es ≡ entry ∷ rest → next ≡ row + 1 → entry_row b map entry x ≡ Ok y → entry_rows b map row es x ≡ entry_rows b map next rest y
  unfolding entry_rows
  entries_on row next entry es rest x y e n h =
      ap (λ (l : List Entry). entry_rows b map row l x) e
      ∙ ap (λ (o : Result Machine Machine). at_row row (entry_rows b map (row + 1) rest) o) h
      ∙ ap (λ (k : ℕ). entry_rows b map k rest y) (sym n)

  pub entries_off : (row : ℕ) (entry : Entry) (es rest : List Entry) (x y : Machine) → es ≡ entry ∷ rest → entry_row b map entry x ≡ Err y → entry_rows b map row es x ≡ stopped_at row y
  unfolding entry_rows
  entries_off row entry es rest x y e h =
      ap (λ (l : List Entry). entry_rows b map row l x) e ∙ ap (λ (o : Result Machine Machine). at_row row (entry_rows b map (row + 1) rest) o) h

  pub entries_end : (row : ℕ) (es : List Entry) (x : Machine) → es ≡ [] → entry_rows b map row es x ≡ Ok x
  unfolding entry_rows
  entries_end row es x e = ap (λ (l : List Entry). entry_rows b map row l x) e

  not_last : (core : ℕ) → core < length b.core → eqb core (length b.core) ≡ false
  not_last core lt = grind (arith, nat_tests)

  last : (core : ℕ) → core ≡ length b.core → eqb core (length b.core) ≡ true
  last core e = grind (arith, nat_tests)

  other : (core : ℕ) → (core ≡ length b.core → ⊥) → eqb core (length b.core) ≡ false
  other core n = grind (arith, nat_tests)

  pub tails_on : (row next core more tail : ℕ) (ts rest : List ℕ) (x y : Machine) → ts ≡ tail ∷ rest → next ≡ row + 1 → more ≡ core + 1 → core < length b.core → tail_row b map core tail x ≡ Ok y → tail_rows b map row core ts x ≡ tail_rows b map next more rest y
  unfolding tail_rows
  tails_on row next core more tail ts rest x y e n k lt h =
      ap (λ (l : List ℕ). tail_rows b map row core l x) e
      ∙ ap (λ (t : Bool). at_row row (tail_rows b map (row + 1) (core + 1) rest) (if t then Err x else tail_row b map core tail x)) (not_last core lt)
      ∙ ap (λ (o : Result Machine Machine). at_row row (tail_rows b map (row + 1) (core + 1) rest) o) h
      ∙ ap (λ (i : ℕ). tail_rows b map i (core + 1) rest y) (sym n)
      ∙ ap (λ (i : ℕ). tail_rows b map next i rest y) (sym k)

  pub tails_off : (row core tail : ℕ) (ts rest : List ℕ) (x y : Machine) → ts ≡ tail ∷ rest → core < length b.core → tail_row b map core tail x ≡ Err y → tail_rows b map row core ts x ≡ stopped_at row y
  unfolding tail_rows
  tails_off row core tail ts rest x y e lt h =
      ap (λ (l : List ℕ). tail_rows b map row core l x) e
      ∙ ap (λ (t : Bool). at_row row (tail_rows b map (row + 1) (core + 1) rest) (if t then Err x else tail_row b map core tail x)) (not_last core lt)
      ∙ ap (λ (o : Result Machine Machine). at_row row (tail_rows b map (row + 1) (core + 1) rest) o) h

  -- a tail too many
  pub tails_long : (row core tail : ℕ) (ts rest : List ℕ) (x : Machine) → ts ≡ tail ∷ rest → core ≡ length b.core → tail_rows b map row core ts x ≡ stopped_at row x
  unfolding tail_rows
  tails_long row core tail ts rest x e k =
      ap (λ (l : List ℕ). tail_rows b map row core l x) e
      ∙ ap (λ (t : Bool). at_row row (tail_rows b map (row + 1) (core + 1) rest) (if t then Err x else tail_row b map core tail x)) (last core k)

  -- a tail too few
  pub tails_short : (row core : ℕ) (ts : List ℕ) (x : Machine) → ts ≡ [] → (core ≡ length b.core → ⊥) → tail_rows b map row core ts x ≡ stopped_at row x
  unfolding tail_rows
  tails_short row core ts x e n = ap (λ (l : List ℕ). tail_rows b map row core l x) e ∙ ap (λ (t : Bool). at_row row (λ end. Ok end) (if t then end_row b x else Err x)) (other core n)

  -- the end
  pub tails_end : (row core : ℕ) (ts : List ℕ) (x : Machine) (over : Bool) → ts ≡ [] → core ≡ length b.core → script_is_over b x x.script ≡ over → tail_rows b map row core ts x ≡ (if over then Ok x else stopped_at row x)
  unfolding tail_rows
  tails_end row core ts x over e k h =
      ap (λ (l : List ℕ). tail_rows b map row core l x) e ∙ ap (λ (t : Bool). at_row row (λ end. Ok end) (if t then end_row b x else Err x)) (last core k) ∙ ap (λ (t : Bool). at_row row (λ end. Ok end) (if t then Ok x else Err x)) h ∙ ended over
    where
      ended : (t : Bool) → at_row row (λ end. Ok end) (if t then Ok x else Err x) ≡ (if t then Ok x else stopped_at row x)
      ended true = refl
      ended false = refl

pub rows_off : (v : Parts) (found row : ℕ) (m : Machine) (o : Result Machine Differs) → o ≡ stopped_at row m → found ≡ row → StandsFor v m → IsBookKept v.board v.map m → FollowsRows v (Some found) o
rows_off v found row m (Ok x) e same h kept = absurd (cc)
rows_off v found row m (Err why) e same h kept =
    let is : why ≡ record { row = row; machine = m } = cc in
    (same ∙ sym (ap (λ (y : Differs). y.row) is), moved_stands v m why.machine (sym (ap (λ (y : Differs). y.machine) is)) h kept)

pub rows_on : (v : Parts) (o : Result Machine Differs) (m : Machine) → o ≡ Ok m → StandsFor v m → IsBookKept v.board v.map m → FollowsRows v None o
rows_on v (Err why) m e h kept = absurd (cc)
rows_on v (Ok x) m e h kept = let same : m ≡ x = cc in moved_stands v m x same h kept

pub none_left : {X : Type 0} (xs : List X) (i : ℕ) → length xs ≤ i → drop i xs ≡ []
none_left [] zero le = refl
none_left [] (suc i) le = refl
none_left (x ∷ xs) zero le = absurd (omega arith)
none_left (x ∷ xs) (suc i) le = none_left xs i (omega arith)

-- the device actor is over where its script is
pub device_over : (b : Board) (m : Machine) (actor : ℕ) → actor ≡ length b.core → is_over b m actor ≡ script_is_over b m m.script
device_over b m actor e =
    let same : eqb actor (length b.core) ≡ true = grind (arith, nat_tests) in
    ap (λ (x : Bool). cond x (script_is_over b m m.script) (core_is_over (slice_get m.cores actor))) same

-- what a list of entries holds past its end
abbrev pub blank : Entry
blank = record { local = 0; actor = 0; request = FillCode 0; reply = record { words = []; lines = 0; took = false; pointer = 0 } }

-- ---- the whole journal, from the start on
module _ (b : Board) (images : List Image) (map : AddressMap) (j : Content) (long : length images ≡ length b.core) (w : Parts) where
  recorded : (result : Result Unit Wrong) (o : Result Machine Differs) → replayed b map (start b images) j ≡ o → IsReplayed w result o → (result ≡ Ok tt) ↔ Records b map (start b images) j
  recorded (Ok done) (Ok m) e h = (λ x. (replays_only b images map j long m e).0, λ x. refl)
  recorded (Ok done) (Err row) e h = absurd h
  recorded (Err wrong) (Ok m) e h = absurd h
  recorded (Err wrong) (Err row) e h = (λ x. absurd (cc), λ x. let y = replays_all b images map j long x in absurd (cc))

  pub is_recorded : (result : Result Unit Wrong) → IsReplayed w result (replayed b map (start b images) j) → (result ≡ Ok tt) ↔ Records b map (start b images) j
  is_recorded result h = recorded result (replayed b map (start b images) j) refl h
