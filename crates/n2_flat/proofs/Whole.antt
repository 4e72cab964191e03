-- Each act keeps the machine whole, and is the definition's.
use Rattle.std.proofs.Common.{◌≡◌, ◌≢◌, ℕ, ◌<◌, ◌≤◌, Result, Ok, Err, OnOk, OnErr, get_or, true, false, List, length, map, Option, Some, None, IsTrue, slice_get, slice_set, refl, sym, ap, subst, inl, inr, ◌∙◌, arith}
use Rattle.std.specs.Prelude.{option_map}
use Rattle.std.proofs.lemmas.Option.{slice_get_within, slice_get-map, slice_get-get_or}
use Rattle.std.proofs.lemmas.List.{map-set, length-set, length-map}
use Rattle.std.specs.Option.{is_some}
use Rattle.std.proofs.lemmas.Bool.{cases_eq, true≢false}
use Rattle.n2_word.specs.declared.NoMemory.{NoMemory}
use Rattle.n2_parts.proofs.Small.{valid_small}
use Rattle.n2_exec.specs.declared.registers.Regs.{Regs}
use Rattle.n2_exec.specs.Registers.{latched}
use Rattle.n2_parts.specs.declared.board.DeviceEvent.{DeviceEvent}
use Rattle.n2_parts.specs.declared.board.DeviceEvent.TheVariants as events
use Rattle.n2_parts.specs.declared.board.Board.{Board}
use Rattle.n2_parts.specs.declared.stops.Stop.{Stop}
use Rattle.n2_parts.specs.declared.stops.Act.TheVariants.{Retire, Sample, Device}
use Rattle.n2_board.specs.AddressMap.{AddressMap}
use Rattle.n2_bus.specs.Wiring.{Wiring, wiring_of, proper}
use Rattle.n2_bus.specs.Transfer.{served, request_for}
use Rattle.n2_bus.specs.declared.request.Request.TheVariants as requests
use Rattle.n2_bus.specs.declared.request.Reply.{Reply}
use Rattle.n2_watch.specs.declared.past.Past.{Past}
use Rattle.n2_watch.specs.Book.{Book}
use Rattle.n2_watch.specs.World.{World, shared, transferred}
use Rattle.n2_watch.specs.Kept.{IsKept}
use Rattle.n2_watch.specs.Shapes.{HasWorldShape, is_access, HasWords}
use Rattle.n2_watch.proofs.KeptLists.{get-set_same, get-set_other, set_itself}
use Rattle.n2_watch.proofs.KeptDevices.{owned_like, pointer_like}
use Rattle.n2_watch.proofs.KeptTransfers.{other_request}
use Rattle.n2_watch.proofs.KeptSteps.{request_kept}
use Rattle.n2_watch.proofs.KeptWorld.{world_kept}
use Rattle.n2_front.specs.Front.{Front}
use Rattle.n2_front.specs.Retire.{Acted, acted, retired}
use Rattle.n2_front.proofs.KeptActs.{retired_kept, retired_shape}
use Rattle.n2_front.proofs.Others.{guards_left, pointers_left}
use Rattle.n2_runs.specs.FlatRun.{act, retires, samples, sampled_by, with_core, unless_stopped}
use Rattle.n2_flat.specs.State.{CoreState, CommonState, State, IsAt, IsWatched, IsWhole, IsFetchable, IsAligned, front_of, past_of, machine_of, acted_by, common_after}
use Rattle.n2_flat.proofs.Alone.{IsAlone, alone_book, stands_on}
use Rattle.n2_flat.proofs.Aligned.{retired_aligned}

-- ---- lists of cores
map-get : {A B : Type 0} (f : A → B) (xs : List A) (i : ℕ) (x : A) → slice_get xs i ≡ Some x → slice_get (map f xs) i ≡ Some (f x)
map-get {A} {B} f xs i x h = slice_get-map f xs i ∙ ap (λ (o : Option A). option_map f o) h

-- ---- one core
pub is_at : (map' : AddressMap) (s : State) (k : ℕ) (c : CoreState) → IsWhole map' s → slice_get s.cores k ≡ Some c → IsAt s.board map' k s.common c
is_at map' s k c h found = record {
  core = (let lt = slice_get_within s.cores k c found in let n = h.count in omega arith);
  common = record { map_of = h.map_of; wiring = h.wiring; shape = h.shape; posted = h.kept.posted };
  watched = h.watched k c found;
}

-- a state with another core, and with what all share as an act left it
abbrev pub state_with : State → ℕ → CoreState → CommonState → State
state_with s k c common = record { board = s.board; common = common; cores = slice_set s.cores k c; recent = s.recent }

with_shape : (map' : AddressMap) (s : State) (k : ℕ) (c next : CoreState) (common : CommonState) → IsWhole map' s → slice_get s.cores k ≡ Some c → acted_by next common ≡ retired s.board map' k c.front s.common.world → HasWorldShape s.board common.world
with_shape map' s k c next common h found e =
    subst (λ (a : Acted). HasWorldShape s.board a.world) (sym e) (retired_shape s.board h.map_of.images map' k c.front s.common.world h.map_of.valid h.map_of.maps h.shape)

with_kept : (map' : AddressMap) (s : State) (k : ℕ) (c next : CoreState) (common : CommonState) → IsWhole map' s → slice_get s.cores k ≡ Some c → acted_by next common ≡ retired s.board map' k c.front s.common.world → IsKept s.board map' common.world.book (map past_of (slice_set s.cores k next))
with_kept map' s k c next common h found e =
    let pasts = map past_of s.cores in
    let kept = retired_kept s.board h.map_of.images map' k c.front s.common.world pasts h.map_of.valid h.map_of.maps h.shape.book (length-map s.cores past_of ∙ h.count) (map-get past_of s.cores k c found) h.kept in
    subst (λ (ps : List (List Past)). IsKept s.board map' common.world.book ps) (sym (map-set past_of s.cores k next))
    (subst (λ (a : Acted). IsKept s.board map' a.world.book (slice_set pasts k a.front.past)) (sym e) kept)

others_watched : (map' : AddressMap) (s : State) (k : ℕ) (c next : CoreState) (common : CommonState) → IsWhole map' s → slice_get s.cores k ≡ Some c → acted_by next common ≡ retired s.board map' k c.front s.common.world → (j : ℕ) (d : CoreState) → j ≢ k → slice_get s.cores j ≡ Some d → IsWatched s.board map' j common.world.book d
others_watched map' s k c next common h found e j d n other =
    let at = is_at map' s k c h found in
    let its = is_at map' s j d h other in
    let g = guards_left s.board h.map_of.images map' k c.front s.common.world h.map_of.valid h.map_of.maps at.core h.shape.book h.kept.posted j its.core n in
    let p = pointers_left s.board h.map_of.images map' k c.front s.common.world h.map_of.valid h.map_of.maps at.core h.shape.book h.kept.posted in
    subst (λ (a : Acted). IsWatched s.board map' j a.world.book d) (sym e)
    (record {
      stands = stands_on s.board map' j d.watch s.common.world.book _ d.front.past g (λ index row f sends. p index row f (λ is. n (sym sends ∙ is))) its.watched.stands;
    })

either_core : (s : State) (k : ℕ) (c next : CoreState) (P : ℕ → CoreState → Type 0) → slice_get s.cores k ≡ Some c → P k next → ((j : ℕ) (d : CoreState) → j ≢ k → slice_get s.cores j ≡ Some d → P j d) → (j : ℕ) (d : CoreState) → slice_get (slice_set s.cores k next) j ≡ Some d → P j d
either_core s k c next P there mine others j d found = elim (cases_eq j k) [
  | inl e ↦
      let at_k = subst (λ (i : ℕ). slice_get (slice_set s.cores k next) i ≡ Some d) e found in
      let z : ◌≡◌ {A = Option CoreState} (Some next) (Some d) = sym (get-set_same s.cores k c next there) ∙ at_k in
      let same : next ≡ d = cc in
      subst (λ (i : ℕ). P i d) (sym e) (subst (λ (x : CoreState). P k x) same mine)
  | inr n ↦ others j d n (sym (get-set_other s.cores k j next n) ∙ found)
]

pub retired_whole : (map' : AddressMap) (s : State) (k : ℕ) (c next : CoreState) (common : CommonState) → IsWhole map' s → slice_get s.cores k ≡ Some c → acted_by next common ≡ retired s.board map' k c.front s.common.world → common.wiring ≡ s.common.wiring → IsWatched s.board map' k common.world.book next → IsWhole map' (state_with s k next common)
retired_whole map' s k c next common h found e wiring watched =
    record {
      map_of = h.map_of;
      wiring = wiring ∙ h.wiring;
      count = length-set s.cores k next ∙ h.count;
      shape = with_shape map' s k c next common h found e;
      kept = with_kept map' s k c next common h found e;
      watched = either_core s k c next (λ j d. IsWatched s.board map' j common.world.book d) found watched (others_watched map' s k c next common h found e);
      aligned = either_core s k c next (λ j d. IsAligned d.front.regs) found (subst (λ (a : Acted). IsAligned a.front.regs) (sym e) (retired_aligned s.board map' k c.front s.common.world (h.aligned k c found))) (λ j d n other. h.aligned j d other);
      fetched = h.fetched;
    }

-- the same but for the line of the last fetch
abbrev pub with_recent : State → ℕ → State
with_recent s recent = record { board = s.board; common = s.common; cores = s.cores; recent = recent }

pub recent_whole : (map' : AddressMap) (s : State) (recent : ℕ) → IsWhole map' s → IsFetchable map' recent → IsWhole map' (with_recent s recent)
recent_whole map' s recent h fetched = record {
  map_of = h.map_of;
  wiring = h.wiring;
  count = h.count;
  shape = h.shape;
  kept = h.kept;
  watched = h.watched;
  aligned = h.aligned;
  fetched = fetched;
}

-- ---- the definition's act
pub retired_act : (map' : AddressMap) (s : State) (k : ℕ) (c next : CoreState) (common : CommonState) → slice_get s.cores k ≡ Some c → c.front.stop ≡ None → acted_by next common ≡ retired s.board map' k c.front s.common.world → machine_of (state_with s k next common) ≡ act s.board map' (machine_of s) (Retire k)
unfolding act
retired_act map' s k c next common found runs e =
    let m = machine_of s in
    let cores : machine_of (state_with s k next common) ≡ with_core m k (acted_by next common) =
    ap (λ (fronts : List Front). record { world = common.world; cores = fronts }) (map-set front_of s.cores k next) in
    cores ∙ ap (λ (a : Acted). with_core m k a) e
    ∙ ap (λ (stop : Option Stop). unless_stopped m k stop (retired s.board map' k c.front m.world)) (sym runs)
    ∙ ap (λ (o : Option Front). retires s.board map' m k o) (sym (map-get front_of s.cores k c found))

pub stopped_act : (map' : AddressMap) (s : State) (k : ℕ) (c : CoreState) (stop : Stop) → slice_get s.cores k ≡ Some c → c.front.stop ≡ Some stop → machine_of s ≡ act s.board map' (machine_of s) (Retire k)
unfolding act
stopped_act map' s k c stop found stops =
    let m = machine_of s in
    ap (λ (stop : Option Stop). unless_stopped m k stop (retired s.board map' k c.front m.world)) (sym stops)
    ∙ ap (λ (o : Option Front). retires s.board map' m k o) (sym (map-get front_of s.cores k c found))

-- ---- a core latches its interrupt lines
sample_same : (b : Board) (map' : AddressMap) (k : ℕ) (w : World) → (transferred b map' k w requests.Sample).world ≡ w
unfolding transferred served
sample_same b map' k w = refl

pub sample_left : (w : Wiring) (k : ℕ) (world : World) → (common_after w k world requests.Sample) ≡ record { wiring = w; world = world }
unfolding served
sample_left w k world = refl

pub sampled_done : (b : Board) (map' : AddressMap) (k : ℕ) (f : Front) (w : World) (wiring : Wiring) (regs : Regs) (reply : Reply) → wiring ≡ wiring_of b → regs ≡ latched f.regs reply.lines → reply ≡ (served wiring k (shared w) requests.Sample).reply → acted (record { regs = regs; stop = f.stop; past = f.past }) w ≡ sampled_by b map' k f w
unfolding transferred served
sampled_done b map' k f w wiring regs reply e r h =
    ap (λ (x : Regs). acted (record { regs = x; stop = f.stop; past = f.past }) w) (r ∙ ap (λ (x : Reply). latched f.regs x.lines) h ∙ ap (λ (x : Wiring). latched f.regs (served x k (shared w) requests.Sample).reply.lines) e)

pub sampled_whole : (map' : AddressMap) (s : State) (k : ℕ) (c next : CoreState) → IsWhole map' s → slice_get s.cores k ≡ Some c → next.front.past ≡ c.front.past → IsAligned next.front.regs → IsWatched s.board map' k s.common.world.book next → IsWhole map' (state_with s k next s.common)
sampled_whole map' s k c next h found past aligned watched =
    let pasts = map past_of s.cores in
    let there : slice_get pasts k ≡ Some next.front.past = map-get past_of s.cores k c found ∙ ap (λ (p : List Past). Some p) (sym past) in
    record {
      map_of = h.map_of;
      wiring = h.wiring;
      count = length-set s.cores k next ∙ h.count;
      shape = h.shape;
      kept = subst (λ (ps : List (List Past)). IsKept s.board map' s.common.world.book ps) (sym (map-set past_of s.cores k next ∙ set_itself pasts k next.front.past there)) h.kept;
      watched = either_core s k c next (λ j d. IsWatched s.board map' j s.common.world.book d) found watched (λ j d n other. h.watched j d other);
      aligned = either_core s k c next (λ j d. IsAligned d.front.regs) found aligned (λ j d n other. h.aligned j d other);
      fetched = h.fetched;
    }

pub sampled_act : (map' : AddressMap) (s : State) (k : ℕ) (c next : CoreState) → slice_get s.cores k ≡ Some c → c.front.stop ≡ None → acted_by next s.common ≡ sampled_by s.board map' k c.front s.common.world → machine_of (state_with s k next s.common) ≡ act s.board map' (machine_of s) (Sample k)
unfolding act
sampled_act map' s k c next found runs e =
    let m = machine_of s in
    let cores : machine_of (state_with s k next s.common) ≡ with_core m k (acted_by next s.common) =
    ap (λ (fronts : List Front). record { world = s.common.world; cores = fronts }) (map-set front_of s.cores k next) in
    cores ∙ ap (λ (a : Acted). with_core m k a) e
    ∙ ap (λ (stop : Option Stop). unless_stopped m k stop (sampled_by s.board map' k c.front m.world)) (sym runs)
    ∙ ap (λ (o : Option Front). samples s.board map' m k o) (sym (map-get front_of s.cores k c found))

pub unsampled_act : (map' : AddressMap) (s : State) (k : ℕ) (c : CoreState) (stop : Stop) → slice_get s.cores k ≡ Some c → c.front.stop ≡ Some stop → machine_of s ≡ act s.board map' (machine_of s) (Sample k)
unfolding act
unsampled_act map' s k c stop found stops =
    let m = machine_of s in
    ap (λ (stop : Option Stop). unless_stopped m k stop (sampled_by s.board map' k c.front m.world)) (sym stops)
    ∙ ap (λ (o : Option Front). samples s.board map' m k o) (sym (map-get front_of s.cores k c found))

-- ---- an event of the devices
event_alone : (b : Board) (map' : AddressMap) (book : Book) (event : DeviceEvent) → IsAlone b map' book (request_for event)
event_alone b map' book (events.Tick n) = record { guards = λ reply. refl; holders = λ reply. refl; sent = λ reply. refl }
event_alone b map' book (events.Receive uart) = record { guards = λ reply. refl; holders = λ reply. refl; sent = λ reply. refl }
event_alone b map' book (events.Drain uart) = record { guards = λ reply. refl; holders = λ reply. refl; sent = λ reply. refl }

no_access : (event : DeviceEvent) → is_access (request_for event) ≡ false
no_access (events.Tick n) = refl
no_access (events.Receive uart) = refl
no_access (events.Drain uart) = refl

has_words : (event : DeviceEvent) → HasWords (request_for event)
has_words (events.Tick n) = tt
has_words (events.Receive uart) = tt
has_words (events.Drain uart) = tt

event_left : (map' : AddressMap) (s : State) (event : DeviceEvent) (common : CommonState) → IsWhole map' s → common ≡ common_after s.common.wiring (length s.board.core) s.common.world (request_for event) → common.world ≡ (transferred s.board map' (length s.board.core) s.common.world (request_for event)).world
event_left map' s event common h e =
    ap (λ (x : CommonState). x.world) e
    ∙ ap (λ (x : Wiring). (common_after x (length s.board.core) s.common.world (request_for event)).world) h.wiring
    ∙ sym (alone_book s.board map' (length s.board.core) s.common.world (request_for event) (event_alone s.board map' s.common.world.book event))

pub event_act : (map' : AddressMap) (s : State) (event : DeviceEvent) (common : CommonState) → IsWhole map' s → common ≡ common_after s.common.wiring (length s.board.core) s.common.world (request_for event) → machine_of (record { board = s.board; common = common; cores = s.cores; recent = s.recent }) ≡ act s.board map' (machine_of s) (Device event)
unfolding act
event_act map' s event common h e = ap (λ (w : World). record { world = w; cores = map front_of s.cores }) (event_left map' s event common h e)

pub event_whole : (map' : AddressMap) (s : State) (event : DeviceEvent) (common : CommonState) → IsWhole map' s → IsTrue (proper (wiring_of s.board) (length s.board.core) (request_for event)) → common ≡ common_after s.common.wiring (length s.board.core) s.common.world (request_for event) → IsWhole map' (record { board = s.board; common = common; cores = s.cores; recent = s.recent })
event_whole map' s event common h is_proper e =
    let actor = length s.board.core in
    let w = s.common.world in
    let request = request_for event in
    let t = transferred s.board map' actor w request in
    let world = sym (event_left map' s event common h e) in
    let alike = other_request s.board map' actor w request (no_access event) in
    record {
      map_of = h.map_of;
      wiring = ap (λ (x : CommonState). x.wiring) e ∙ h.wiring;
      count = h.count;
      shape = subst (λ (x : World). HasWorldShape s.board x) world (world_kept s.board map' actor w request h.map_of.valid is_proper (has_words event) h.shape);
      kept = subst (λ (x : World). IsKept s.board map' x.book (map past_of s.cores)) world (request_kept s.board map' actor w (map past_of s.cores) request (no_access event) h.kept);
      watched = λ k c found.
          let its = h.watched k c found in
          subst (λ (x : World). IsWatched s.board map' k x.book c) world
          (record {
            stands = stands_on s.board map' k c.watch w.book t.world.book c.front.past
                (owned_like s.board w.book t.world.book k alike.mutexes alike.holders)
                (λ index row f sends. pointer_like w.book t.world.book index alike.mailboxes) its.stands;
          });
      aligned = h.aligned;
      fetched = h.fetched;
    }

-- ---- for the calls that index a list of cores
pub there : (s : List CoreState) (k : ℕ) (c : CoreState) → k < length s → c ≡ get_or s k c → slice_get s k ≡ Some c
there s k c lt e = slice_get-get_or s k c lt ∙ ap (λ (x : CoreState). Some x) (sym e)

pub within : (map' : AddressMap) (s t : State) (k : ℕ) → s ≡ t → IsWhole map' t → k < length t.board.core → k < length s.cores
within map' s t k e h lt = subst (λ (x : State). k < length x.cores) (sym e) (let n = h.count in omega arith)

pub never : (o : Option Stop) → false ≡ is_some o → o ≡ None
never None e = refl
never (Some stop) e = absurd (true≢false (sym e))

pub once : (o : Option Stop) → true ≡ is_some o → (stop : Stop) × (o ≡ Some stop)
once None e = absurd (true≢false e)
once (Some stop) e = (stop, refl)

same_state : (s : State) (k : ℕ) (c : CoreState) → slice_get s.cores k ≡ Some c → state_with s k c s.common ≡ s
same_state s k c found = ap (λ (cores : List CoreState). record { board = s.board; common = s.common; cores = cores; recent = s.recent }) (set_itself s.cores k c found)

pub retired_end : (map' : AddressMap) (s : State) (k : ℕ) (c next : CoreState) (common : CommonState) (r : Result (Unit {0}) NoMemory) → IsWhole map' s → slice_get s.cores k ≡ Some c → OnOk r (acted_by next common ≡ retired s.board map' k c.front s.common.world) → OnErr r (next ≡ c) → OnErr r (common ≡ s.common) → common.wiring ≡ s.common.wiring → IsWatched s.board map' k common.world.book next → IsWhole map' (state_with s k next common)
retired_end map' s k c next common (Ok x) h found e same rest wiring watched = retired_whole map' s k c next common h found e wiring watched
retired_end map' s k c next common (Err x) h found e same rest wiring watched =
    subst (λ (d : CoreState). IsWhole map' (state_with s k d common)) (sym same)
    (subst (λ (m : CommonState). IsWhole map' (state_with s k c m)) (sym rest)
    (subst (λ (x : State). IsWhole map' x) (sym (same_state s k c found)) h))

pub stopped_end : (map' : AddressMap) (s : State) (k : ℕ) (c : CoreState) → slice_get s.cores k ≡ Some c → true ≡ is_some c.front.stop → machine_of (state_with s k c s.common) ≡ act s.board map' (machine_of s) (Retire k)
stopped_end map' s k c found e =
    let stop = once c.front.stop e in
    ap (λ (x : State). machine_of x) (same_state s k c found) ∙ stopped_act map' s k c stop.0 found stop.1

pub unsampled_end : (map' : AddressMap) (s : State) (k : ℕ) (c : CoreState) → slice_get s.cores k ≡ Some c → true ≡ is_some c.front.stop → machine_of (state_with s k c s.common) ≡ act s.board map' (machine_of s) (Sample k)
unsampled_end map' s k c found e =
    let stop = once c.front.stop e in
    ap (λ (x : State). machine_of x) (same_state s k c found) ∙ unsampled_act map' s k c stop.0 found stop.1

-- so many cores that a number of 32 bits counts them and the device actor
pub few_cores : (map' : AddressMap) (s : State) → IsWhole map' s → length s.board.core ≤ 8
few_cores map' s h = (valid_small s.board h.map_of.valid).core
