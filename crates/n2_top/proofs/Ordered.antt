-- One turn more along an order: what the flat machine makes of it.
use Rattle.std.proofs.Common.{◌≡◌, ◌≢◌, ◌↔◌, ℕ, List, [], ◌∷◌, ◌++◌, length, slice_get, Option, Some, None, IsTrue, refl, sym, ap, ◌∙◌, arith}
use Rattle.n2_parts.specs.declared.board.Board.{Board}
use Rattle.n2_parts.specs.declared.stops.Stop.{Stop}
use Rattle.n2_parts.specs.declared.stops.Act.{Act}
use Rattle.n2_parts.specs.declared.stops.Act.TheVariants.{Retire, Sample, Device}
use Rattle.n2_parts.specs.declared.board.CoreRow.{CoreRow}
use Rattle.n2_parts.specs.declared.board.DeviceEvent.{DeviceEvent}
use Rattle.n2_board.specs.AddressMap.{AddressMap}
use Rattle.n2_bus.specs.declared.request.Request.{Request}
use Rattle.n2_watch.specs.World.{World}
use Rattle.n2_front.specs.Front.{Front}
use Rattle.n2_front.specs.Core.{Core}
use Rattle.n2_front.specs.Retire.{Acted, retired}
use Rattle.n2_front.specs.Turn.{wants, core_turn}
use Rattle.n2_runs.specs.Machine.{Machine, Made, start, run, turn, acts}
use Rattle.n2_runs.specs.FlatRun.{Flat, flat_start, flat, act, unless_stopped, retires, samples, sampled_by}
use Rattle.n2_runs.specs.Along.{after}
use Rattle.n2_runs.proofs.Lists.{slice_get-set_same, slice_get-set_other}
use Rattle.n2_runs.proofs.Quiets.{act_list, acts-append, acts_one, turn_act}
use Rattle.n2_runs.proofs.Steps.{IsActOf}
use Rattle.n2_runs.proofs.Views.{quiet_act, quiet_act_by, turn_cases}
use Rattle.n2_report.specs.Stops.{is_refused}
use Rattle.n2_inputs.specs.declared.inputs.Inputs.{Inputs}
use Rattle.n2_top.specs.Machines.{without_caches}
use Rattle.n2_top.specs.Headline.{next_act, IsOwn, broken}
use Rattle.n2_top.proofs.Broken.{never_some, neither, retired_is}

-- ---- acts, one after another

flat_append : (b : Board) (map : AddressMap) (xs ys : List Act) (f : Flat) → flat b map f (xs ++ ys) ≡ flat b map (flat b map f xs) ys
unfolding flat
flat_append b map [] ys f = refl
flat_append b map (x ∷ xs) ys f = flat_append b map xs ys (act b map f x)

flat_one : (b : Board) (map : AddressMap) (f : Flat) (o : Option Act) → flat b map f (act_list o) ≡ after b map f o
unfolding flat
flat_one b map f None = refl
flat_one b map f (Some made) = refl

pub one_more : (inputs : Inputs) (order : List ℕ) (actor : ℕ) → without_caches inputs (order ++ actor ∷ []) ≡ after inputs.board inputs.layout (without_caches inputs order) (next_act inputs order actor)
one_more inputs order actor =
    let b = inputs.board in
    let map = inputs.layout in
    let s = start b inputs.images in
    let f = flat_start b inputs.images in
    ap (λ (made : List Act). flat b map f made) (acts-append b map order (actor ∷ []) s ∙ ap (λ (made : List Act). acts b map s order ++ made) (acts_one b map actor (run b map s order)))
    ∙ flat_append b map (acts b map s order) (act_list (next_act inputs order actor)) f
    ∙ flat_one b map (without_caches inputs order) (next_act inputs order actor)

-- ---- the act of a turn is its actor's own

own_act : (b : Board) (k : ℕ) (o : Option Act) → IsActOf k o → IsOwn b k o
own_act b k None own = tt
own_act b k (Some (Retire core)) own = own
own_act b k (Some (Sample core)) own = own
own_act b k (Some (Device event)) own = absurd own

quiet_own : (b : Board) (map : AddressMap) (k : ℕ) (row : CoreRow) (w : World) (c : Core) (o : Option Request) → IsActOf k (quiet_act_by b map k row w c o)
quiet_own b map k row w c None = turn_act b map k row c w
quiet_own b map k row w c (Some request) = tt

quiet_is_own : (b : Board) (map : AddressMap) (k : ℕ) (row : CoreRow) (w : World) (c : Core) → IsOwn b k (quiet_act b map k row w c)
unfolding quiet_act
quiet_is_own b map k row w c = own_act b k (quiet_act_by b map k row w c (wants b map k row w.book c)) (quiet_own b map k row w c (wants b map k row w.book c))

pub turn_is_own : (b : Board) (map : AddressMap) (m : Machine) → length m.cores ≡ length b.core → (actor : ℕ) → IsOwn b actor (turn b map m actor).act
turn_is_own b map m count actor =
    turn_cases b map m count actor (λ (made : Made). IsOwn b actor made.act)
    (λ o. tt)
    (λ row c at q. quiet_is_own b map actor row m.world c)
    (λ row c request at e room. own_act b actor (core_turn b map actor row c m.world).act (turn_act b map actor row c m.world))
    (λ event script a e room. a)

-- ---- no other core sees it

module _ (b : Board) (map : AddressMap) (f : Flat) (core : ℕ) where
  unless_other : (k : ℕ) → core ≢ k → (stop : Option Stop) (a : Acted) → slice_get (unless_stopped f k stop a).cores core ≡ slice_get f.cores core
  unless_other k other None a = slice_get-set_other f.cores k core a.front other
  unless_other k other (Some stop) a = refl

  retires_other : (k : ℕ) → core ≢ k → (o : Option Front) → slice_get (retires b map f k o).cores core ≡ slice_get f.cores core
  retires_other k other None = refl
  retires_other k other (Some g) = unless_other k other g.stop (retired b map k g f.world)

  samples_other : (k : ℕ) → core ≢ k → (o : Option Front) → slice_get (samples b map f k o).cores core ≡ slice_get f.cores core
  samples_other k other None = refl
  samples_other k other (Some g) = unless_other k other g.stop (sampled_by b map k g f.world)

  pub other_core : (actor : ℕ) (o : Option Act) → IsOwn b actor o → core ≢ actor → slice_get (after b map f o).cores core ≡ slice_get f.cores core
  unfolding act
  other_core actor None own other = refl
  other_core actor (Some (Retire k)) own other = retires_other k (λ e. other (e ∙ own)) (slice_get f.cores k)
  other_core actor (Some (Sample k)) own other = samples_other k (λ e. other (e ∙ own)) (slice_get f.cores k)
  other_core actor (Some (Device event)) own other = refl

-- ---- a core that ran is refused where it breaks the discipline

one_front : (f g : Front) → ◌≡◌ {A = Option Front} (Some f) (Some g) → f ≡ g
one_front f g e = grind arith

module _ (b : Board) (map : AddressMap) (m : Flat) (core : ℕ) (f : Front) (none : f.stop ≡ None) (there : slice_get m.cores core ≡ Some f) where
  -- the front of a running core after an act of its own
  unless_same : (a : Acted) → slice_get (unless_stopped m core f.stop a).cores core ≡ Some a.front
  unless_same a =
      ap (λ (o : Option Stop). slice_get (unless_stopped m core o a).cores core) none
      ∙ slice_get-set_same m.cores core f a.front there

  retires_same : slice_get (act b map m (Retire core)).cores core ≡ Some (retired b map core f m.world).front
  unfolding act
  retires_same = ap (λ (o : Option Front). slice_get (retires b map m core o).cores core) there ∙ unless_same (retired b map core f m.world)

  samples_same : slice_get (act b map m (Sample core)).cores core ≡ Some (sampled_by b map core f m.world).front
  unfolding act
  samples_same = ap (λ (o : Option Front). slice_get (samples b map m core o).cores core) there ∙ unless_same (sampled_by b map core f m.world)

  event_same : (event : DeviceEvent) → slice_get (act b map m (Device event)).cores core ≡ Some f
  unfolding act
  event_same event = there

  module _ (g : Front) (stop : Stop) (refused : IsTrue (is_refused (Some stop))) where
    -- an act after which the core runs is no refusal
    runs_on : (o : Option Act) (h : Front) → Some h ≡ Some g → h.stop ≡ None → (o ≡ Some (Retire core) → ⊥) → (g.stop ≡ Some stop) ↔ ((o ≡ Some (Retire core)) × (broken b map core f m.world ≡ Some stop))
    runs_on o h same runs other =
        let e : h ≡ g = one_front h g same in
        neither (λ s. never_some h.stop stop runs (ap (λ (x : Front). x.stop) e ∙ s)) (λ both. other both.0)

    retires_on : (k : ℕ) → k ≡ core → slice_get (act b map m (Retire k)).cores core ≡ Some g → (g.stop ≡ Some stop) ↔ ((◌≡◌ {A = Option Act} (Some (Retire k)) (Some (Retire core))) × (broken b map core f m.world ≡ Some stop))
    retires_on k own now =
        let r = retired b map core f m.world in
        let e : r.front ≡ g = one_front r.front g (sym retires_same ∙ ap (λ (i : ℕ). slice_get (act b map m (Retire i)).cores core) (sym own) ∙ now) in
        let is = retired_is b map core m.world stop refused f none in
        (λ s. (ap (λ (i : ℕ). Some (Retire i)) own, is.0 (ap (λ (x : Front). x.stop) e ∙ s)), λ both. ap (λ (x : Front). x.stop) (sym e) ∙ is.1 both.1)

    samples_on : (k : ℕ) → k ≡ core → slice_get (act b map m (Sample k)).cores core ≡ Some g → (g.stop ≡ Some stop) ↔ ((◌≡◌ {A = Option Act} (Some (Sample k)) (Some (Retire core))) × (broken b map core f m.world ≡ Some stop))
    samples_on k own now =
        let s = sampled_by b map core f m.world in
        runs_on (Some (Sample k)) s.front (sym samples_same ∙ ap (λ (i : ℕ). slice_get (act b map m (Sample i)).cores core) (sym own) ∙ now) none (λ e. cc)

    pub refused_is : (o : Option Act) → IsOwn b core o → slice_get (after b map m o).cores core ≡ Some g → (g.stop ≡ Some stop) ↔ ((o ≡ Some (Retire core)) × (broken b map core f m.world ≡ Some stop))
    refused_is None own now = runs_on None f (sym there ∙ now) none (λ e. cc)
    refused_is (Some (Retire k)) own now = retires_on k own now
    refused_is (Some (Sample k)) own now = samples_on k own now
    refused_is (Some (Device event)) own now = runs_on (Some (Device event)) f (sym (event_same event) ∙ now) none (λ e. cc)
