-- A core that acts again and again.
use Rattle.std.proofs.Common.{◌≡◌, ℕ, zero, suc, ◌+◌, ◌-◌, ◌<◌, List, [], ◌∷◌, length, Bool, true, false, if◌then◌else◌, Option, Some, None, slice_get, refl, sym, ap, ◌∙◌, arith}
use Rattle.std.specs.Prelude.{replicate}
use Rattle.n2_parts.specs.declared.board.Board.{Board}
use Rattle.n2_parts.specs.declared.stops.Act.{Act}
use Rattle.n2_board.specs.AddressMap.{AddressMap}
use Rattle.n2_runs.specs.FlatRun.{Flat, act, flat, flat_start}
use Rattle.std.specs.Option.{is_some}
use Rattle.std.specs.List.{list_all, list_any}
use Rattle.n2_elf.specs.declared.image.Image.{Image}
use Rattle.n2_parts.specs.declared.stops.Stop.{Stop}
use Rattle.n2_parts.specs.declared.stops.Act.TheVariants.{Retire}
use Rattle.n2_report.specs.Stops.{status_of, has_broken, is_refused}
use Rattle.n2_flat.specs.PlainBoard.{plain_board}
use Rattle.n2_flat.specs.State.{State, CoreState, machine_of}
use Rattle.n2_flat.proofs.Whole.{stopped_act}
use Rattle.n2_top.specs.Plain.{plain_start}

-- the next of so many acts
pub next_act : (b : Board) (map : AddressMap) (m : Flat) (a : Act) (step steps : ℕ) → step < steps → flat b map m (replicate (steps - step) a) ≡ flat b map (act b map m a) (replicate (steps - (step + 1)) a)
unfolding flat
next_act b map m a step steps lt = let z : steps - step ≡ suc (steps - (step + 1)) = omega arith in rw z refl

-- an act that changes nothing may be made any number of times
pub same_acts : (b : Board) (map : AddressMap) (m : Flat) (a : Act) (n : ℕ) → m ≡ act b map m a → m ≡ flat b map m (replicate n a)
unfolding flat
same_acts b map m a zero e = refl
same_acts b map m a (suc n) e = same_acts b map m a n e ∙ ap (λ (x : Flat). flat b map x (replicate n a)) e

pub no_acts : (b : Board) (map : AddressMap) (m : Flat) (a : Act) (n : ℕ) → n ≡ 0 → m ≡ flat b map m (replicate n a)
unfolding flat
no_acts b map m a n e = rw e refl

known : (o : Option Stop) → true ≡ is_some o → (stop : Stop) × (o ≡ Some stop)
known None e = absurd (cc)
known (Some stop) e = (stop, refl)

-- a machine of one core that stopped
pub stopped_acts : (b : Board) (map' : AddressMap) (s : State) (c : CoreState) (n : ℕ) → s.board ≡ b → slice_get s.cores 0 ≡ Some c → true ≡ is_some c.front.stop → machine_of s ≡ flat b map' (machine_of s) (replicate n (Retire 0))
stopped_acts b map' s c n e found stops =
    let stop = known c.front.stop stops in
    same_acts b map' (machine_of s) (Retire 0) n
    (stopped_act map' s 0 c stop.0 found stop.1 ∙ ap (λ (x : Board). act x map' (machine_of s) (Retire 0)) e)

two_tests : (x y : Bool) → (if x then 0 else (if y then 1 else 2)) < 3
two_tests true y = omega arith
two_tests false true = omega arith
two_tests false false = omega arith

pub small_status : (stops : List (Option Stop)) → status_of stops < 3
small_status stops = two_tests (list_all has_broken stops) (list_any is_refused stops)

pub plain_begins : (image : Image) → flat_start plain_board (image ∷ []) ≡ plain_start image
unfolding plain_start
plain_begins image = refl
