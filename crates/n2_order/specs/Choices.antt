-- The chosen order: which actor goes next, by which actors are over.
use Rattle.std.specs.Prelude.{ℕ, zero, suc, ◌+◌, ◌-◌, ◌%◌, List, [], ◌∷◌, length, drop, get_or, slice_get, slice_index, Bool, true, not, ◌&&◌, nat_lt, Option, Some, None, option_map, if◌then◌else◌}
use Rattle.std.specs.Option.{option_or}
use Rattle.rand_core.specs.Pcg32Seed.{pcg32_seed}
use Rattle.rand_pcg.specs.Lcg.{Lcg}
use Rattle.rand_pcg.specs.Pcg.{pcg32, pcg32_of_seed}
use Rattle.n2_order.specs.Orders.{Asked, ByRounds, BySeed, ByList}

-- where an order stands: in a round of so many turns, of which the actor has some left; at a
-- generator of words; or before the rest of a list
pub data State : Type 0 where
  InRound : (turns : ℕ) (actor : ℕ) (left : ℕ) → State
  Drawing : (generator : Lcg) → State
  Listed : (left : List ℕ) → State

-- where an order begins
abbrev pub start_of : Asked → List ℕ → State
start_of (ByRounds turns) list = InRound turns 0 turns
start_of (BySeed seed) list = Drawing (pcg32_of_seed (pcg32_seed 16 seed))
start_of (ByList file) list = Listed list

-- an actor that is not over
abbrev pub is_running : List Bool → ℕ → Bool
is_running over actor = not (get_or over actor true)

-- the actors that are not over, in rising order, where the first of the list has this number
abbrev pub running : ℕ → List Bool → List ℕ
running first [] = []
running first (over ∷ rest) = if over then running (first + 1) rest else first ∷ running (first + 1) rest

-- the lowest actor from this one on that is not over
abbrev pub lowest_from : ℕ → List Bool → Option ℕ
lowest_from actor over = slice_get (running actor (drop actor over)) 0

-- the next actor in the cycle that is not over
abbrev pub next_in_cycle : ℕ → List Bool → Option ℕ
next_in_cycle actor over = option_or (lowest_from (actor + 1) over) (lowest_from 0 over)

-- an actor's first turn of its round
abbrev pub begun : ℕ → Option ℕ → Option (ℕ × State)
begun turns None = None
begun turns (Some actor) = Some (actor, InRound turns actor (turns - 1))

-- rounds: the actor goes on while it has turns left and is not over, and then the next in the cycle
abbrev pub next_in_round : ℕ → ℕ → ℕ → List Bool → Option (ℕ × State)
next_in_round turns actor left over =
    if nat_lt 0 left && is_running over actor then Some (actor, InRound turns actor (left - 1))
    else begun turns (next_in_cycle actor over)

-- a seed: the place among the actors that are not over is the next word modulo their number
abbrev pub drawn : ℕ × Lcg → List ℕ → Option (ℕ × State)
drawn word [] = None
drawn word (actor ∷ actors) = Some (slice_index (actor ∷ actors) (word.0 % length (actor ∷ actors)), Drawing word.1)

-- a list: the next that is not over, and after the list rounds of one turn from actor 0
abbrev pub next_listed : List ℕ → List Bool → Option (ℕ × State)
next_listed [] over = next_in_round 1 0 1 over
next_listed (actor ∷ left) over = if is_running over actor then Some (actor, Listed left) else next_listed left over

-- the actor that goes next, and where the order stands then; none where all are over
abbrev pub next_of : State → List Bool → Option (ℕ × State)
next_of (InRound turns actor left) over = next_in_round turns actor left over
next_of (Drawing generator) over = drawn (pcg32 generator) (running 0 over)
next_of (Listed left) over = next_listed left over

-- the actors that go one after another, by which are over before each turn, until all are
abbrev pub then_chosen : Option (ℕ × State) → (State → List ℕ) → List ℕ
then_chosen None later = []
then_chosen (Some next) later = next.0 ∷ later next.1

abbrev pub chosen : List (List Bool) → State → List ℕ
chosen [] state = []
chosen (over ∷ answers) state = then_chosen (next_of state over) (chosen answers)

-- the first words of a generator
abbrev pub words_of : ℕ → Lcg → List ℕ
words_of zero generator = []
words_of (suc n) generator = (pcg32 generator).0 ∷ words_of n (pcg32 generator).1

-- a chooser: how many actors there are, and where its order stands
pub record Choosing : Type 0 where
  pub actors : ℕ
  pub state : State

-- the actor that a chooser picks
abbrev pub picked : Choosing → List Bool → Option ℕ
picked chooser over = option_map (λ (next : ℕ × State). next.0) (next_of chooser.state over)

-- a chooser after its pick; where all are over it is as it was
abbrev pub moved : Choosing → Option (ℕ × State) → Choosing
moved chooser None = chooser
moved chooser (Some next) = record { actors = chooser.actors; state = next.1 }
