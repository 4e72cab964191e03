-- The chosen order while nobody is over.
use Rattle.std.proofs.Common.{◌≡◌, ℕ, zero, suc, ◌+◌, ◌-◌, ◌/◌, ◌%◌, ◌<◌, ◌≤◌, Bool, true, false, List, [], ◌∷◌, length, get_or, map, replicate, Option, Some, None, refl, sym, ap, ◌∙◌, inl, inr, arith}
use Rattle.std.specs.Prelude.{slice_get, not, nat_lt, ◌&&◌, All}
use Rattle.std.proofs.Math.Nat.{mod-add-mod, mod-eq_of_lt, add-mod_left, add-div_left, div_self, div-eq_of_lt}
use Rattle.std.proofs.lemmas.Bool.{cases_lt, cond-true, lt-ltb, and_from}
use Rattle.std.proofs.lemmas.List.{drop-replicate, get_or-replicate}
use Rattle.rand_pcg.specs.Lcg.{Lcg}
use Rattle.rand_pcg.specs.Pcg.{pcg32}
use Rattle.std.specs.Option.{option_or}
use Rattle.n2_order.specs.Choices.{State, InRound, Drawing, Listed, is_running, running, lowest_from, next_in_cycle, begun, next_in_round, drawn, next_listed, then_chosen, chosen, words_of}

-- of so many actors none is over
abbrev nobody : ℕ → List Bool
nobody actors = replicate actors false

-- a step as an actor and a state
abbrev step : ℕ → State → Option (ℕ × State)
step a s = Some (a, s)

runs : (actors a : ℕ) → a < actors → is_running (nobody actors) a ≡ true
runs actors a lt = ap not (get_or-replicate actors a false true lt)

-- ---- rounds

first_of : (n j : ℕ) → 0 < j → slice_get (running n (nobody j)) 0 ≡ Some n
first_of n zero lt = absurd (omega arith)
first_of n (suc j) lt = refl

lowest_within : (n actors : ℕ) → n < actors → lowest_from n (nobody actors) ≡ Some n
lowest_within n actors lt = ap (λ (bits : List Bool). slice_get (running n bits) 0) (drop-replicate n actors false) ∙ first_of n (actors - n) (omega arith)

lowest_past : (n actors : ℕ) → actors ≤ n → lowest_from n (nobody actors) ≡ None
lowest_past n actors past =
    let nothing : actors - n ≡ 0 = omega arith in
    ap (λ (bits : List Bool). slice_get (running n bits) 0) (drop-replicate n actors false) ∙ ap (λ j. slice_get (running n (nobody j)) 0) nothing

cycle : (actors a : ℕ) → a < actors → next_in_cycle a (nobody actors) ≡ Some ((a + 1) % actors)
cycle actors a lt =
    elim (cases_lt (a + 1) actors) [
      | inl within ↦
          ap (λ o. option_or o (lowest_from 0 (nobody actors))) (lowest_within (a + 1) actors within)
          ∙ ap (λ (n : ℕ). Some n) (sym (mod-eq_of_lt within))
      | inr past ↦
          let last : a + 1 ≡ actors + 0 = omega arith in
          let some : 0 < actors = omega arith in
          ap (λ o. option_or o (lowest_from 0 (nobody actors))) (lowest_past (a + 1) actors past)
          ∙ lowest_within 0 actors some
          ∙ ap (λ (n : ℕ). Some n) (sym (ap (λ n. n % actors) last ∙ add-mod_left actors 0 ∙ mod-eq_of_lt some))
    ]

goes_on : (turns actors a left : ℕ) → a < actors → next_in_round turns a (suc left) (nobody actors) ≡ step a (InRound turns a left)
goes_on turns actors a left lt =
    let some : 0 < suc left = omega arith in
    let less : suc left - 1 ≡ left = omega arith in
    cond-true (nat_lt 0 (suc left) && is_running (nobody actors) a) (step a (InRound turns a (suc left - 1))) (begun turns (next_in_cycle a (nobody actors))) (and_from (nat_lt 0 (suc left)) (is_running (nobody actors) a) (lt-ltb 0 (suc left) some) (runs actors a lt))
    ∙ ap (λ n. step a (InRound turns a n)) less

passes_on : (turns actors a : ℕ) → a < actors → next_in_round turns a 0 (nobody actors) ≡ step ((a + 1) % actors) (InRound turns ((a + 1) % actors) (turns - 1))
passes_on turns actors a lt = ap (begun turns) (cycle actors a lt)

-- what the first turn of the next round gives
first_turn : (turns actors a : ℕ) → 0 < turns → (a + 1) % actors ≡ (a + (turns - 0 + 0) / turns) % actors
first_turn turns actors a some =
    let all : turns - 0 + 0 ≡ turns = omega arith in
    ap (λ q. (a + q) % actors) (sym (ap (λ n. n / turns) all ∙ div_self some))

-- what a later turn of it gives
later_turn : (turns actors a k : ℕ) → 0 < turns → ((a + 1) % actors + (turns - (turns - 1) + k) / turns) % actors ≡ (a + (turns - 0 + suc k) / turns) % actors
later_turn turns actors a k some =
    let one : turns - (turns - 1) + k ≡ suc k = omega arith in
    let all : turns - 0 + suc k ≡ turns + suc k = omega arith in
    let sum : a + 1 + suc k / turns ≡ a + (suc k / turns + 1) = omega arith in
    ap (λ n. ((a + 1) % actors + n / turns) % actors) one
    ∙ mod-add-mod (a + 1) actors (suc k / turns)
    ∙ ap (λ n. n % actors) sum
    ∙ ap (λ q. (a + q) % actors) (sym (ap (λ n. n / turns) all ∙ add-div_left (suc k) some))

-- what a turn that is left gives
turn_left : (turns actors a left : ℕ) → a < actors → suc left ≤ turns → a ≡ (a + (turns - suc left + 0) / turns) % actors
turn_left turns actors a left lt le =
    let below : turns - suc left + 0 < turns = omega arith in
    let same : a + 0 ≡ a = omega arith in
    sym (ap (λ q. (a + q) % actors) (div-eq_of_lt below) ∙ ap (λ n. n % actors) same ∙ mod-eq_of_lt lt)

mod_below : (n m : ℕ) → 0 < m → n % m < m
mod_below n m some = omega arith

-- a turn by its number, from any place of a round on
turn_at : (n turns actors a left k : ℕ) → 0 < turns → a < actors → left ≤ turns → k < n → get_or (chosen (replicate n (nobody actors)) (InRound turns a left)) k 0 ≡ (a + (turns - left + k) / turns) % actors
turn_at zero turns actors a left k some lt le kn = absurd (omega arith)
turn_at (suc n) turns actors a zero zero some lt le kn =
    ap (λ o. get_or (then_chosen o (chosen (replicate n (nobody actors)))) 0 0) (passes_on turns actors a lt) ∙ first_turn turns actors a some
turn_at (suc n) turns actors a zero (suc k) some lt le kn =
    ap (λ o. get_or (then_chosen o (chosen (replicate n (nobody actors)))) (suc k) 0) (passes_on turns actors a lt)
    ∙ turn_at n turns actors ((a + 1) % actors) (turns - 1) k some (mod_below (a + 1) actors (omega arith)) (omega arith) (omega arith)
    ∙ later_turn turns actors a k some
turn_at (suc n) turns actors a (suc left) zero some lt le kn =
    ap (λ o. get_or (then_chosen o (chosen (replicate n (nobody actors)))) 0 0) (goes_on turns actors a left lt) ∙ turn_left turns actors a left lt le
turn_at (suc n) turns actors a (suc left) (suc k) some lt le kn =
    let same : turns - left + k ≡ turns - suc left + suc k = omega arith in
    ap (λ o. get_or (then_chosen o (chosen (replicate n (nobody actors)))) (suc k) 0) (goes_on turns actors a left lt)
    ∙ turn_at n turns actors a left k some lt (omega arith) (omega arith)
    ∙ ap (λ x. (a + x / turns) % actors) same

pub rounds_turn : (turns actors n k : ℕ) → 0 < turns → 0 < actors → k < n → get_or (chosen (replicate n (nobody actors)) (InRound turns 0 turns)) k 0 ≡ k / turns % actors
rounds_turn turns actors n k some lt kn =
    let none : turns - turns + k ≡ k = omega arith in
    let plain : 0 + k / turns ≡ k / turns = omega arith in
    turn_at n turns actors 0 turns k some lt (omega arith) kn ∙ ap (λ x. (0 + x / turns) % actors) none ∙ ap (λ x. x % actors) plain

-- ---- seeds

length-running : (first actors : ℕ) → length (running first (nobody actors)) ≡ actors
length-running first zero = refl
length-running first (suc actors) = ap suc (length-running (first + 1) actors)

get_or-running : (first actors k : ℕ) → k < actors → get_or (running first (nobody actors)) k 0 ≡ first + k
get_or-running first zero k lt = absurd (omega arith)
get_or-running first (suc actors) zero lt = omega arith
get_or-running first (suc actors) (suc k) lt = get_or-running (first + 1) actors k (omega arith) ∙ omega arith

drawn_some : (word : ℕ × Lcg) (actors : List ℕ) → 0 < length actors → drawn word actors ≡ step (get_or actors (word.0 % length actors) 0) (Drawing word.1)
drawn_some word [] lt = absurd (omega arith)
drawn_some word (a ∷ actors) lt = refl

drawn_nobody : (word : ℕ × Lcg) (actors : ℕ) → 0 < actors → drawn word (running 0 (nobody actors)) ≡ step (word.0 % actors) (Drawing word.1)
drawn_nobody word actors some =
    let long : length (running 0 (nobody actors)) ≡ actors = length-running 0 actors in
    let there : get_or (running 0 (nobody actors)) (word.0 % actors) 0 ≡ word.0 % actors = get_or-running 0 actors (word.0 % actors) (mod_below word.0 actors some) ∙ omega arith in
    drawn_some word (running 0 (nobody actors)) (omega arith)
    ∙ ap (λ n. step (get_or (running 0 (nobody actors)) (word.0 % n) 0) (Drawing word.1)) long
    ∙ ap (λ a. step a (Drawing word.1)) there

pub seed_turns : (actors n : ℕ) (generator : Lcg) → 0 < actors → chosen (replicate n (nobody actors)) (Drawing generator) ≡ map (λ word. word % actors) (words_of n generator)
seed_turns actors zero generator some = refl
seed_turns actors (suc n) generator some =
    ap (λ o. then_chosen o (chosen (replicate n (nobody actors)))) (drawn_nobody (pcg32 generator) actors some)
    ∙ ap (λ rest. (pcg32 generator).0 % actors ∷ rest) (seed_turns actors n (pcg32 generator).1 some)

-- ---- lists

pub list_turns : (list : List ℕ) (actors : ℕ) → All (λ actor. actor < actors) list → chosen (replicate (length list) (nobody actors)) (Listed list) ≡ list
list_turns [] actors below = refl
list_turns (a ∷ list) actors below =
    let here : a < actors = below 0 0 (omega arith) in
    ap (λ o. then_chosen o (chosen (replicate (length list) (nobody actors)))) (cond-true (is_running (nobody actors) a) (step a (Listed list)) (next_listed list (nobody actors)) (runs actors a here))
    ∙ ap (λ rest. a ∷ rest) (list_turns list actors (λ k d lt. below (suc k) d (omega arith)))
