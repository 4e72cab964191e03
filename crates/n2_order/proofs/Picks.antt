-- An actor is picked exactly where one is not over, and it is not over.
use Rattle.std.proofs.Common.{◌≡◌, ℕ, zero, suc, ◌+◌, ◌%◌, ◌<◌, ◌↔◌, Bool, true, false, List, [], ◌∷◌, length, get_or, drop, Option, Some, None, refl, sym, ap, subst, ◌∙◌, inl, inr, ◌-◌, arith}
use Rattle.std.specs.Prelude.{slice_get, nat_lt, ◌&&◌, option_map, is_some, All, IsNone, IfSome}
use Rattle.std.proofs.lemmas.Bool.{cases_Bool, cond-true, cond-false, true≢false, false≢true}
use Rattle.std.proofs.lemmas.Option.{none-some, same_Some, slice_get_within, get_or_from_slice_get}
use Rattle.rand_pcg.specs.Lcg.{Lcg}
use Rattle.rand_pcg.specs.Pcg.{pcg32}
use Rattle.std.specs.Option.{option_or}
use Rattle.n2_order.specs.Choices.{State, InRound, Drawing, Listed, is_running, running, lowest_from, next_in_cycle, begun, next_in_round, drawn, next_listed, next_of, Choosing, picked, moved}

-- an actor that may be picked
abbrev pub Runs : List Bool → ℕ → Type 0
Runs over actor = slice_get over actor ≡ Some false

-- each of the actors that are not over is not over
running_at : (first : ℕ) (bits : List Bool) (k : ℕ) → k < length (running first bits) → (j : ℕ) × (get_or (running first bits) k 0 ≡ first + j) × (slice_get bits j ≡ Some false)
running_at first [] k lt = absurd (omega arith)
running_at first (true ∷ rest) k lt = let i = running_at (first + 1) rest k lt in (suc i.0, i.1 ∙ omega arith, i.2)
running_at first (false ∷ rest) zero lt = (0, omega arith, refl)
running_at first (false ∷ rest) (suc k) lt = let i = running_at (first + 1) rest k (omega arith) in (suc i.0, i.1 ∙ omega arith, i.2)

slice_get-drop : (xs : List Bool) (n j : ℕ) → slice_get (drop n xs) j ≡ slice_get xs (n + j)
slice_get-drop xs zero j = ap (slice_get xs) (omega arith)
slice_get-drop [] (suc n) j = refl
slice_get-drop (x ∷ xs) (suc n) j =
    let e : suc n + j ≡ suc (n + j) = omega arith in
    slice_get-drop xs n j ∙ ap (slice_get (x ∷ xs)) (sym e)

first_is : (xs : List ℕ) (a : ℕ) → slice_get xs 0 ≡ Some a → (0 < length xs) × (get_or xs 0 0 ≡ a)
first_is xs a e = (slice_get_within xs 0 a e, get_or_from_slice_get xs 0 a 0 e)

lowest_runs : (n : ℕ) (over : List Bool) (a : ℕ) → lowest_from n over ≡ Some a → Runs over a
lowest_runs n over a e =
    let f = first_is (running n (drop n over)) a e in
    let i = running_at n (drop n over) 0 f.0 in
    let same : a ≡ n + i.0 = sym f.1 ∙ i.1 in
    ap (slice_get over) same ∙ sym (slice_get-drop over n i.0) ∙ i.2

first_runs : (over : List Bool) (o other : Option ℕ) (a : ℕ) → ((x : ℕ) → o ≡ Some x → Runs over x) → ((x : ℕ) → other ≡ Some x → Runs over x) → option_or o other ≡ Some a → Runs over a
first_runs over None other a f g e = g a e
first_runs over (Some x) other a f g e = f a e

cycle_runs : (actor : ℕ) (over : List Bool) (a : ℕ) → next_in_cycle actor over ≡ Some a → Runs over a
cycle_runs actor over a e =
    first_runs over (lowest_from (actor + 1) over) (lowest_from 0 over) a (λ x. lowest_runs (actor + 1) over x) (λ x. lowest_runs 0 over x) e

running_is : (over : List Bool) (a : ℕ) → is_running over a ≡ true → Runs over a
running_is [] a h = absurd (false≢true h)
running_is (true ∷ over) zero h = absurd (false≢true h)
running_is (false ∷ over) zero h = refl
running_is (o ∷ over) (suc a) h = running_is over a h

and_right_true : (x y : Bool) → (x && y) ≡ true → y ≡ true
and_right_true true y e = e
and_right_true false y e = absurd (false≢true e)

-- a step as an actor and a state
abbrev step : ℕ → State → Option (ℕ × State)
step a s = Some (a, s)

same_step : (a b : ℕ) (s t : State) → step a s ≡ step b t → a ≡ b
same_step a b s t e = ap (λ (x : ℕ × State). x.0) (same_Some (a, s) (b, t) e)

begun_runs : (over : List Bool) (turns : ℕ) (o : Option ℕ) (a : ℕ) (s : State) → ((x : ℕ) → o ≡ Some x → Runs over x) → begun turns o ≡ step a s → Runs over a
begun_runs over turns None a s f e = absurd (none-some (a, s) e)
begun_runs over turns (Some x) a s f e = ap (slice_get over) (sym (same_step x a _ s e)) ∙ f x refl

round_runs : (turns actor left : ℕ) (over : List Bool) (a : ℕ) (s : State) → next_in_round turns actor left over ≡ step a s → Runs over a
round_runs turns actor left over a s e =
    let goes_on : Bool = nat_lt 0 left && is_running over actor in
    let here : Option (ℕ × State) = Some (actor, InRound turns actor (left - 1)) in
    let there : Option (ℕ × State) = begun turns (next_in_cycle actor over) in
    elim (cases_Bool goes_on) [
      | inl goes ↦
          ap (slice_get over) (sym (same_step actor a _ s (sym (cond-true goes_on here there goes) ∙ e)))
          ∙ running_is over actor (and_right_true (nat_lt 0 left) (is_running over actor) goes)
      | inr stops ↦ begun_runs over turns (next_in_cycle actor over) a s (cycle_runs actor over) (sym (cond-false goes_on here there stops) ∙ e)
    ]

drawn_runs : (over : List Bool) (word : ℕ × Lcg) (actors : List ℕ) (a : ℕ) (s : State) → ((k : ℕ) → k < length actors → Runs over (get_or actors k 0)) → drawn word actors ≡ step a s → Runs over a
drawn_runs over word [] a s f e = absurd (none-some (a, s) e)
drawn_runs over word (x ∷ xs) a s f e =
    ap (slice_get over) (sym (same_step (get_or (x ∷ xs) (word.0 % length (x ∷ xs)) 0) a (Drawing word.1) s e))
    ∙ f (word.0 % length (x ∷ xs)) (omega arith)

each_runs : (over : List Bool) (k : ℕ) → k < length (running 0 over) → Runs over (get_or (running 0 over) k 0)
each_runs over k lt =
    let i = running_at 0 over k lt in
    let same : get_or (running 0 over) k 0 ≡ i.0 = i.1 ∙ omega arith in
    ap (slice_get over) same ∙ i.2

listed_runs : (list : List ℕ) (over : List Bool) (a : ℕ) (s : State) → next_listed list over ≡ step a s → Runs over a
listed_runs [] over a s e = round_runs 1 0 1 over a s e
listed_runs (actor ∷ left) over a s e =
    elim (cases_Bool (is_running over actor)) [
      | inl goes ↦
          ap (slice_get over) (sym (same_step actor a (Listed left) s (sym (cond-true (is_running over actor) (Some (actor, Listed left)) (next_listed left over) goes) ∙ e)))
          ∙ running_is over actor goes
      | inr stops ↦ listed_runs left over a s (sym (cond-false (is_running over actor) (Some (actor, Listed left)) (next_listed left over) stops) ∙ e)
    ]

-- the actor that is picked is not over
pub picked_runs : (state : State) (over : List Bool) (a : ℕ) (s : State) → next_of state over ≡ Some (a, s) → slice_get over a ≡ Some false
picked_runs (InRound turns actor left) over a s e = round_runs turns actor left over a s e
picked_runs (Drawing generator) over a s e = drawn_runs over (pcg32 generator) (running 0 over) a s (each_runs over) e
picked_runs (Listed list) over a s e = listed_runs list over a s e

-- ---- where all are over

all_after : (bits : List Bool) → All (λ o. o ≡ true) bits → (k : ℕ) (d : Bool) → k < length (true ∷ bits) → get_or (true ∷ bits) k d ≡ true
all_after bits h zero d lt = refl
all_after bits h (suc k) d lt = h k d (omega arith)

no_running : (first : ℕ) (bits : List Bool) → running first bits ≡ [] → All (λ o. o ≡ true) bits
no_running first [] e = λ k d lt. absurd (omega arith)
no_running first (false ∷ rest) e = absurd cc
no_running first (true ∷ rest) e = all_after rest (no_running (first + 1) rest e)

none_is : (xs : List ℕ) → slice_get xs 0 ≡ None → xs ≡ []
none_is [] e = refl
none_is (x ∷ xs) e = absurd (none-some x (sym e))

none_in_cycle : (o other : Option ℕ) → option_or o other ≡ None → other ≡ None
none_in_cycle None other e = e
none_in_cycle (Some x) other e = absurd (none-some x (sym e))

begun_none : (turns : ℕ) (o : Option ℕ) → begun turns o ≡ None → o ≡ None
begun_none turns None e = refl
begun_none turns (Some x) e = absurd (none-some (x, InRound turns x (turns - 1)) (sym e))

round_none : (turns actor left : ℕ) (over : List Bool) → next_in_round turns actor left over ≡ None → All (λ o. o ≡ true) over
round_none turns actor left over e =
    let goes_on : Bool = nat_lt 0 left && is_running over actor in
    let here : Option (ℕ × State) = Some (actor, InRound turns actor (left - 1)) in
    let there : Option (ℕ × State) = begun turns (next_in_cycle actor over) in
    elim (cases_Bool goes_on) [
      | inl goes ↦ absurd (none-some (actor, InRound turns actor (left - 1)) (sym e ∙ cond-true goes_on here there goes))
      | inr stops ↦
          let cycle : next_in_cycle actor over ≡ None = begun_none turns (next_in_cycle actor over) (sym (cond-false goes_on here there stops) ∙ e) in
          no_running 0 over (none_is (running 0 over) (none_in_cycle (lowest_from (actor + 1) over) (lowest_from 0 over) cycle))
    ]

drawn_none : (word : ℕ × Lcg) (actors : List ℕ) → drawn word actors ≡ None → actors ≡ []
drawn_none word [] e = refl
drawn_none word (x ∷ xs) e = absurd (none-some (get_or (x ∷ xs) (word.0 % length (x ∷ xs)) 0, Drawing word.1) (sym e))

listed_none : (list : List ℕ) (over : List Bool) → next_listed list over ≡ None → All (λ o. o ≡ true) over
listed_none [] over e = round_none 1 0 1 over e
listed_none (actor ∷ left) over e =
    elim (cases_Bool (is_running over actor)) [
      | inl goes ↦ absurd (none-some (actor, Listed left) (sym e ∙ cond-true (is_running over actor) (Some (actor, Listed left)) (next_listed left over) goes))
      | inr stops ↦ listed_none left over (sym (cond-false (is_running over actor) (Some (actor, Listed left)) (next_listed left over) stops) ∙ e)
    ]

-- none is picked only where all are over
pub none_where_over : (state : State) (over : List Bool) → next_of state over ≡ None → All (λ o. o ≡ true) over
none_where_over (InRound turns actor left) over e = round_none turns actor left over e
none_where_over (Drawing generator) over e = no_running 0 over (drawn_none (pcg32 generator) (running 0 over) e)
none_where_over (Listed list) over e = listed_none list over e

none_if : (over : List Bool) (o : Option (ℕ × State)) → ((a : ℕ) (s : State) → o ≡ Some (a, s) → Runs over a) → All (λ b. b ≡ true) over → o ≡ None
none_if over None f all = refl
none_if over (Some (a, s)) f all =
    let runs : slice_get over a ≡ Some false = f a s refl in
    let on : get_or over a false ≡ true = all a false (slice_get_within over a false runs) in
    absurd (false≢true (sym (get_or_from_slice_get over a false false runs) ∙ on))

-- where all are over none is picked
pub over_where_none : (state : State) (over : List Bool) → All (λ o. o ≡ true) over → next_of state over ≡ None
over_where_none state over all = none_if over (next_of state over) (picked_runs state over) all

pub none_exactly : (state : State) (over : List Bool) → (next_of state over ≡ None) ↔ All (λ o. o ≡ true) over
none_exactly state over = (none_where_over state over, over_where_none state over)

none_of : (o : Option (ℕ × State)) → is_some (option_map (λ (x : ℕ × State). x.0) o) ≡ false → o ≡ None
none_of None e = refl
none_of (Some x) e = absurd (true≢false e)

-- what a chooser answers
pub answer_none : (chooser : Choosing) (over : List Bool) (r : Option ℕ) → r ≡ picked chooser over → IsNone r ↔ All (λ o. o ≡ true) over
answer_none chooser over r e =
    (λ none. none_where_over chooser.state over (none_of (next_of chooser.state over) (ap is_some (sym e) ∙ none)), λ all. ap is_some e ∙ ap (λ o. is_some (option_map (λ (x : ℕ × State). x.0) o)) (over_where_none chooser.state over all))

runs_of : (over : List Bool) (o : Option (ℕ × State)) → ((a : ℕ) (s : State) → o ≡ Some (a, s) → Runs over a) → IfSome (option_map (λ (x : ℕ × State). x.0) o) (λ a. slice_get over a ≡ Some false)
runs_of over None f = tt
runs_of over (Some (a, s)) f = f a s refl

pub answer_runs : (chooser : Choosing) (over : List Bool) (r : Option ℕ) → r ≡ picked chooser over → IfSome r (λ a. slice_get over a ≡ Some false)
answer_runs chooser over r e =
    let P : Option ℕ → Type 0 = λ o. IfSome o (λ a. slice_get over a ≡ Some false) in
    subst P (sym e) (runs_of over (next_of chooser.state over) (picked_runs chooser.state over))

-- a chooser keeps its number of actors
pub actors-moved : (chooser : Choosing) (o : Option (ℕ × State)) → (moved chooser o).actors ≡ chooser.actors
actors-moved chooser None = refl
actors-moved chooser (Some next) = refl
