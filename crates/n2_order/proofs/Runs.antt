-- The actors that are not over, one by one.
use Rattle.std.proofs.Common.{◌≡◌, ℕ, ◌+◌, ◌<◌, ◌≤◌, Bool, cond, List, [], ◌∷◌, length, get_or, drop, Some, sym, ap, ◌∙◌}
use Rattle.std.proofs.lemmas.List.{at_drop_more, at_drop_all}
use Rattle.n2_order.specs.Choices.{Listed, is_running, running, next_listed, next_in_round}

-- one actor, and those behind it
pub running_more : (over : List Bool) (i : ℕ) (o : Bool) → i < length over → o ≡ get_or over i o → running i (drop i over) ≡ cond o (running (i + 1) (drop (i + 1) over)) (i ∷ running (i + 1) (drop (i + 1) over))
running_more over i o lt e =
    at_drop_more (running i) over i o lt ∙ ap (λ b. cond b (running (i + 1) (drop (i + 1) over)) (i ∷ running (i + 1) (drop (i + 1) over))) (sym e)

pub running_all : (over : List Bool) (i : ℕ) → length over ≤ i → running i (drop i over) ≡ []
running_all over i past = at_drop_all (running i) over i past

pub listed_more : (list : List ℕ) (over : List Bool) (i : ℕ) → i < length list → next_listed (drop i list) over ≡ cond (is_running over (get_or list i 0)) (Some (get_or list i 0, Listed (drop (i + 1) list))) (next_listed (drop (i + 1) list) over)
listed_more list over i lt = at_drop_more (λ left. next_listed left over) list i 0 lt

pub listed_all : (list : List ℕ) (over : List Bool) (i : ℕ) → length list ≤ i → next_listed (drop i list) over ≡ next_in_round 1 0 1 over
listed_all list over i past = at_drop_all (λ left. next_listed left over) list i past
