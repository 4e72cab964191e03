-- What an access leaves as it was.
use Rattle.std.proofs.Common.{◌≡◌, ◌<◌, ℕ, ◌+◌, ◌++◌, List, length, map, take, drop, get_or, Some, slice_get, sym, ap, ◌∙◌}
use Rattle.std.proofs.Math.ListN.{set}
use Rattle.std.proofs.lemmas.List.{set-get_or}
use Rattle.std.proofs.lemmas.List.Edits.{map_over_more}
use Rattle.std.proofs.lemmas.Option.{get_or_from_slice_get}
use Rattle.n2_timer.specs.Timer.{State, ticks}

-- a device that keeps its state is all devices as they were
pub set_same : {S : Type 0} → (states : List S) (i : ℕ) (state : S) → slice_get states i ≡ Some state → set states i state ≡ states
set_same states i state e =
    ap (set states i) (sym (get_or_from_slice_get states i state state e)) ∙ set-get_or states i state

-- so many ticks of one more timer
pub ticked_more : (n : ℕ) (before now : List State) (i : ℕ) (timer : State) → i < length before → now ≡ map (ticks n) (take i before) ++ drop i before → timer ≡ get_or now i timer → set now i (ticks n timer) ≡ map (ticks n) (take (i + 1) before) ++ drop (i + 1) before
ticked_more n before now i timer = map_over_more (ticks n) before now i timer
