-- The order of turns that an order word picks along a run.
use Rattle.std.specs.Prelude.{◌≡◌, ℕ, zero, suc, ◌+◌, ◌*◌, List, [], ◌∷◌, length, Bool, true, All, Option, Some, None}
use Rattle.n2_parts.specs.declared.board.Board.{Board}
use Rattle.n2_board.specs.AddressMap.{AddressMap}
use Rattle.n2_order.specs.Choices.{State, next_of}
use Rattle.n2_runs.specs.Machine.{Machine, turn, is_over}

-- whether each of so many actors is over, from actor k on
abbrev pub overs_from : Board → Machine → ℕ → ℕ → List Bool
overs_from b m k zero = []
overs_from b m k (suc n) = is_over b m k ∷ overs_from b m (k + 1) n

-- of all actors: the cores in their order, and then the device actor
abbrev pub overs : Board → Machine → List Bool
overs b m = overs_from b m 0 (length b.core + 1)

abbrev pub AreOver : Board → Machine → Type 0
AreOver b m = All (λ over. over ≡ true) (overs b m)

abbrev pub then_chosen : Option (ℕ × State) → (ℕ → State → List ℕ) → List ℕ
then_chosen None later = []
then_chosen (Some next) later = next.0 ∷ later next.0 next.1

-- the actors that an order picks one after another, each by who is over then, until all are over; at most so many
unfoldable pub chosen : Board → AddressMap → ℕ → Machine → State → List ℕ
chosen b map zero m order = []
chosen b map (suc n) m order = then_chosen (next_of order (overs b m)) (λ actor after. chosen b map n (turn b map m actor).machine after)

-- no run has more turns of actors that are not over: a core has at most the board's number of turns, and each event of the
-- devices is an entry of the journal
abbrev pub most_turns : Board → ℕ
most_turns b = length b.core * b.turns + b.journal

-- the whole order
abbrev pub chosen_order : Board → AddressMap → Machine → State → List ℕ
chosen_order b map m order = chosen b map (most_turns b) m order
