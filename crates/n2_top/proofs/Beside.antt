-- Where a flat machine ends that makes the acts of a run.
use Rattle.std.proofs.Common.{◌≡◌, ℕ, List, ap, ◌∙◌}
use Rattle.n2_parts.specs.declared.board.Board.{Board}
use Rattle.n2_board.specs.AddressMap.{AddressMap}
use Rattle.n2_runs.specs.Machine.{Machine, acts}
use Rattle.n2_runs.specs.FlatRun.{Flat, flat}

-- on a board and a map that are equal to others
pub flat_ends : (s : Machine) (order : List ℕ) (b b' : Board) (g g' : AddressMap) (before after : Flat) → b ≡ b' → g ≡ g' → after ≡ flat b g before (acts b g s order) → after ≡ flat b' g' before (acts b' g' s order)
flat_ends s order b b' g g' before after same_board same_map is =
    is
    ∙ ap (λ (x : Board). flat x g before (acts x g s order)) same_board
    ∙ ap (λ (x : AddressMap). flat b' x before (acts b' x s order)) same_map
