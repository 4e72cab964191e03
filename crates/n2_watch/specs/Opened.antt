-- What a core owns at the start.
use Rattle.std.specs.Prelude.{ℕ, List, Bool, map, get_or, Option, None}
use Rattle.n2_parts.specs.declared.board.RegionRow.{RegionRow}
use Rattle.n2_board.specs.declared.guards.Holder.{Holder}
use Rattle.n2_board.specs.Guards.{owns_region}
use Rattle.n2_watch.specs.Book.{owns_if, first_holder}

-- slots up to that of the last of 64 regions
abbrev pub slot_count : ℕ
slot_count = 129

abbrev pub is_held : ℕ → Option Holder → Bool
is_held core holder = owns_if (λ (h : Holder). owns_region h core) holder

-- a core is the first holder of a region
abbrev pub is_held_first : ℕ → List RegionRow → ℕ → Bool
is_held_first core regions region = is_held core (get_or (map (λ (row : RegionRow). first_holder row.class) regions) region None)
