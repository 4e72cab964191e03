-- Names with their values.
use Rattle.std.specs.Prelude.{ℕ, List, Option, Some, if◌then◌else◌}
use Rattle.std.specs.Option.{is_some}
use Rattle.std.specs.Str.{bytes_eq}

-- with a name that has a value from now on, where it had none
unfoldable pub named : {V : Type 0} → (List ℕ → Option V) → List ℕ → V → List ℕ → Option V
named names name value q = if is_some (names name) then names q else (if bytes_eq name q then Some value else names q)
