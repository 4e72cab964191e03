-- The first fault of some, in order.
use Rattle.std.specs.Prelude.{List, [], ◌∷◌, Bool, true, false, Option, Some, None}
use Rattle.std.specs.Option.{option_or}

-- the first fault of some
abbrev pub first_of : {F : Type 0} → List (Option F) → Option F
first_of [] = None
first_of (fault ∷ faults) = option_or fault (first_of faults)

-- a fault, unless a condition holds
abbrev pub unless : {F : Type 0} → Bool → F → Option F
unless true fault = None
unless false fault = Some fault
