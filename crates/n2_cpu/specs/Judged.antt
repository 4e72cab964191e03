-- What the judgement of a turn looks at.
use Rattle.std.specs.Prelude.{ℕ, Bool, true, false, Option, Some, None, Result, Ok, Err}
use Rattle.n2_parts.specs.declared.stops.Stop.{Stop}
use Rattle.n2_board.specs.declared.access.Target.{Target}
use Rattle.n2_board.specs.declared.access.Violation.{Violation}
use Rattle.n2_board.specs.declared.access.Violation.TheVariants.{Stray, Separate}
use Rattle.n2_watch.specs.Discipline.{Breach, Strays, Breaks}

-- a breach by an access that names nothing
abbrev pub is_stray : Option Breach → Bool
is_stray None = false
is_stray (Some Strays) = true
is_stray (Some (Breaks kind number)) = false

abbrev pub is_cut : Result Target Violation → Bool
is_cut (Ok target) = false
is_cut (Err Stray) = true
is_cut (Err Separate) = false

-- why a judgement stops the core, if it does
abbrev pub stop_in : Result ℕ Stop → Option Stop
stop_in (Ok place) = None
stop_in (Err stop) = Some stop
