-- What the answer of a judge of a load or store through the cache says of the rules.
use Rattle.std.specs.Prelude.{◌≡◌, ℕ, Option, Some, None}
use Rattle.n2_watch.specs.declared.access.Judged.{Judged}
use Rattle.n2_watch.specs.declared.access.Judged.TheVariants.{Passed, Refused, Stray}
use Rattle.n2_watch.specs.Discipline.{Breach, Strays, Breaks}

-- the breach that it tells
abbrev pub breach_of : Judged → Option Breach
breach_of (Passed place) = None
breach_of (Refused broken) = Some (Breaks broken.kind broken.line)
breach_of Stray = Some Strays

-- a refusal is of the address that the instruction gives
abbrev pub IsRefusedAt : ℕ → Judged → Type 0
IsRefusedAt address (Passed place) = Unit {0}
IsRefusedAt address (Refused broken) = broken.address ≡ address
IsRefusedAt address Stray = Unit {0}
