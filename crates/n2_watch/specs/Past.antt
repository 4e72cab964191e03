-- The past events of a core, the newest first, and what they say of a line of its data cache.
use Rattle.std.specs.Prelude.{ℕ, List, [], ◌∷◌, Bool, true, false, ◌==◌, ◌&&◌, nat_lt, if◌then◌else◌, Option, Some, None}
use Rattle.n2_word.specs.Lines.{line, set_for}
use Rattle.n2_insn.specs.declared.DataOp.{DataOp}
use Rattle.n2_insn.specs.declared.DataOp.TheVariants.{Initd, Initda, Flushd, Flushda}
use Rattle.n2_board.specs.declared.guards.Guard.{Guard}
use Rattle.n2_board.specs.AddressMap.{AddressMap, class_of}
use Rattle.n2_board.specs.Guards.{same_guard, guard_of}
use Rattle.n2_watch.specs.declared.past.Past.{Past}
use Rattle.n2_watch.specs.declared.past.Past.TheVariants.{Touch, Clean, Got, Gave}

-- whether a data cache operation at an address cleans a line, in a cache of so many sets: `initd` and `flushd` clean
-- every line of the addressed set, `initda` and `flushda` the addressed line
abbrev pub covers : ℕ → DataOp → ℕ → ℕ → Bool
covers sets Initd address number = set_for (line address) sets == set_for number sets
covers sets Flushd address number = set_for (line address) sets == set_for number sets
covers sets Initda address number = line address == number
covers sets Flushda address number = line address == number

abbrev pub is_guard : Option Guard → Guard → Bool
is_guard None guard = false
is_guard (Some other) guard = same_guard other guard

-- whether a guard is the one of a line
abbrev pub guards : AddressMap → Guard → ℕ → Bool
guards map guard number = is_guard (guard_of (class_of map number)) guard

-- the cache may hold the line: some Touch of it has no later Clean that covers it
abbrev pub may : ℕ → List Past → ℕ → Bool
may sets [] number = false
may sets (Touch touched store ∷ past) number = if touched == number then true else may sets past number
may sets (Clean op address ∷ past) number = if covers sets op address number then false else may sets past number
may sets (Got guard ∷ past) number = may sets past number
may sets (Gave guard ∷ past) number = may sets past number

-- the cache may hold what memory does not have: some storing Touch of the line has no later Clean that covers it
abbrev pub dirty : ℕ → List Past → ℕ → Bool
dirty sets [] number = false
dirty sets (Touch touched store ∷ past) number = if touched == number && store then true else dirty sets past number
dirty sets (Clean op address ∷ past) number = if covers sets op address number then false else dirty sets past number
dirty sets (Got guard ∷ past) number = dirty sets past number
dirty sets (Gave guard ∷ past) number = dirty sets past number

-- the cache may hold what another core has changed since: some Touch of the line has no later Clean that covers it and
-- a later Got of the line's guard
abbrev pub stale : AddressMap → ℕ → List Past → ℕ → Bool
stale map sets [] number = false
stale map sets (Touch touched store ∷ past) number = stale map sets past number
stale map sets (Clean op address ∷ past) number = if covers sets op address number then false else stale map sets past number
stale map sets (Got guard ∷ past) number = if guards map guard number then may sets past number else stale map sets past number
stale map sets (Gave guard ∷ past) number = stale map sets past number

-- the lower of two lines, where there are two
abbrev pub lower : ℕ → Option ℕ → Option ℕ
lower number None = Some number
lower number (Some other) = Some (if nat_lt other number then other else number)

-- the lowest line of those touched that passes a test
abbrev pub lowest : (ℕ → Bool) → List Past → Option ℕ
lowest test [] = None
lowest test (Touch touched store ∷ past) = if test touched then lower touched (lowest test past) else lowest test past
lowest test (Clean op address ∷ past) = lowest test past
lowest test (Got guard ∷ past) = lowest test past
lowest test (Gave guard ∷ past) = lowest test past
