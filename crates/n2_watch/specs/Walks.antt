-- The lowest line of those records that are meant.
use Rattle.std.specs.Prelude.{◌≡◌, ℕ, ◌+◌, ◌<◌, ◌≤◌, min, List, length, Bool, true, Option, Some, None}
use Rattle.n2_watch.specs.declared.records.Record.{Record}
use Rattle.n2_watch.specs.declared.runs.Run.{Run}
use Rattle.n2_watch.specs.Past.{lower}
use Rattle.n2_watch.specs.Table.{record_at, run_at, is_dirty, counted}

abbrev pub IsLowest : (ℕ → Type 0) → List Record → Option ℕ → Type 0
IsLowest meant records None = (i : ℕ) → i < length records → meant i → ⊥
IsLowest meant records (Some line) = ((i : ℕ) × (i < length records) × meant i × ((record_at records i).line ≡ line)) × ((i : ℕ) → i < length records → meant i → line ≤ (record_at records i).line)

-- the lower of two lines, of which there may be none
abbrev pub lower_of : Option ℕ → Option ℕ → Option ℕ
lower_of None other = other
lower_of (Some line) other = lower line other

-- a dirty line, of a set where one is given
abbrev pub is_walked : List ℕ → Option ℕ → Record → Bool
is_walked cleaned None r = is_dirty cleaned r
is_walked cleaned (Some set) r = counted cleaned set r

-- the places of some records
abbrev pub InPlaces : List ℕ → Option ℕ → List Record → ℕ → ℕ → ℕ → Type 0
InPlaces cleaned set records from to i = (from ≤ i) × (i < to) × (is_walked cleaned set (record_at records i) ≡ true)

-- the places of a run
abbrev pub RunPlaces : List ℕ → List Record → Run → ℕ → Type 0
RunPlaces cleaned records run i = InPlaces cleaned None records run.at (min (run.at + run.count) (length records)) i

-- the places of records in the first so many runs, of those that have a slot
pub record InRuns (runs : List Run) (slot many : ℕ) (cleaned : List ℕ) (records : List Record) (i : ℕ) : Type 0 where
  pub k : ℕ
  pub below : k < many
  pub slots : (run_at runs k).slot ≡ slot
  pub from : (run_at runs k).at ≤ i
  pub to : i < (run_at runs k).at + (run_at runs k).count
  pub dirty : is_dirty cleaned (record_at records i) ≡ true
