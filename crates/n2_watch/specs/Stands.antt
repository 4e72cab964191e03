-- When the records of a core's lines stand for its past events.
use Rattle.std.specs.Prelude.{◌≡◌, ◌≢◌, ◌⊎◌, ℕ, ◌+◌, ◌<◌, ◌≤◌, List, [], ◌∷◌, ◌++◌, length, slice_set, Bool, false, nat_lt, ◌&&◌, get_or}
use Rattle.n2_board.specs.AddressMap.{AddressMap, class_of}
use Rattle.n2_board.specs.Guards.{guard_of}
use Rattle.n2_watch.specs.declared.past.Past.{Past}
use Rattle.n2_watch.specs.declared.records.Record.{Record}
use Rattle.n2_watch.specs.declared.runs.Run.{Run}
use Rattle.n2_watch.specs.Past.{may, dirty, stale}
use Rattle.n2_watch.specs.Table.{Table, slot_for, record_at, run_at, cleaned_for, counted, count}

-- one line: c is the clock of the last Clean by index of its set, n that of the last Got of its guard, k the clock
pub record LineStands (r : Record) (c n k : ℕ) (is_may is_dirty is_stale : Bool) : Type 0 where
  pub may_now : is_may ≡ nat_lt c r.first
  pub dirty_now : is_dirty ≡ nat_lt c r.stored
  pub stale_now : is_stale ≡ (nat_lt c r.first && nat_lt r.first n)
  pub first : r.first ≤ k
  pub stored : r.stored ≤ k
  pub cleaned : c ≤ k
  pub got : n ≤ k

-- a run has the record at a place
pub record IsInRun (run : Run) (i : ℕ) (r : Record) : Type 0 where
  pub from : run.first ≤ r.line
  pub below : r.line < run.first + run.count
  pub place : i + run.first ≡ run.at + r.line
  pub slot : r.slot ≡ run.slot

-- each record is in a run, which has the records at its places, and runs are in the order of their lines, none of which two runs have
pub record AreRuns (runs : List Run) (records : List Record) : Type 0 where
  pub has : (i : ℕ) → i < length records → (k : ℕ) × (k < length runs) × IsInRun (run_at runs k) i (record_at records i)
  pub places : (k i : ℕ) → k < length runs → i < length records → (run_at runs k).at ≤ i → i < (run_at runs k).at + (run_at runs k).count → IsInRun (run_at runs k) i (record_at records i)
  pub rising : (j k : ℕ) → j < k → k < length runs → (run_at runs j).first + (run_at runs j).count ≤ (run_at runs k).first

-- records are found by runs, each has the slot of its line's guard, and there are as many counts as sets
pub record IsTable (map : AddressMap) (t : Table) : Type 0 where
  pub runs : AreRuns t.runs t.records
  pub slots : (i : ℕ) → i < length t.records → (record_at t.records i).slot ≡ slot_for (guard_of (class_of map (record_at t.records i).line))
  pub sets : 0 < length t.cleaned
  pub counts : length t.counts ≡ length t.cleaned

-- no record is of the line
abbrev pub IsUnrecorded : List Record → ℕ → Type 0
IsUnrecorded records number = (i : ℕ) → i < length records → (record_at records i).line ≢ number

-- past events say nothing of a line
pub record IsUntouched (map : AddressMap) (sets : ℕ) (past : List Past) (number : ℕ) : Type 0 where
  pub may : may sets past number ≡ false
  pub dirty : dirty sets past number ≡ false
  pub stale : stale map sets past number ≡ false

-- the records stand for past events: what a line's record says is what they say, and of a line without a record they say
-- nothing
pub record Stand (map : AddressMap) (t : Table) (past : List Past) : Type 0 where
  pub lines : (i : ℕ) → i < length t.records → LineStands (record_at t.records i) (cleaned_for t.cleaned (record_at t.records i)) (get_or t.got (record_at t.records i).slot 0) t.clock (may (length t.cleaned) past (record_at t.records i).line) (dirty (length t.cleaned) past (record_at t.records i).line) (stale map (length t.cleaned) past (record_at t.records i).line)
  pub others : (number : ℕ) → IsUnrecorded t.records number → IsUntouched map (length t.cleaned) past number
  pub counts : (set : ℕ) → set < length t.cleaned → get_or t.counts set 0 ≡ count (counted t.cleaned set) t.records

-- some record is of the line
pub record IsRecorded (records : List Record) (number : ℕ) : Type 0 where
  pub i : ℕ
  pub within : i < length records
  pub line : (record_at records i).line ≡ number

-- a table that stands for past events
pub record LinesStand (map : AddressMap) (t : Table) (past : List Past) : Type 0 where
  pub table : IsTable map t
  pub stand : Stand map t past

-- what a note keeps of a table: the lines, how many sets and slots there are; the clock counts it
pub record IsNoted (old new : Table) : Type 0 where
  pub lines : (number : ℕ) → IsRecorded old.records number → IsRecorded new.records number
  pub sets : length new.cleaned ≡ length old.cleaned
  pub slots : length new.got ≡ length old.got
  pub clock : new.clock ≡ old.clock + 1

-- ---- records that are put one after another

abbrev pub new_record : ℕ → ℕ → Record
new_record line slot = record { line = line; slot = slot; first = 0; stored = 0 }

-- records of lines below a bound, with nothing past
pub record AreBuilt (map : AddressMap) (runs : List Run) (records : List Record) (bound : ℕ) : Type 0 where
  pub are_runs : AreRuns runs records
  pub ends : (k : ℕ) → k < length runs → ((run_at runs k).first + (run_at runs k).count ≤ bound) × ((run_at runs k).at + (run_at runs k).count ≤ length records)
  pub slots : (i : ℕ) → i < length records → (record_at records i).slot ≡ slot_for (guard_of (class_of map (record_at records i).line))
  pub untouched : (i : ℕ) → i < length records → ((record_at records i).first ≡ 0) × ((record_at records i).stored ≡ 0)
  pub few : length records ≤ bound

abbrev pub put : List Record → ℕ → ℕ → List Record
put records line slot = records ++ new_record line slot ∷ []

-- a run of one record, and a run with one more
abbrev pub begun : ℕ → ℕ → ℕ → Run
begun at line slot = record { first = line; count = 1; at = at; slot = slot }

abbrev pub grown : Run → Run
grown run = record { first = run.first; count = run.count + 1; at = run.at; slot = run.slot }

-- the record of a line goes into the last run, or begins one
pub record IsGrown (old new : List Run) (at line slot : ℕ) : Type 0 where
  pub k : ℕ
  pub last : k + 1 ≡ length old
  pub next : (run_at old k).first + (run_at old k).count ≡ line
  pub place : (run_at old k).at + (run_at old k).count ≡ at
  pub slots : (run_at old k).slot ≡ slot
  pub grows : new ≡ slice_set old k (grown (run_at old k))

abbrev pub IsPut : List Run → List Run → ℕ → ℕ → ℕ → Type 0
IsPut old new at line slot = (new ≡ old ++ begun at line slot ∷ []) ⊎ IsGrown old new at line slot
