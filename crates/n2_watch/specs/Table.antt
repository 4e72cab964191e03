-- The records of a core's lines, and what each event makes of them.
use Rattle.std.specs.Prelude.{ℕ, ◌+◌, ◌-◌, ◌*◌, List, [], ◌∷◌, length, Bool, ◌==◌, ◌&&◌, not, nat_lt, if◌then◌else◌, get_or, slice_set, replicate, Option, Some, None}
use Rattle.n2_word.specs.Lines.{set_for}
use Rattle.n2_board.specs.declared.guards.Guard.{Guard}
use Rattle.n2_board.specs.declared.guards.Guard.TheVariants.{Mutex, Passed}
use Rattle.n2_watch.specs.declared.records.Record.{Record}
use Rattle.n2_watch.specs.declared.runs.Run.{Run}

-- the slot of a guard, and of lines without one
abbrev pub slot_of : Guard → ℕ
slot_of (Mutex mutex) = 2 * mutex + 1
slot_of (Passed region) = 2 * region + 2

abbrev pub slot_for : Option Guard → ℕ
slot_for None = 0
slot_for (Some guard) = slot_of guard

-- for each line its record, and runs of records whose lines follow each other; for each set of the data cache the clock of
-- the last Clean by index and how many lines are dirty; for each slot the clock of the last Got of its guard; and the
-- clock, which counts the notes
pub record Table : Type 0 where
  pub runs : List Run
  pub records : List Record
  pub cleaned : List ℕ
  pub counts : List ℕ
  pub got : List ℕ
  pub clock : ℕ

abbrev pub nothing : Record
nothing = record { line = 0; slot = 0; first = 0; stored = 0 }

abbrev pub record_at : List Record → ℕ → Record
record_at records i = get_or records i nothing

abbrev pub no_run : Run
no_run = record { first = 0; count = 0; at = 0; slot = 0 }

abbrev pub run_at : List Run → ℕ → Run
run_at runs k = get_or runs k no_run

-- the clock of the last Clean by index of a line's set
abbrev pub cleaned_for : List ℕ → Record → ℕ
cleaned_for cleaned r = get_or cleaned (set_for r.line (length cleaned)) 0

-- a line is dirty where it was stored to since its last Clean
abbrev pub is_dirty : List ℕ → Record → Bool
is_dirty cleaned r = nat_lt (cleaned_for cleaned r) r.stored

-- a line is stale where it was touched since its last Clean, and first before the last Got of its guard
abbrev pub is_stale : List ℕ → List ℕ → Record → Bool
is_stale cleaned got r = nat_lt (cleaned_for cleaned r) r.first && nat_lt r.first (get_or got r.slot 0)

-- a record of a set that is dirty
abbrev pub counted : List ℕ → ℕ → Record → Bool
counted cleaned set r = set_for r.line (length cleaned) == set && is_dirty cleaned r

-- how many records pass a test
abbrev pub count : (Record → Bool) → List Record → ℕ
count test [] = 0
count test (r ∷ records) = if test r then count test records + 1 else count test records

abbrev pub touched : ℕ → ℕ → Bool → Record → Record
touched cleaned clock store r =
    record { line = r.line; slot = r.slot; first = if nat_lt cleaned r.first then r.first else clock; stored = if store then clock else r.stored }

abbrev pub emptied : Record → Record
emptied r = record { line = r.line; slot = r.slot; first = 0; stored = 0 }

-- one more dirty line in a set, and one less
abbrev pub more_dirty : Table → Record → Bool → List ℕ
more_dirty t r store =
    if store && not (is_dirty t.cleaned r) then slice_set t.counts (set_for r.line (length t.cleaned)) (get_or t.counts (set_for r.line (length t.cleaned)) 0 + 1) else t.counts

abbrev pub less_dirty : Table → Record → List ℕ
less_dirty t r =
    if is_dirty t.cleaned r then slice_set t.counts (set_for r.line (length t.cleaned)) (get_or t.counts (set_for r.line (length t.cleaned)) 0 - 1) else t.counts

abbrev pub after_touch : Table → ℕ → Bool → Table
after_touch t i store =
    record {
      runs = t.runs;
      records = slice_set t.records i (touched (cleaned_for t.cleaned (record_at t.records i)) (t.clock + 1) store (record_at t.records i));
      cleaned = t.cleaned;
      counts = more_dirty t (record_at t.records i) store;
      got = t.got;
      clock = t.clock + 1;
    }

abbrev pub after_clean_line : Table → ℕ → Table
after_clean_line t i =
    record {
      runs = t.runs;
      records = slice_set t.records i (emptied (record_at t.records i));
      cleaned = t.cleaned;
      counts = less_dirty t (record_at t.records i);
      got = t.got;
      clock = t.clock + 1;
    }

abbrev pub after_clean_set : Table → ℕ → Table
after_clean_set t set =
    record {
      runs = t.runs;
      records = t.records;
      cleaned = slice_set t.cleaned set (t.clock + 1);
      counts = slice_set t.counts set 0;
      got = t.got;
      clock = t.clock + 1;
    }

abbrev pub after_got : Table → ℕ → Table
after_got t slot =
    record { runs = t.runs; records = t.records; cleaned = t.cleaned; counts = t.counts; got = slice_set t.got slot (t.clock + 1); clock = t.clock + 1 }

-- a note that changes no record
abbrev pub after_other : Table → Table
after_other t = record { runs = t.runs; records = t.records; cleaned = t.cleaned; counts = t.counts; got = t.got; clock = t.clock + 1 }

-- records with nothing past
abbrev pub opened_table : List Run → List Record → ℕ → ℕ → Table
opened_table runs records sets slots =
    record { runs = runs; records = records; cleaned = replicate sets 0; counts = replicate sets 0; got = replicate slots 0; clock = 0 }
