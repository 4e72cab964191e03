-- Replay: a journal is compared, row by row, with the run along the order that it tells. Each row of the journal's text has a
-- number, counted from 1: row 1 is the heading, then each entry has a row, then the tail of each core, and then the end.
use Rattle.std.specs.Prelude.{ℕ, zero, suc, ◌+◌, ◌==◌, Bool, true, false, if◌then◌else◌, List, [], ◌∷◌, length, Option, Some, None, slice_get, Result, Ok, Err}
use Rattle.n2_parts.specs.declared.board.Board.{Board}
use Rattle.n2_board.specs.AddressMap.{AddressMap}
use Rattle.n2_journal.specs.declared.entry.Entry.{Entry}
use Rattle.n2_journal.specs.Journals.{Content}
use Rattle.n2_runs.specs.Machine.{Machine, turn, is_over, core_is_over, script_is_over}
use Rattle.n2_runs.specs.Same.{same_request, same_entry}

-- ---- turns: the machine after them where they agree, and else where it was left

abbrev pub and_then : (Machine → Result Machine Machine) → Result Machine Machine → Result Machine Machine
and_then next (Ok m) = next m
and_then next (Err m) = Err m

-- the entry that a turn added to the journal, if it did
abbrev pub added : Machine → Machine → Option Entry
added before after = slice_get after.entries (length before.entries)

-- a turn without a transfer, of an actor that is not over. Another turn is not made
abbrev pub if_quiet : Machine → Bool → Machine → Option Entry → Result Machine Machine
if_quiet m true after entry = Err m
if_quiet m false after None = Ok after
if_quiet m false after (Some entry) = Err m

unfoldable pub quiet_turn : Board → AddressMap → Machine → ℕ → Result Machine Machine
quiet_turn b map m actor = if_quiet m (is_over b m actor) (turn b map m actor).machine (added m (turn b map m actor).machine)

-- so many of them
unfoldable pub quiet_turns : Board → AddressMap → ℕ → ℕ → Machine → Result Machine Machine
quiet_turns b map actor zero m = Ok m
quiet_turns b map actor (suc n) m = and_then (quiet_turns b map actor n) (quiet_turn b map m actor)

-- a turn with just this transfer and this reply. It is made where it asks for this transfer
abbrev pub if_same : Machine → Entry → Machine → Option Entry → Result Machine Machine
if_same m entry after None = Err m
if_same m entry after (Some other) =
    if same_request entry.request other.request then (if same_entry entry other then Ok after else Err after) else Err m

unfoldable pub entry_turn : Board → AddressMap → Entry → Machine → Result Machine Machine
entry_turn b map entry m = if_same m entry (turn b map m entry.actor).machine (added m (turn b map m entry.actor).machine)

-- ---- rows: the machine after the turns of some rows, or the first row that differs and where the machine was left

pub record Differs : Type 0 where
  pub row : ℕ
  pub machine : Machine

abbrev pub at_row : ℕ → (Machine → Result Machine Differs) → Result Machine Machine → Result Machine Differs
at_row row rest (Ok m) = rest m
at_row row rest (Err m) = Err (record { row = row; machine = m })

-- an entry: the turns without a transfer that it counts, and then its own
abbrev pub entry_row : Board → AddressMap → Entry → Machine → Result Machine Machine
entry_row b map entry m = and_then (entry_turn b map entry) (quiet_turns b map entry.actor entry.local m)

unfoldable pub entry_rows : Board → AddressMap → ℕ → List Entry → Machine → Result Machine Differs
entry_rows b map row [] m = Ok m
entry_rows b map row (entry ∷ entries) m = at_row row (entry_rows b map (row + 1) entries) (entry_row b map entry m)

-- a tail: the turns that it counts, after which its core has stopped
abbrev pub if_stopped : ℕ → Machine → Result Machine Machine
if_stopped core m = if core_is_over (slice_get m.cores core) then Ok m else Err m

abbrev pub tail_row : Board → AddressMap → ℕ → ℕ → Machine → Result Machine Machine
tail_row b map core tail m = and_then (if_stopped core) (quiet_turns b map core tail m)

-- the end: the device actor is over
abbrev pub end_row : Board → Machine → Result Machine Machine
end_row b m = if script_is_over b m m.script then Ok m else Err m

-- a tail for each core, and no more
abbrev pub if_last : Board → ℕ → Machine → Result Machine Machine → Result Machine Machine
if_last b core m end = if core == length b.core then end else Err m

abbrev pub if_core : Board → ℕ → Machine → Result Machine Machine → Result Machine Machine
if_core b core m tail = if core == length b.core then Err m else tail

unfoldable pub tail_rows : Board → AddressMap → ℕ → ℕ → List ℕ → Machine → Result Machine Differs
tail_rows b map row core [] m = at_row row (λ end. Ok end) (if_last b core m (end_row b m))
tail_rows b map row core (tail ∷ tails) m =
    at_row row (tail_rows b map (row + 1) (core + 1) tails) (if_core b core m (tail_row b map core tail m))

-- ---- the whole journal

abbrev pub after_entries : Board → AddressMap → Content → Result Machine Differs → Result Machine Differs
after_entries b map j (Ok m) = tail_rows b map (length j.entries + 2) 0 j.tails m
after_entries b map j (Err why) = Err why

abbrev pub replayed : Board → AddressMap → Machine → Content → Result Machine Differs
replayed b map first j = after_entries b map j (entry_rows b map 2 j.entries first)
