-- When a machine has followed a replay.
use Rattle.std.specs.Prelude.{◌≡◌, ℕ, Bool, true, false, Option, Some, None, option_map, Result, Ok, Err}
use Rattle.n2_parts.specs.declared.board.Board.{Board}
use Rattle.n2_board.specs.AddressMap.{AddressMap}
use Rattle.n2_bus.specs.declared.request.Request.{Request}
use Rattle.n2_bus.specs.Transfer.{BusState}
use Rattle.n2_journal.specs.declared.entry.Entry.{Entry}
use Rattle.n2_journal.specs.Journals.{Limited}
use Rattle.n2_cpu.specs.declared.state.State.{State}
use Rattle.n2_runs.specs.Machine.{Machine, turn}
use Rattle.n2_runs.specs.Knows.{IsBookKept}
use Rattle.n2_runs.specs.Same.{same_request}
use Rattle.n2_runs.specs.Replay.{Differs, added, quiet_turn}
use Rattle.n2_smp.specs.declared.replay.Wrong.{Wrong}
use Rattle.n2_smp.specs.Standing.{Parts, StandsFor, StandsAt}

abbrev pub Stands : Parts → Machine → Type 0
Stands v m = StandsFor v m × IsBookKept v.board v.map m

-- whether its turns agreed, and the state that it stands for then, or where it was left
abbrev pub Follows : Parts → Bool → Result Machine Machine → Type 0
Follows v true (Ok m) = Stands v m
Follows v true (Err m) = ⊥
Follows v false (Ok m) = ⊥
Follows v false (Err m) = Stands v m

-- by the row that differs, if one does
abbrev pub FollowsRows : Parts → Option ℕ → Result Machine Differs → Type 0
FollowsRows v None (Ok m) = Stands v m
FollowsRows v None (Err why) = ⊥
FollowsRows v (Some row) (Ok m) = ⊥
FollowsRows v (Some row) (Err why) = (row ≡ why.row) × Stands v why.machine

-- the whole journal: the machine is at the end of the run, or the row is the first that differs, and it was left there
abbrev pub IsReplayed : Parts → Result Unit Wrong → Result Machine Differs → Type 0
IsReplayed v (Ok done) (Ok m) = Stands v m
IsReplayed v (Ok done) (Err why) = ⊥
IsReplayed v (Err wrong) (Ok m) = ⊥
IsReplayed v (Err wrong) (Err why) = (wrong.row ≡ why.row) × Stands v why.machine

-- the transfer that the next turn of an actor makes, if it makes one
abbrev pub requested : Board → AddressMap → Machine → ℕ → Option Request
requested b map m actor = option_map (λ (entry : Entry). entry.request) (added m (turn b map m actor).machine)

-- an entry that a turn would add asks for the same
abbrev pub asks_same : Entry → Option Entry → Bool
asks_same entry None = false
asks_same entry (Some other) = same_request entry.request other.request

-- ---- the parts of a machine that a turn of core k without a transfer uses
abbrev pub IsQuietAt : Board → AddressMap → ℕ → State → State → BusState → Limited → Machine → Bool → Type 0
IsQuietAt b map k old new behind journal m true = StandsAt b map k new behind journal (turn b map m k).machine × (quiet_turn b map m k ≡ Ok (turn b map m k).machine)
IsQuietAt b map k old new behind journal m false = quiet_turn b map m k ≡ Err m
