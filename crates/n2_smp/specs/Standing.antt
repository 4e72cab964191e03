-- When a machine's value stands for a state of the caching machine.
use Rattle.std.specs.Prelude.{◌≡◌, ℕ, ◌<◌, Bool, true, false, List, length, map, Option, Some, None, slice_get}
use Rattle.n2_parts.specs.declared.board.Board.{Board}
use Rattle.n2_parts.specs.declared.stops.Act.{Act}
use Rattle.n2_board.specs.AddressMap.{AddressMap}
use Rattle.n2_bus.specs.Transfer.{BusState}
use Rattle.n2_bus.specs.Transfer as bus
use Rattle.n2_journal.specs.Journals.{Limited, IsWithinLimits}
use Rattle.n2_watch.specs.World.{shared, start_world}
use Rattle.n2_watch.specs.Watched.{IsMapOf}
use Rattle.n2_parts.specs.declared.board.CoreRow.{CoreRow}
use Rattle.n2_bus.specs.declared.request.Request.{Request}
use Rattle.n2_elf.specs.declared.image.Image.{Image}
use Rattle.n2_front.specs.Core.{Core, started_core, stop_of}
use Rattle.n2_front.specs.Turn.{wants}
use Rattle.n2_cpu.specs.declared.state.State.{State}
use Rattle.n2_cpu.specs.Stands as cpu
use Rattle.n2_runs.specs.Machine.{Machine, start, turn, run, is_over}
use Rattle.n2_runs.specs.Recorded.{journal_of}
use Rattle.n2_smp.specs.declared.machine.Ran.{Ran}
use Rattle.n2_runs.specs.Knows.{IsBookKept}
use Rattle.n2_smp.specs.declared.turns.Turned.{Turned}
use Rattle.n2_smp.specs.declared.turns.Turned.TheVariants as answers
use Rattle.n2_smp.specs.Rows.{FitRows}
use Rattle.n2_smp.specs.Scripts.{Reached, left, IsReached}

-- the parts of a machine, its board with the map of its images among them
pub record Parts : Type 0 where
  pub board : Board
  pub map : AddressMap
  pub cores : List State
  pub bus : BusState
  pub journal : Limited
  pub script : Reached

-- a machine stands for a state of its board and its map
pub record StandsFor (v : Parts) (m : Machine) : Type 0 where
  pub count : length v.cores ≡ length v.board.core
  pub cores : (k : ℕ) (value : State) (c : Core) → slice_get v.cores k ≡ Some value → slice_get m.cores k ≡ Some c → cpu.StandsFor v.board v.map k value c m.world
  pub bus : bus.StandsFor v.board v.bus (shared m.world)
  pub entries : v.journal.content.entries ≡ m.entries
  pub limit : v.journal.limit ≡ v.board.journal
  pub script : left v.board v.script ≡ m.script

-- what a machine keeps by itself: it stands for a state of a run from the start, and each entry has a row
pub record IsSound (v : Parts) : Type 0 where
  pub map_of : IsMapOf v.board v.map
  pub reached : IsReached v.board v.script
  pub tails : length v.journal.content.tails ≡ length v.board.core
  pub rows : FitRows v.journal.content.entries
  pub state : Machine
  pub order : List ℕ
  pub along : state ≡ run v.board v.map (start v.board map_of.images) order
  pub stands : StandsFor v state
  pub kept : IsBookKept v.board v.map state

-- ---- turns

-- what a turn answers, by whether its actor was over and by its act
abbrev pub answer_of : Bool → Option Act → Turned
answer_of true act = answers.Over
answer_of false None = answers.Local
answer_of false (Some act) = answers.Acted act

-- ---- the parts of a machine that a turn of core k uses, for a state
pub record StandsAt (b : Board) (map : AddressMap) (k : ℕ) (value : State) (behind : BusState) (journal : Limited) (m : Machine) : Type 0 where
  pub within : k < length b.core
  pub core : (c : Core) → slice_get m.cores k ≡ Some c → cpu.StandsFor b map k value c m.world
  pub bus : bus.StandsFor b behind (shared m.world)
  pub entries : journal.content.entries ≡ m.entries
  pub limit : journal.limit ≡ b.journal

-- they stand for some state that keeps what books keep
pub record IsReady (map : AddressMap) (k : ℕ) (value : State) (behind : BusState) (journal : Limited) : Type 0 where
  pub board : Board
  pub map_of : IsMapOf board map
  pub state : Machine
  pub stands : StandsAt board map k value behind journal state
  pub kept : IsBookKept board map state

-- core k runs, and its turn wants this transfer
pub record IsWanted (b : Board) (map : AddressMap) (k : ℕ) (m : Machine) (request : Request) : Type 0 where
  pub row : CoreRow
  pub core : Core
  pub has_row : slice_get b.core k ≡ Some row
  pub has_core : slice_get m.cores k ≡ Some core
  pub runs : stop_of core ≡ None
  pub wants : wants b map k row m.world.book core ≡ Some request

-- they stand for the state after a turn of core k, with its act or with its answer
pub record IsMadeAt (b : Board) (map : AddressMap) (k : ℕ) (value : State) (behind : BusState) (journal : Limited) (m : Machine) (act : Option Act) : Type 0 where
  pub stands : StandsAt b map k value behind journal (turn b map m k).machine
  pub act_is : act ≡ (turn b map m k).act

pub record IsTurnedAt (b : Board) (map : AddressMap) (k : ℕ) (value : State) (behind : BusState) (journal : Limited) (m : Machine) (answer : Turned) : Type 0 where
  pub stands : StandsAt b map k value behind journal (turn b map m k).machine
  pub answer_is : answer ≡ answer_of (is_over b m k) (turn b map m k).act

-- ---- the parts that a turn of the device actor uses
pub record EventsStandFor (b : Board) (behind : BusState) (journal : Limited) (script : Reached) (m : Machine) : Type 0 where
  pub bus : bus.StandsFor b behind (shared m.world)
  pub entries : journal.content.entries ≡ m.entries
  pub limit : journal.limit ≡ b.journal
  pub left_is : left b script ≡ m.script

pub record AreTurned (b : Board) (map : AddressMap) (behind : BusState) (journal : Limited) (script : Reached) (m : Machine) (answer : Turned) : Type 0 where
  pub stand : EventsStandFor b behind journal script (turn b map m (length b.core)).machine
  pub answer_is : answer ≡ answer_of (is_over b m (length b.core)) (turn b map m (length b.core)).act

-- ---- the ends of a run

-- a core before its first turn
abbrev pub IsOpened : Board → AddressMap → ℕ → State → Image → Type 0
IsOpened b map k value image = (row : CoreRow) (images : List Image) → slice_get b.core k ≡ Some row → cpu.StandsFor b map k value (started_core row image) (start_world b images)

-- each core of some
abbrev pub AreOpened : Board → AddressMap → List State → List Image → Type 0
AreOpened b map values images = (k : ℕ) (value : State) (image : Image) → slice_get values k ≡ Some value → slice_get images k ≡ Some image → IsOpened b map k value image

-- the turns of each core since its last transfer
abbrev pub locals_of : List State → List ℕ
locals_of values = map (λ (value : State). value.clock.local) values

-- what a machine hands out stands for a state: its cores, its bus, and its whole journal, which is within the limits of one that
-- has a text
pub record RanStandsFor (b : Board) (map : AddressMap) (ran : Ran) (m : Machine) : Type 0 where
  pub count : length ran.cores ≡ length b.core
  pub cores : (k : ℕ) (value : State) (c : Core) → slice_get ran.cores k ≡ Some value → slice_get m.cores k ≡ Some c → cpu.StandsFor b map k value c m.world
  pub bus : bus.StandsFor b ran.bus (shared m.world)
  pub journal : ran.journal.content ≡ journal_of m
  pub within : IsWithinLimits ran.journal.content
