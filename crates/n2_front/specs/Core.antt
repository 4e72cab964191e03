-- A core with its private caches.
use Rattle.std.specs.Prelude.{ℕ, ◌+◌, ◌-◌, ◌/◌, ◌%◌, ◌&&◌, ◌==◌, not, nat_lt, Bool, true, false, if◌then◌else◌, List, length, Option, Some, None}
use Rattle.std.specs.Option.{option_or}
use Rattle.n2_elf.specs.declared.image.Image.{Image}
use Rattle.n2_parts.specs.declared.board.Board.{Board}
use Rattle.n2_parts.specs.declared.board.CoreRow.{CoreRow}
use Rattle.n2_parts.specs.declared.stops.Stop.{Stop}
use Rattle.n2_parts.specs.declared.stops.Stop.TheVariants as stops
use Rattle.n2_dcache.specs.declared.Held.{Held}
use Rattle.n2_dcache.specs.Cache.{opened}
use Rattle.n2_front.specs.Front.{Front, started_front}

-- the ends of a core that its turns and the journal give it, and no access of its own
pub data Ended : Type 0 where
  Spent : Ended
  LogFull : Ended

pub record Core : Type 0 where
  pub front : Front
  -- one optional line for each set of the data cache, and of the instruction cache
  pub data_slots : List (Option Held)
  pub code_slots : List (Option Held)
  -- the number of the next turn, and how many turns it made since its last transfer
  pub turns : ℕ
  pub local : ℕ
  pub ended : Option Ended

-- before the first turn the caches are empty
abbrev pub started_core : CoreRow → Image → Core
started_core row image = record {
  front = started_front row image;
  data_slots = opened row.dcache;
  code_slots = opened row.icache;
  turns = 0;
  local = 0;
  ended = None;
}

abbrev pub ended_stop : Option Ended → Option Stop
ended_stop None = None
ended_stop (Some Spent) = Some stops.Spent
ended_stop (Some LogFull) = Some stops.LogFull

-- why a core stopped, if it did
abbrev pub stop_of : Core → Option Stop
stop_of c = option_or c.front.stop (ended_stop c.ended)

-- ---- the kind of a turn, by its number

pub data TurnKind : Type 0 where
  SampleTurn : TurnKind
  EvictTurn : TurnKind
  StepTurn : TurnKind

-- the last of each `sample` turns samples; else the last of each `evict` turns evicts, where `evict` is not 0
abbrev pub is_sample_turn : CoreRow → ℕ → Bool
is_sample_turn row turn = turn % row.sample == row.sample - 1

abbrev pub is_evict_turn : CoreRow → ℕ → Bool
is_evict_turn row turn = not (row.evict == 0) && turn % row.evict == row.evict - 1

abbrev pub turn_kind : CoreRow → ℕ → TurnKind
turn_kind row turn = if is_sample_turn row turn then SampleTurn else (if is_evict_turn row turn then EvictTurn else StepTurn)

-- the set that an evict turn looks at
abbrev pub evicted_set : CoreRow → ℕ → ℕ → ℕ
evicted_set row sets turn = turn / row.evict % sets

-- ---- what every turn counts

-- a core that reached the board's number of turns without another stop is spent
abbrev pub ended_after : Board → ℕ → Option Stop → Option Ended
ended_after b turns None = if nat_lt turns b.turns then None else Some Spent
ended_after b turns (Some stop) = None

-- a turn that wants a transfer for which the journal has no room
abbrev pub log_full : Core → Core
log_full c = record {
  front = c.front;
  data_slots = c.data_slots;
  code_slots = c.code_slots;
  turns = c.turns + 1;
  local = c.local + 1;
  ended = Some LogFull;
}
