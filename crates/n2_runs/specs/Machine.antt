-- The caching machine: cores with private caches over one memory and one book, and the device actor with its script. One turn
-- of one actor makes at most one transfer, which is one entry of the journal.
use Rattle.std.specs.Prelude.{ℕ, ◌==◌, nat_lt, Bool, true, not, ◌&&◌, if◌then◌else◌, List, [], ◌∷◌, ◌++◌, length, map, replicate, slice_get, slice_set, Option, Some, None, is_some}
use Rattle.std.specs.List.{flat_map, list_all}
use Rattle.n2_elf.specs.declared.image.Image.{Image}
use Rattle.n2_parts.specs.declared.board.Board.{Board}
use Rattle.n2_parts.specs.declared.board.CoreRow.{CoreRow}
use Rattle.n2_parts.specs.declared.board.ScriptRow.{ScriptRow}
use Rattle.n2_parts.specs.declared.board.DeviceEvent.{DeviceEvent}
use Rattle.n2_parts.specs.declared.stops.Stop.{Stop}
use Rattle.n2_parts.specs.declared.stops.Act.{Act}
use Rattle.n2_parts.specs.declared.stops.Act.TheVariants as acts_of
use Rattle.n2_board.specs.AddressMap.{AddressMap}
use Rattle.n2_bus.specs.declared.request.Request.{Request}
use Rattle.n2_journal.specs.declared.entry.Entry.{Entry}
use Rattle.n2_watch.specs.World.{World, Transferred, start_world, transferred}
use Rattle.n2_bus.specs.Transfer.{request_for}
use Rattle.n2_front.specs.Core.{Core, started_core, stop_of, log_full}
use Rattle.n2_front.specs.Turn.{CoreTurn, core_turn}

pub record Machine : Type 0 where
  pub world : World
  pub cores : List Core
  pub entries : List Entry
  -- the events that are left
  pub script : List DeviceEvent

-- ---- the start

abbrev pub started_cores : List CoreRow → List Image → List Core
started_cores [] images = []
started_cores (row ∷ rows) [] = []
started_cores (row ∷ rows) (image ∷ images) = started_core row image ∷ started_cores rows images

-- the events of a script, each as often as its row says
abbrev pub events_of : List ScriptRow → List DeviceEvent
events_of rows = flat_map (λ (row : ScriptRow). replicate row.times row.event) rows

abbrev pub start : Board → List Image → Machine
start b images = record { world = start_world b images; cores = started_cores b.core images; entries = []; script = events_of b.script }

-- ---- one turn

-- a machine after a turn, and the turn's act
pub record Made : Type 0 where
  pub machine : Machine
  pub act : Option Act

abbrev pub unmoved : Machine → Made
unmoved m = record { machine = m; act = None }

-- the journal has room for an entry
abbrev pub has_room : Board → Machine → Bool
has_room b m = nat_lt (length m.entries) b.journal

abbrev pub entry_of : ℕ → Core → CoreTurn → Request → Entry
entry_of k c t request = record { actor = k; local = c.local; request = request; reply = t.reply }

-- a turn without a transfer, and one with it, which has its entry
abbrev pub local_made : Machine → ℕ → CoreTurn → Made
local_made m k t = record {
  machine = record { world = t.world; cores = slice_set m.cores k t.core; entries = m.entries; script = m.script };
  act = t.act;
}

abbrev pub entered : Machine → ℕ → CoreTurn → Entry → Made
entered m k t entry = record {
  machine = record { world = t.world; cores = slice_set m.cores k t.core; entries = m.entries ++ entry ∷ []; script = m.script };
  act = t.act;
}

-- a transfer that is wanted while the journal is full stops the core, and nothing else changes
abbrev pub full_made : Machine → ℕ → Core → Made
full_made m k c = record {
  machine = record { world = m.world; cores = slice_set m.cores k (log_full c); entries = m.entries; script = m.script };
  act = None;
}

abbrev pub made_by : Board → Machine → ℕ → Core → CoreTurn → Option Request → Made
made_by b m k c t None = local_made m k t
made_by b m k c t (Some request) = if has_room b m then entered m k t (entry_of k c t request) else full_made m k c

abbrev pub made : Board → Machine → ℕ → Core → CoreTurn → Made
made b m k c t = made_by b m k c t t.request

abbrev pub core_made : Board → AddressMap → Machine → ℕ → CoreRow → Core → Option Stop → Made
core_made b map m k row c (Some stop) = unmoved m
core_made b map m k row c None = made b m k c (core_turn b map k row c m.world)

abbrev pub core_of : Board → AddressMap → Machine → ℕ → Option CoreRow → Option Core → Made
core_of b map m k (Some row) (Some c) = core_made b map m k row c (stop_of c)
core_of b map m k _ _ = unmoved m

-- the device actor makes the next event of its script
abbrev pub event_made : Board → Machine → DeviceEvent → List DeviceEvent → Transferred → Made
event_made b m event script t = record {
  machine = record {
    world = t.world;
    cores = m.cores;
    entries = m.entries ++ record { actor = length b.core; local = 0; request = request_for event; reply = t.reply } ∷ [];
    script = script;
  };
  act = Some (acts_of.Device event);
}

abbrev pub script_made : Board → AddressMap → Machine → List DeviceEvent → Made
script_made b map m [] = unmoved m
script_made b map m (event ∷ script) =
    if has_room b m then event_made b m event script (transferred b map (length b.core) m.world (request_for event)) else unmoved m

-- the actor after the last core is the device actor. An actor that is over changes nothing
unfoldable pub turn : Board → AddressMap → Machine → ℕ → Made
turn b map m actor = if actor == length b.core then script_made b map m m.script else core_of b map m actor (slice_get b.core actor) (slice_get m.cores actor)

-- ---- runs

unfoldable pub run : Board → AddressMap → Machine → List ℕ → Machine
run b map m [] = m
run b map m (actor ∷ order) = run b map (turn b map m actor).machine order

abbrev pub with_act : Option Act → List Act → List Act
with_act None acts = acts
with_act (Some act) acts = act ∷ acts

-- the acts that its turns make
unfoldable pub acts : Board → AddressMap → Machine → List ℕ → List Act
acts b map m [] = []
acts b map m (actor ∷ order) = with_act (turn b map m actor).act (acts b map (turn b map m actor).machine order)

-- ---- the end

abbrev pub script_is_over : Board → Machine → List DeviceEvent → Bool
script_is_over b m [] = true
script_is_over b m (event ∷ script) = not (has_room b m)

abbrev pub core_is_over : Option Core → Bool
core_is_over None = true
core_is_over (Some c) = is_some (stop_of c)

-- an actor is over: its core has stopped; the script is used up, or the journal is full; or there is no such actor
abbrev pub is_over : Board → Machine → ℕ → Bool
is_over b m actor = if actor == length b.core then script_is_over b m m.script else core_is_over (slice_get m.cores actor)

-- every core has stopped, and the device actor is over
abbrev pub is_finished : Board → Machine → Bool
is_finished b m = list_all (λ c. is_some (stop_of c)) m.cores && script_is_over b m m.script

-- a core's turns after its last transfer
abbrev pub tails : Machine → List ℕ
tails m = map (λ (c : Core). c.local) m.cores
