-- When a core's value stands for a core of the definitions.
use Rattle.std.specs.Prelude.{◌≡◌, ℕ, ◌+◌, ◌%◌, ◌^◌, ◌≤◌, ◌<◌, nat_lt, Bool, List, length, Option, Some, None, slice_get, if◌then◌else◌}
use Rattle.n2_exec.specs.declared.registers.Regs.{Regs}
use Rattle.n2_parts.specs.declared.board.Board.{Board}
use Rattle.n2_parts.specs.declared.board.CoreRow.{CoreRow}
use Rattle.n2_parts.specs.declared.stops.Act.{Act}
use Rattle.n2_parts.specs.declared.stops.Stop.{Stop}
use Rattle.n2_parts.specs.declared.stops.Stop.TheVariants.{Spent}
use Rattle.n2_board.specs.declared.guards.Guard.{Guard}
use Rattle.n2_board.specs.AddressMap.{AddressMap}
use Rattle.n2_bus.specs.declared.request.Request.{Request}
use Rattle.n2_watch.specs.declared.past.Past.{Past}
use Rattle.n2_watch.specs.Book.{Book}
use Rattle.n2_watch.specs.World.{World}
use Rattle.n2_watch.specs.Table.{slot_of}
use Rattle.n2_watch.specs.Watched.{Watched, IsGuardOf}
use Rattle.n2_watch.specs.Watched as watched
use Rattle.n2_watch.specs.Kept.{IsPosted}
use Rattle.n2_watch.specs.Shapes.{HasBoardShape}
use Rattle.n2_cpu.specs.declared.state.Clock.{Clock}
use Rattle.n2_cpu.specs.declared.state.State.{State}
use Rattle.n2_cpu.specs.declared.turns.Plan.{Plan}
use Rattle.n2_cpu.specs.declared.turns.Plan.TheVariants as plans
use Rattle.n2_cpu.specs.declared.turns.Step.{Step}
use Rattle.n2_cpu.specs.declared.turns.Step.TheVariants as steps
use Rattle.n2_front.specs.Core.{Core, stop_of}
use Rattle.n2_front.specs.Turn.{Turned, CoreTurn, core_turn, wants}
use Rattle.n2_cpu.specs.Aims.{AreThere, AreCode}

-- each guard of the board has a slot
abbrev pub HasSlots : Watched → Type 0
HasSlots w = (guard : Guard) → IsGuardOf w.board guard → slot_of guard < length w.table.got

-- a watch can take a note
pub record HasRoom (w : Watched) : Type 0 where
  pub clock : w.table.clock + 1 < 2 ^ 64
  pub slots : HasSlots w

-- so many turns from a turn on neither sample nor evict
pub record AreQuiet (sample evict turns quiet : ℕ) : Type 0 where
  pub no_sample : quiet + turns % sample < sample
  pub no_evict : 0 < evict → quiet + turns % evict < evict

abbrev pub IsQuiet : Clock → Type 0
IsQuiet clock = AreQuiet clock.sample clock.evict clock.turns clock.quiet

-- what a value keeps by itself: a running core has turns left behind those that are quiet, and there are at most as many
-- notes as turns
pub record IsSound (s : State) : Type 0 where
  pub running : s.stop ≡ None → s.clock.quiet + s.clock.turns < s.clock.limit
  pub notes : s.watch.table.clock ≤ s.clock.turns
  pub local : s.clock.local ≤ s.clock.turns
  pub quiet : IsQuiet s.clock
  pub fits : s.clock.limit < 2 ^ 64
  pub slots : HasSlots s.watch

-- the row of the board that a clock is made from, and the core's turns
pub record HasRow (clock : Clock) (row : CoreRow) (c : Core) : Type 0 where
  pub sample : row.sample ≡ clock.sample
  pub evict : row.evict ≡ clock.evict
  pub turns : c.turns ≡ clock.turns

-- the watch stands for the core's past events in the book, and each held line is in a memory of the board
pub record Holds (b : Board) (map : AddressMap) (s : State) (book : Book) (past : List Past) : Type 0 where
  pub watch : watched.StandsFor b map s.clock.number s.watch book past
  pub data_lines : AreThere b s.dcache
  pub code_lines : AreCode b map s.icache

-- the core that a running value with past events stands for
abbrev pub core_now : State → List Past → Core
core_now s past = record {
  front = record { regs = s.regs; stop = s.stop; past = past };
  data_slots = s.dcache;
  code_slots = s.icache;
  turns = s.clock.turns;
  local = s.clock.local;
  ended = None;
}

-- a value has made the core's part of a turn
pub record IsTurned (b : Board) (map : AddressMap) (s : State) (made : Option Act) (book : Book) (t : Turned) : Type 0 where
  pub regs : s.regs ≡ t.front.regs
  pub stop : s.stop ≡ t.front.stop
  pub data_slots : s.dcache ≡ t.data_slots
  pub code_slots : s.icache ≡ t.code_slots
  pub act : made ≡ t.act
  pub holds : Holds b map s book t.front.past

-- what a part of a turn leaves: the counts, and it makes at most one note
pub record IsPart (old new : State) : Type 0 where
  pub clock : new.clock ≡ old.clock
  pub board : new.watch.board ≡ old.watch.board
  pub notes : new.watch.table.clock ≤ old.watch.table.clock + 1
  pub slots : length new.watch.table.got ≡ length old.watch.table.got

-- ---- the whole turn

-- registers as an instruction left them
abbrev pub with_registers : State → Regs → State
with_registers s regs = record { clock = s.clock; regs = regs; stop = s.stop; dcache = s.dcache; icache = s.icache; watch = s.watch }

abbrev pub counted_stop : ℕ → ℕ → Option Stop → Option Stop
counted_stop limit turns None = if nat_lt turns limit then None else Some Spent
counted_stop limit turns (Some stop) = Some stop

-- how many turns without a transfer a core has made then
abbrev pub counted_local : ℕ → Bool → ℕ
counted_local local transfer = if transfer then 0 else local + 1

-- a value that is spent where it has made all its turns, with its number of quiet turns
abbrev pub settled : State → ℕ → State
settled s quiet = record {
  clock = record { number = s.clock.number; turns = s.clock.turns; local = s.clock.local; limit = s.clock.limit; sample = s.clock.sample; evict = s.clock.evict; quiet = quiet };
  regs = s.regs;
  stop = counted_stop s.clock.limit s.clock.turns s.stop;
  dcache = s.dcache;
  icache = s.icache;
  watch = s.watch;
}

-- a value after its turn was counted, with its number of quiet turns
abbrev pub counted : State → Bool → ℕ → State
counted s transfer quiet = record {
  clock = record { number = s.clock.number; turns = s.clock.turns + 1; local = counted_local s.clock.local transfer; limit = s.clock.limit; sample = s.clock.sample; evict = s.clock.evict; quiet = quiet };
  regs = s.regs;
  stop = counted_stop s.clock.limit (s.clock.turns + 1) s.stop;
  dcache = s.dcache;
  icache = s.icache;
  watch = s.watch;
}

-- a value stands for a core of the definitions, with all that cores share
pub record StandsFor (b : Board) (map : AddressMap) (k : ℕ) (s : State) (c : Core) (w : World) : Type 0 where
  pub number : s.clock.number ≡ k
  pub within : k < length b.core
  pub limit : b.turns ≡ s.clock.limit
  pub row : (row : CoreRow) → slice_get b.core k ≡ Some row → HasRow s.clock row c
  pub local : c.local ≡ s.clock.local
  pub stop : s.stop ≡ stop_of c
  pub regs : c.front.regs ≡ s.regs
  pub data_slots : c.data_slots ≡ s.dcache
  pub code_slots : c.code_slots ≡ s.icache
  pub holds : Holds b map s w.book c.front.past

-- what cores share, as the discipline keeps it: the book is one of its board, and a mailbox holds a region exactly where
-- the message that waits in it is about that region
pub record IsShared (b : Board) (map : AddressMap) (w : World) : Type 0 where
  pub shape : HasBoardShape b w.book
  pub posted : IsPosted map w.book

-- a value has made its part of a turn, and the turn was counted
pub record IsMade (b : Board) (map : AddressMap) (old new : State) (made : Option Act) (transfer : Bool) (book : Book) (t : Turned) : Type 0 where
  pub middle : State
  pub clock : middle.clock ≡ old.clock
  pub turned : IsTurned b map middle made book t
  pub counted : new ≡ counted middle transfer new.clock.quiet

-- a value stands for the definition's next core, with its act
pub record IsNext (b : Board) (map : AddressMap) (k : ℕ) (new : State) (made : Option Act) (t : CoreTurn) : Type 0 where
  pub stands : StandsFor b map k new t.core t.world
  pub act : made ≡ t.act

-- what the next turn is, by the stop and the wanted transfer
abbrev pub planned : Option Stop → Option Request → Plan
planned (Some stop) wanted = plans.Over
planned None None = plans.Local
planned None (Some request) = plans.Transfer request

-- by the stop and the wanted transfer: over, and nothing changed; the wanted transfer, and nothing changed; or a turn was made
abbrev pub IsStepBy : Board → AddressMap → ℕ → State → State → Step → CoreTurn → Option Stop → Option Request → Type 0
IsStepBy b map k old new step t (Some stop) wanted = (step ≡ steps.Over) × (new ≡ old)
IsStepBy b map k old new step t None (Some request) = (step ≡ steps.Wants request) × (new ≡ old)
IsStepBy b map k old new step t None None = (made : Option Act) × (step ≡ steps.Made made) × IsNext b map k new made t

abbrev pub IsStep : Board → AddressMap → ℕ → CoreRow → State → State → Step → Core → World → Type 0
IsStep b map k row old new step c w = IsStepBy b map k old new step (core_turn b map k row c w) (stop_of c) (wants b map k row w.book c)
