-- What an instruction leaves to do after it was decoded, by the way that it goes: through the caches, past them, or neither.
use Rattle.std.specs.Prelude.{ℕ, Bool, true, false, if◌then◌else◌, Option, Some, None}
use Rattle.n2_word.specs.declared.Width.{Width}
use Rattle.n2_word.specs.declared.Width.TheVariants.{Word}
use Rattle.n2_word.specs.Lines.{bypasses, without_bypass}
use Rattle.n2_insn.specs.declared.DataOp.{DataOp}
use Rattle.n2_exec.specs.declared.Asked.{Asked}
use Rattle.n2_exec.specs.declared.Asked.TheVariants as asked
use Rattle.n2_parts.specs.declared.board.Board.{Board}
use Rattle.n2_parts.specs.declared.stops.Stop.{Stop}
use Rattle.n2_parts.specs.declared.stops.Stop.TheVariants.{Refused, Stray}
use Rattle.n2_board.specs.AddressMap.{AddressMap}
use Rattle.n2_bus.specs.declared.request.Request.{Request}
use Rattle.n2_bus.specs.declared.request.Request.TheVariants.{Read, Write}
use Rattle.n2_watch.specs.declared.access.Access.{Access}
use Rattle.n2_watch.specs.declared.access.Access.TheVariants.{Cached, Bypass, Op}
use Rattle.n2_watch.specs.Discipline.{Knowledge, Breach, Strays, Breaks, breach}

pub data Task : Type 0 where
  -- nothing: the registers are those after the instruction
  Done : Task
  -- an exception
  Raise : Task
  -- the core stops
  Break : Task
  -- an operation on the instruction cache
  CodeOp : (address : ℕ) → Task
  -- an operation on the data cache
  LineOp : (op : DataOp) (address : ℕ) → Task
  -- loads and stores through the data cache
  Load : (address : ℕ) (width : Width) (signed : Bool) (to : ℕ) → Task
  Store : (address : ℕ) (width : Width) (value : ℕ) → Task
  -- loads and stores past it
  LoadPast : (address : ℕ) (width : Width) (signed : Bool) (to : ℕ) → Task
  StorePast : (address : ℕ) (width : Width) (value : ℕ) → Task

-- an io form and an address with bit 31 go past the cache
abbrev pub task_of : Asked → Task
task_of asked.Done = Done
task_of (asked.Load address width signed io to) = if bypasses address io then LoadPast address width signed to else Load address width signed to
task_of (asked.Store address width value io) = if bypasses address io then StorePast address width value else Store address width value
task_of (asked.LineOp op address) = LineOp op address
task_of (asked.CodeOp address) = CodeOp address
task_of (asked.Raise cause) = Raise
task_of asked.Broke = Break

-- what the discipline says of a task
abbrev pub task_breach : Board → AddressMap → Knowledge → Task → Option Breach
task_breach b map who (LineOp op address) = breach b map who (Op op address) Word
task_breach b map who (Load address width signed to) = breach b map who (Cached address false) width
task_breach b map who (Store address width value) = breach b map who (Cached address true) width
task_breach b map who (LoadPast address width signed to) = breach b map who (Bypass address false 0) width
task_breach b map who (StorePast address width value) = breach b map who (Bypass address true value) width
task_breach b map who _ = None

-- the address that the instruction gives
abbrev pub task_address : Task → ℕ
task_address (LineOp op address) = address
task_address (Load address width signed to) = address
task_address (Store address width value) = address
task_address (LoadPast address width signed to) = address
task_address (StorePast address width value) = address
task_address _ = 0

-- what a task asks of the bus, whatever the caches hold
abbrev pub task_request : Task → Option Request
task_request (LoadPast address width signed to) = Some (Read (without_bypass address) width)
task_request (StorePast address width value) = Some (Write (without_bypass address) width value)
task_request _ = None

-- the stop for an access that breaks the discipline, by the program counter, the instruction's word and the address
abbrev pub stop_for : Breach → ℕ → ℕ → ℕ → Stop
stop_for Strays pc word address = Stray address
stop_for (Breaks kind number) pc word address = Refused (record { kind = kind; pc = pc; insn = word; address = address; line = number })
