-- The ranges of a board's numbers, key by key.
use Rattle.std.specs.Prelude.{ℕ, ◌+◌, ◌*◌, ◌%◌, ◌^◌, List, [], ◌∷◌, length, Bool, true, false, not, ◌&&◌, ◌==◌, nat_lt, nat_le, Option, Some, None}
use Rattle.n2_word.specs.Lines.{is_cache_size}
use Rattle.n2_parts.specs.declared.board.Board.{Board}
use Rattle.n2_parts.specs.declared.board.MemoryRow.{MemoryRow}
use Rattle.n2_parts.specs.declared.board.CoreRow.{CoreRow}
use Rattle.n2_parts.specs.declared.board.MutexRow.{MutexRow}
use Rattle.n2_parts.specs.declared.board.MailboxRow.{MailboxRow}
use Rattle.n2_parts.specs.declared.board.TimerRow.{TimerRow}
use Rattle.n2_parts.specs.declared.board.UartRow.{UartRow}
use Rattle.n2_parts.specs.declared.board.RegionRow.{RegionRow}
use Rattle.n2_parts.specs.declared.board.DumpRow.{DumpRow}
use Rattle.n2_parts.specs.declared.board.ScriptRow.{ScriptRow}
use Rattle.n2_parts.specs.declared.board.DeviceEvent.{DeviceEvent}
use Rattle.n2_parts.specs.declared.board.DeviceEvent.TheVariants.{Tick, Receive, Drain}
use Rattle.n2_parts.specs.declared.board.Part.{Part}
use Rattle.n2_parts.specs.declared.board.PartKind.{PartKind}
use Rattle.n2_parts.specs.declared.board.PartKind.TheVariants as kinds
use Rattle.n2_parts.specs.declared.board.Key.{Key}
use Rattle.n2_parts.specs.declared.board.Key.TheVariants as keys
use Rattle.n2_parts.specs.declared.board.BoardFault.{BoardFault}
use Rattle.n2_parts.specs.declared.board.BoardFault.TheVariants.{Number}
use Rattle.n2_parts.specs.Parts.{at_row, part_of}

-- the first key whose number is out of its range
abbrev pub numbers : Part → List (Key × Bool) → Option BoardFault
numbers part [] = None
numbers part ((key, true) ∷ others) = numbers part others
numbers part ((key, false) ∷ others) = Some (Number part key)

abbrev pub is_between : ℕ → ℕ → ℕ → Bool
is_between low high n = nat_le low n && nat_le n high

abbrev pub is_multiple : ℕ → ℕ → Bool
is_multiple of n = n % of == 0

-- a multiple below 2 ^ 31
abbrev pub is_place : ℕ → ℕ → Bool
is_place of n = is_multiple of n && nat_lt n (2 ^ 31)

-- the base of a device of some words, which end at most at 2 ^ 31
abbrev pub is_base : ℕ → ℕ → Bool
is_base words n = is_multiple 4 n && nat_le (n + 4 * words) (2 ^ 31)

-- the number of bytes of some lines
abbrev pub is_size : ℕ → Bool
is_size n = is_multiple 32 n && nat_lt 0 n

-- an interrupt line, if there is one
abbrev pub is_irq : Option ℕ → Bool
is_irq None = true
is_irq (Some n) = nat_lt n 32

unfoldable pub top_numbers : Board → Part → Option BoardFault
top_numbers b part = numbers part ((keys.Turns, is_between 1 1000000000 b.turns) ∷ (keys.Journal, is_between 1 1000000 b.journal) ∷ [])

unfoldable pub memory_numbers : Part → MemoryRow → Option BoardFault
memory_numbers part row = numbers part ((keys.Base, is_multiple 32 row.base) ∷ (keys.Size, is_size row.size && nat_le (row.base + row.size) (2 ^ 31)) ∷ [])

unfoldable pub core_numbers : Part → CoreRow → Option BoardFault
core_numbers part row = numbers part (
    (keys.At, is_place 32 row.at)
    ∷ (keys.Exception, is_place 4 row.exception)
    ∷ (keys.Dcache, is_cache_size row.dcache)
    ∷ (keys.Icache, is_cache_size row.icache)
    ∷ (keys.Sample, nat_le 2 row.sample)
    ∷ (keys.Evict, not (row.evict == 1))
    ∷ [])

unfoldable pub mutex_numbers : Part → MutexRow → Option BoardFault
mutex_numbers part row = numbers part ((keys.Base, is_base 2 row.base) ∷ [])

unfoldable pub mailbox_numbers : Part → MailboxRow → Option BoardFault
mailbox_numbers part row = numbers part (
    (keys.Send, is_base 4 row.send)
    ∷ (keys.Receive, is_base 4 row.receive)
    ∷ (keys.SendIrq, is_irq row.send_irq)
    ∷ (keys.ReceiveIrq, is_irq row.receive_irq)
    ∷ [])

unfoldable pub timer_numbers : Part → TimerRow → Option BoardFault
timer_numbers part row = numbers part ((keys.Base, is_base 6 row.base) ∷ (keys.Irq, is_irq row.irq) ∷ [])

unfoldable pub uart_numbers : Part → UartRow → Option BoardFault
uart_numbers part row = numbers part (
    (keys.Base, is_base 2 row.base)
    ∷ (keys.Irq, is_irq row.irq)
    ∷ (keys.ReadDepth, is_between 8 32768 row.read_depth)
    ∷ (keys.WriteDepth, is_between 8 32768 row.write_depth)
    ∷ (keys.Input, nat_le (length row.input) 65536)
    ∷ [])

unfoldable pub region_numbers : Part → RegionRow → Option BoardFault
region_numbers part row = numbers part ((keys.Base, is_multiple 32 row.base) ∷ (keys.Size, is_size row.size) ∷ [])

unfoldable pub dump_numbers : Part → DumpRow → Option BoardFault
dump_numbers part row = numbers part ((keys.At, is_multiple 32 row.at) ∷ (keys.Lines, is_between 1 4096 row.lines) ∷ [])

abbrev pub is_event : DeviceEvent → Bool
is_event (Tick n) = nat_lt 0 n
is_event (Receive uart) = true
is_event (Drain uart) = true

unfoldable pub script_numbers : Part → ScriptRow → Option BoardFault
script_numbers part row = numbers part ((keys.N, is_event row.event) ∷ (keys.Times, is_between 1 1000000 row.times) ∷ [])

-- the first number of a part that is out of its range
abbrev pub number_at : Board → PartKind → ℕ → Option BoardFault
number_at b kinds.Top i = top_numbers b (part_of kinds.Top i)
number_at b kinds.Memory i = at_row b.memory i (memory_numbers (part_of kinds.Memory i))
number_at b kinds.Core i = at_row b.core i (core_numbers (part_of kinds.Core i))
number_at b kinds.Mutex i = at_row b.mutex i (mutex_numbers (part_of kinds.Mutex i))
number_at b kinds.Mailbox i = at_row b.mailbox i (mailbox_numbers (part_of kinds.Mailbox i))
number_at b kinds.Timer i = at_row b.timer i (timer_numbers (part_of kinds.Timer i))
number_at b kinds.Uart i = at_row b.uart i (uart_numbers (part_of kinds.Uart i))
number_at b kinds.Region i = at_row b.region i (region_numbers (part_of kinds.Region i))
number_at b kinds.Dump i = at_row b.dump i (dump_numbers (part_of kinds.Dump i))
number_at b kinds.Script i = at_row b.script i (script_numbers (part_of kinds.Script i))

unfoldable pub number_fault : Board → Part → Option BoardFault
number_fault b part = number_at b part.kind part.index
