-- The flat part of a report, which says nothing of caches and turns, and the flat report.
use Rattle.std.specs.Prelude.{ℕ, ◌+◌, ◌/◌, ◌%◌, List, [], ◌∷◌, ◌++◌, length, take, drop, Bool, if◌then◌else◌, ◌==◌, codes, decimal}
use Rattle.std.specs.List.{flat_map, list_any}
use Rattle.n2_text.specs.Fields.{digit_of, word_text}
use Rattle.n2_exec.specs.declared.registers.Regs.{Regs}
use Rattle.n2_report.specs.declared.ends.CoreEnd.{CoreEnd}
use Rattle.n2_report.specs.declared.ends.UartEnd.{UartEnd}
use Rattle.n2_report.specs.declared.ends.MemoryLine.{MemoryLine}
use Rattle.n2_report.specs.Stops.{stop_text, is_refused}

-- a UART: its name, and the bytes that writes to its data register put into its queue
pub record Uart : Type 0 where
  pub name : List ℕ
  pub sent : List ℕ

-- what a UART's end stands for
abbrev pub uart_of : UartEnd → Uart
uart_of end = record { name = end.name.now; sent = end.sent.now }

-- words with a space before each
abbrev pub words_text : List ℕ → List ℕ
words_text words = flat_map (λ word. 32 ∷ word_text word) words

-- eight registers from number n on
abbrev pub registers_row : ℕ → List ℕ → List ℕ
registers_row n values = codes "r" ++ decimal n ++ words_text (take 8 (drop n values)) ++ codes "\n"

abbrev pub registers_text : List ℕ → List ℕ
registers_text values = registers_row 0 values ++ registers_row 8 values ++ registers_row 16 values ++ registers_row 24 values

-- the registers as they read: r0 reads 0
abbrev pub read_registers : List ℕ → List ℕ
read_registers gpr = 0 ∷ drop 1 gpr

-- status, estatus, bstatus, ienable and the latched interrupt lines
abbrev pub controls : Regs → List ℕ
controls regs = regs.status ∷ regs.estatus ∷ regs.bstatus ∷ regs.ienable ∷ regs.latch ∷ []

-- core k: how it stands, and its registers
unfoldable pub core_text : ℕ → CoreEnd → List ℕ
core_text k core =
    codes "core " ++ decimal k ++ codes " " ++ stop_text core.regs.pc core.stop ++ codes "\n"
    ++ registers_text (read_registers core.regs.gpr) ++ codes "ctl" ++ words_text (controls core.regs) ++ codes "\n"

-- cores, of which the first has number k
abbrev pub cores_text : ℕ → List CoreEnd → List ℕ
cores_text k [] = []
cores_text k (core ∷ cores) = core_text k core ++ cores_text (k + 1) cores

-- a byte as two digits
abbrev pub byte_text : ℕ → List ℕ
byte_text byte = digit_of (byte / 16) ∷ digit_of (byte % 16) ∷ []

-- bytes after a space; nothing where there are none
abbrev pub bytes_text : List ℕ → List ℕ
bytes_text bytes = if length bytes == 0 then [] else codes " " ++ flat_map byte_text bytes

-- a UART: its name, and how many bytes were put into its queue and which
unfoldable pub uart_text : Uart → List ℕ
uart_text uart = codes "uart " ++ uart.name ++ codes " " ++ decimal (length uart.sent) ++ bytes_text uart.sent ++ codes "\n"

-- refused where an access of a core was refused or strayed
abbrev pub verdict_text : Bool → List ℕ
verdict_text refused = if refused then codes "verdict refused\n" else codes "verdict certified\n"

-- the flat part of a report
unfoldable pub flat_part : List CoreEnd → List Uart → List ℕ
flat_part cores uarts =
    cores_text 0 cores ++ flat_map uart_text uarts ++ verdict_text (list_any (λ core. is_refused core.stop) cores)

-- a line of memory: its first address and its words
abbrev pub memory_row : MemoryLine → List ℕ
memory_row line = codes "memory " ++ word_text line.at ++ words_text line.words ++ codes "\n"

-- the flat report: the flat part, and lines of the flat memory
unfoldable pub flat_text : List CoreEnd → List Uart → List MemoryLine → List ℕ
flat_text cores uarts lines = codes "nios2 flat 1\n" ++ flat_part cores uarts ++ flat_map memory_row lines
