-- The flat report of a board's flat machine: its cores, its UARTs in the board's order, and the lines that the board dumps.
use Rattle.std.specs.Prelude.{◌≡◌, ℕ, length, zero, suc, ◌+◌, ◌*◌, List, [], ◌∷◌, ◌++◌, map, get_or}
use Rattle.n2_word.specs.Lines.{line}
use Rattle.n2_parts.specs.declared.board.Board.{Board}
use Rattle.n2_parts.specs.declared.board.UartRow.{UartRow}
use Rattle.n2_parts.specs.declared.board.DumpRow.{DumpRow}
use Rattle.n2_parts.specs.Valid.{IsValid}
use Rattle.n2_memory.specs.Memories.{Contents, line_at}
use Rattle.n2_front.specs.Front.{Front}
use Rattle.n2_runs.specs.FlatRun.{Flat}
use Rattle.n2_flat.specs.State.{State}
use Rattle.n2_report.specs.declared.ends.CoreEnd.{CoreEnd}
use Rattle.n2_report.specs.declared.ends.MemoryLine.{MemoryLine}
use Rattle.n2_report.specs.Flat.{Uart, flat_part, flat_text}

-- a flat machine of a valid board: it has the board's cores and memories
pub record IsOf (b : Board) (s : State) : Type 0 where
  pub valid : IsValid b
  pub cores : length s.cores ≡ length b.core
  pub memories : s.common.wiring.memories ≡ b.memory

abbrev pub end_of : Front → CoreEnd
end_of f = record { regs = f.regs; stop = f.stop }

-- UARTs, of which the first has number i, with what was sent to each
abbrev pub uarts_from : ℕ → List UartRow → List (List ℕ) → List Uart
uarts_from i [] sent = []
uarts_from i (row ∷ rows) sent = record { name = row.name; sent = get_or sent i [] } ∷ uarts_from (i + 1) rows sent

-- the line at an address
abbrev pub dumped_line : Contents → ℕ → MemoryLine
dumped_line memory address = record { at = address; words = line_at memory (line address) }

-- so many lines from an address on, without the first j
abbrev pub dumped_lines : Contents → ℕ → ℕ → ℕ → List MemoryLine
dumped_lines memory at j zero = []
dumped_lines memory at j (suc n) = dumped_line memory (at + 32 * j) ∷ dumped_lines memory at (j + 1) n

abbrev pub dumped : Contents → List DumpRow → List MemoryLine
dumped memory [] = []
dumped memory (row ∷ rows) = dumped_lines memory row.at 0 row.lines ++ dumped memory rows

-- the flat part of a flat machine's report
abbrev pub flat_flat_part : Board → Flat → List ℕ
flat_flat_part b m = flat_part (map end_of m.cores) (uarts_from 0 b.uart m.world.book.sent)

unfoldable pub flat_report : Board → Flat → List ℕ
flat_report b m = flat_text (map end_of m.cores) (uarts_from 0 b.uart m.world.book.sent) (dumped m.world.memory b.dump)
