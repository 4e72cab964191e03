-- A small board whose core sends "hi" to a UART, the journal of its run, and journals that are none.
use Rattle.std.specs.Prelude.{ℕ, List, [], ◌∷◌, ◌++◌, replicate, true, Option, Some, None, Result, Ok, Err, codes}
use Rattle.std.specs.List.{flat_map}
use Rattle.n2_word.specs.declared.Width.TheVariants.{Word}
use Rattle.n2_word.specs.Words.{bytes_of}
use Rattle.n2_elf.specs.declared.image.Image.{Image}
use Rattle.n2_elf.specs.Reading.{raw_image}
use Rattle.n2_parts.specs.declared.board.Board.{Board}
use Rattle.n2_parts.specs.declared.board.MemoryRow.{MemoryRow}
use Rattle.n2_parts.specs.declared.board.CoreRow.{CoreRow}
use Rattle.n2_parts.specs.declared.board.UartRow.{UartRow}
use Rattle.n2_board.specs.AddressMap.{AddressMap, address_map}
use Rattle.n2_bus.specs.declared.request.Request.TheVariants.{FillCode, Write}
use Rattle.n2_bus.specs.declared.request.Reply.{Reply}
use Rattle.n2_journal.specs.declared.entry.Entry.{Entry}
use Rattle.n2_journal.specs.Journals.{Content, words_reply, no_words}
use Rattle.n2_runs.specs.Machine.{Machine, start, run}
use Rattle.n2_runs.specs.Replay.{Differs, replayed}

-- ---- the board: one core, two lines of memory, and a UART

abbrev pub core : CoreRow
core = record { cpuid = 0; image = []; at = 0; reset = None; exception = 32; dcache = 512; icache = 512; sample = 64; evict = 0 }

abbrev pub memory : MemoryRow
memory = record { base = 0; size = 64 }

abbrev pub terminal : UartRow
terminal = record { name = codes "u0"; base = 0x10000; core = 0; irq = None; read_depth = 64; write_depth = 64; input = [] }

abbrev pub board : Board
board = record {
  turns = 1000;
  journal = 100;
  memory = memory ∷ [];
  core = core ∷ [];
  mutex = [];
  mailbox = [];
  timer = [];
  uart = terminal ∷ [];
  region = [];
  dump = [];
  script = [];
}

-- orhi r8, r0, 1; addi r2, r0, 104; stwio r2, 0(r8); addi r2, r0, 105; stwio r2, 0(r8); break 0
abbrev pub program : List ℕ
program = 0x02000074 ∷ 0x00801a04 ∷ 0x40800035 ∷ 0x00801a44 ∷ 0x40800035 ∷ 0x003da03a ∷ []

abbrev pub images : List Image
images = raw_image (flat_map bytes_of program) 0 ∷ []

abbrev pub map : AddressMap
map = address_map board images

-- ---- its run

abbrev pub turns : ℕ → Machine
turns n = run board map (start board images) (replicate n 0)

-- ---- its journal: the code line, and the two bytes that the UART takes

abbrev pub fill : List ℕ → Entry
fill words = record { local = 0; actor = 0; request = FillCode 0; reply = words_reply words }

abbrev pub took : Reply
took = record { words = no_words; lines = 0; took = true; pointer = 0 }

abbrev pub sends : ℕ → ℕ → Entry
sends local value = record { local = local; actor = 0; request = Write 0x10000 Word value; reply = took }

abbrev pub line : List ℕ
line = program ++ 0 ∷ 0 ∷ []

abbrev pub entries : List Entry
entries = fill line ∷ sends 2 0x68 ∷ sends 1 0x69 ∷ []

abbrev pub with_tails : List Entry → List ℕ → Content
with_tails entries tails = record { entries = entries; tails = tails }

-- the row that a replay names
abbrev pub row_of : Result Machine Differs → Option ℕ
row_of (Ok m) = None
row_of (Err why) = Some why.row

abbrev pub named : List Entry → List ℕ → Option ℕ
named entries tails = row_of (replayed board map (start board images) (with_tails entries tails))
