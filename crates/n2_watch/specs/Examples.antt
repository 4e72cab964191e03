-- A small board, and what core 0 or core 1 did on it, for one example of each refusal.
use Rattle.std.specs.Prelude.{ℕ, List, [], ◌∷◌, true, false, None, codes}
use Rattle.n2_mutex.specs.Mutex as mutex
use Rattle.n2_parts.specs.declared.board.Board.{Board}
use Rattle.n2_parts.specs.declared.board.MemoryRow.{MemoryRow}
use Rattle.n2_parts.specs.declared.board.CoreRow.{CoreRow}
use Rattle.n2_parts.specs.declared.board.MutexRow.{MutexRow}
use Rattle.n2_parts.specs.declared.board.MailboxRow.{MailboxRow}
use Rattle.n2_parts.specs.declared.board.UartRow.{UartRow}
use Rattle.n2_parts.specs.declared.board.RegionRow.{RegionRow}
use Rattle.n2_parts.specs.declared.board.RegionClass.TheVariants.{Code, Private, Passed}
use Rattle.n2_parts.specs.declared.board.RegionClass.TheVariants as classes
use Rattle.n2_insn.specs.declared.DataOp.TheVariants.{Flushda}
use Rattle.n2_board.specs.declared.guards.Guard.TheVariants.{Mutex}
use Rattle.n2_board.specs.AddressMap.{AddressMap, address_map}
use Rattle.n2_watch.specs.declared.past.Past.{Past}
use Rattle.n2_watch.specs.declared.past.Past.TheVariants.{Touch, Clean, Got, Gave}
use Rattle.n2_watch.specs.Discipline.{Knowledge}
use Rattle.n2_watch.specs.Book.{Book, start_book, knowledge}

-- ---- the board: two cores with caches of 16 sets, and one of each kind of line

abbrev pub core_with : ℕ → CoreRow
core_with cpuid = record { cpuid = cpuid; image = []; at = 0; reset = None; exception = 32; dcache = 512; icache = 4096; sample = 64; evict = 0 }

abbrev pub memory : MemoryRow
memory = record { base = 0; size = 0x10000 }

abbrev pub lock : MutexRow
lock = record { name = codes "m0"; base = 0x20000 }

abbrev pub box : MailboxRow
box = record { name = codes "b0"; send = 0x20040; receive = 0x20060; sender = 0; receiver = 1; send_irq = None; receive_irq = None }

abbrev pub terminal : UartRow
terminal = record { name = codes "u0"; base = 0x10000; core = 0; irq = None; read_depth = 64; write_depth = 64; input = [] }

-- code from 0 on, a guarded line at 0x8000, a line that is passed on at 0x9000, and a line of core 0's own at 0xc000
abbrev pub regions : List RegionRow
regions =
    record { name = codes "code"; base = 0; size = 0x1000; class = Code }
    ∷ record { name = codes "shared"; base = 0x8000; size = 0x100; class = classes.Mutex 0 }
    ∷ record { name = codes "packet"; base = 0x9000; size = 0x100; class = Passed 0 (0 ∷ []) }
    ∷ record { name = codes "own"; base = 0xc000; size = 0x100; class = Private 0 }
    ∷ []

abbrev pub board : Board
board = record {
  turns = 100000;
  journal = 100000;
  memory = memory ∷ [];
  core = core_with 0 ∷ core_with 1 ∷ [];
  mutex = lock ∷ [];
  mailbox = box ∷ [];
  timer = [];
  uart = terminal ∷ [];
  region = regions;
  dump = [];
  script = [];
}

abbrev pub map : AddressMap
map = address_map board []

-- ---- what a core knows: at the start, and while core 0 has the lock

abbrev pub at_start : ℕ → List Past → Knowledge
at_start core past = knowledge board (start_book board) core past

abbrev pub held : mutex.State
held = record { owner = 0; value = 1; reset = true }

abbrev pub locked : Book
locked =
    let book = start_book board in
    record { devices = record book.devices { mutexes = held ∷ [] }; sent = book.sent; holders = book.holders }

abbrev pub with_lock : List Past → Knowledge
with_lock past = knowledge board locked 0 past

-- ---- what core 0 did, the newest first

-- it took the lock, loaded the line, gave the lock back and took it again
abbrev pub loaded_before : List Past
loaded_before = Got (Mutex 0) ∷ Gave (Mutex 0) ∷ Touch 0x400 false ∷ Got (Mutex 0) ∷ []

-- it took the lock and stored to the line
abbrev pub stored_since : List Past
stored_since = Touch 0x400 true ∷ Touch 0x400 false ∷ Got (Mutex 0) ∷ []

-- the same, and then it flushed the line
abbrev pub flushed_since : List Past
flushed_since = Clean Flushda 0x8000 ∷ stored_since

-- it stored to a line of its own, which has the same set as the guarded line
abbrev pub stored_own : List Past
stored_own = Touch 0x600 true ∷ []
