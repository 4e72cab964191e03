-- The board of every workload: one memory, four cores, and four regions of eight lines, each guarded by
-- a mutex of its own.
use Rattle.std.specs.Prelude.{ℕ, ◌+◌, ◌*◌, List, [], ◌∷◌, None, codes}
use Rattle.n2_parts.specs.declared.board.Board.{Board}
use Rattle.n2_parts.specs.declared.board.MemoryRow.{MemoryRow}
use Rattle.n2_parts.specs.declared.board.CoreRow.{CoreRow}
use Rattle.n2_parts.specs.declared.board.MutexRow.{MutexRow}
use Rattle.n2_parts.specs.declared.board.RegionRow.{RegionRow}
use Rattle.n2_parts.specs.declared.board.RegionClass.TheVariants as classes
use Rattle.n2_parts.specs.declared.board.DumpRow.{DumpRow}

-- where the program of a core lies: 32 KiB for each
abbrev pub program_at : ℕ → ℕ
program_at k = 0x8000 * (k + 1)

-- where a mutex lies
abbrev pub mutex_at : ℕ → ℕ
mutex_at i = 0x80000 + 8 * i

-- where the eight lines lie that a mutex guards
abbrev pub region_at : ℕ → ℕ
region_at i = 0x30000 + 0x100 * i

-- a core, with the caches and samples that a board has where it says nothing else
abbrev pub core_row : ℕ → CoreRow
core_row k = record { cpuid = k; image = []; at = 0; reset = None; exception = 0x8020 + 0x8000 * k; dcache = 2048; icache = 4096; sample = 64; evict = 97 }

abbrev pub mutex_row : List ℕ → ℕ → MutexRow
mutex_row name i = record { name = name; base = mutex_at i }

abbrev pub region_row : List ℕ → ℕ → RegionRow
region_row name i = record { name = name; base = region_at i; size = 0x100; class = classes.Mutex i }

abbrev pub memory_row : MemoryRow
memory_row = record { base = 0; size = 0x40000 }

abbrev pub core_rows : List CoreRow
core_rows = core_row 0 ∷ core_row 1 ∷ core_row 2 ∷ core_row 3 ∷ []

abbrev pub mutex_rows : List MutexRow
mutex_rows = mutex_row (codes "m0") 0 ∷ mutex_row (codes "m1") 1 ∷ mutex_row (codes "m2") 2 ∷ mutex_row (codes "m3") 3 ∷ []

abbrev pub region_rows : List RegionRow
region_rows = region_row (codes "s0") 0 ∷ region_row (codes "s1") 1 ∷ region_row (codes "s2") 2 ∷ region_row (codes "s3") 3 ∷ []

-- a report has all lines of the four regions
abbrev pub dump_row : DumpRow
dump_row = record { at = 0x30000; lines = 32 }

unfoldable pub work_board : Board
work_board = record {
  turns = 4000000;
  journal = 1000000;
  memory = memory_row ∷ [];
  core = core_rows;
  mutex = mutex_rows;
  mailbox = [];
  timer = [];
  uart = [];
  region = region_rows;
  dump = dump_row ∷ [];
  script = [];
}
