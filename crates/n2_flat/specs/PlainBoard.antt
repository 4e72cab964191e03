-- The plain board: 64 KiB of memory, half of it code and half of it the core's own, one core and one UART.
use Rattle.std.specs.Prelude.{[], ◌∷◌, None, codes}
use Rattle.n2_elf.specs.declared.image.Image.{Image}
use Rattle.n2_parts.specs.declared.board.Board.{Board}
use Rattle.n2_parts.specs.declared.board.MemoryRow.{MemoryRow}
use Rattle.n2_parts.specs.declared.board.CoreRow.{CoreRow}
use Rattle.n2_parts.specs.declared.board.UartRow.{UartRow}
use Rattle.n2_parts.specs.declared.board.RegionRow.{RegionRow}
use Rattle.n2_parts.specs.declared.board.RegionClass.TheVariants as classes
use Rattle.n2_board.specs.AddressMap.{AddressMap, address_map}

abbrev pub plain_memory : MemoryRow
plain_memory = record { base = 0; size = 65536 }

abbrev pub plain_core : CoreRow
plain_core = record { cpuid = 0; image = []; at = 0; reset = None; exception = 32; dcache = 2048; icache = 4096; sample = 64; evict = 0 }

abbrev pub plain_uart : UartRow
plain_uart = record { name = codes "u0"; base = 65536; core = 0; irq = None; read_depth = 64; write_depth = 64; input = [] }

abbrev pub plain_code : RegionRow
plain_code = record { name = codes "code"; base = 0; size = 32768; class = classes.Code }

abbrev pub plain_own : RegionRow
plain_own = record { name = codes "own"; base = 32768; size = 32768; class = classes.Private 0 }

unfoldable pub plain_board : Board
plain_board = record {
  turns = 1000000;
  journal = 100000;
  memory = plain_memory ∷ [];
  core = plain_core ∷ [];
  mutex = [];
  mailbox = [];
  timer = [];
  uart = plain_uart ∷ [];
  region = plain_code ∷ plain_own ∷ [];
  dump = [];
  script = [];
}

-- the layout of the plain board with an image
abbrev pub plain_map : Image → AddressMap
plain_map image = address_map plain_board (image ∷ [])
