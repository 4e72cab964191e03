-- What threads hand out.
use Rattle.std.specs.Prelude.{List}
use Rattle.n2_elf.specs.declared.image.Image.{Image}
use Rattle.n2_parts.specs.declared.board.Board.{Board}
use Rattle.n2_board.specs.AddressMap.{address_map}
use Rattle.n2_runs.specs.Machine.{start, run}
use Rattle.n2_runs.specs.Recorded.{Records, actors_of}
use Rattle.n2_smp.specs.declared.machine.Ran.{Ran}
use Rattle.n2_smp.specs.Standing.{RanStandsFor}

-- its journal is that of a finished run, by its own order alone, and its cores and its bus are those of that run
pub record IsRecorded (b : Board) (images : List Image) (ran : Ran) : Type 0 where
  pub records : Records b (address_map b images) (start b images) ran.journal.content
  pub stands : RanStandsFor b (address_map b images) ran (run b (address_map b images) (start b images) (actors_of ran.journal.content))
