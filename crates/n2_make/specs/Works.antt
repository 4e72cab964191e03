-- Workloads.
use Rattle.std.specs.Prelude.{ℕ, [], ◌∷◌, Result, Ok}
use Rattle.n2_elf.specs.declared.image.Image.{Image}
use Rattle.n2_asm.specs.declared.faults.AsmFault.{AsmFault}
use Rattle.n2_asm.specs.Sources.{◌>>=◌, assembled}
use Rattle.n2_make.specs.declared.work.Work.{Work}
use Rattle.n2_make.specs.Boards.{work_board}
use Rattle.n2_make.specs.Programs.{program}

-- the image of core k's program, or its first faulty row
unfoldable pub image_of : ℕ → ℕ → Result Image AsmFault
image_of n k = assembled (program n k) >>= λ object. Ok object.image

-- the workload of n critical sections a core, or the first fault of the first program that has one
unfoldable pub work_of : ℕ → Result Work AsmFault
work_of n =
    image_of n 0 >>= λ first. image_of n 1 >>= λ second. image_of n 2 >>= λ third. image_of n 3
    >>= λ fourth. Ok (record { board = work_board; images = first ∷ second ∷ third ∷ fourth ∷ []; seed = n })
