-- `plain FILE STEPS`: what is asked, and what its run answers.
use Rattle.std.specs.Prelude.{ℕ, List, [], ◌∷◌, replicate, Option, Result}
use Rattle.n2_board.specs.Placement.{open_fault}
use Rattle.n2_elf.specs.declared.image.Image.{Image}
use Rattle.n2_parts.specs.declared.stops.Act.TheVariants.{Retire}
use Rattle.n2_runs.specs.FlatRun.{Flat, flat_start, flat}
use Rattle.n2_flat.specs.PlainBoard.{plain_board, plain_map}
use Rattle.n2_top.specs.declared.answers.Answer.{Answer}
use Rattle.n2_inputs.specs.declared.refusal.Role.TheVariants as roles
use Rattle.n2_inputs.specs.declared.refusal.Refusal.{Refusal}
use Rattle.n2_inputs.specs.Files.{◌>>=◌, file_of}
use Rattle.n2_inputs.specs.Boards.{image_of, image_in, fitting}
use Rattle.n2_top.specs.Asked.{Asked, PlainRun}
use Rattle.n2_top.specs.Flat.{flat_answer}

-- an image file that fits the plain board, as that of core 0
unfoldable pub asked_plain : Option (List ℕ) → ℕ → Result Asked Refusal
asked_plain file steps = do
  bytes ← file_of file (roles.Image 0)
  image ← image_in 0 (image_of bytes 0)
  fitting (open_fault plain_board (image ∷ [])) (PlainRun image steps)

-- the flat machine of the plain board with an image
unfoldable pub plain_start : Image → Flat
plain_start image = flat_start plain_board (image ∷ [])

-- after so many acts of its one core
abbrev pub plain_run : Image → ℕ → Flat
plain_run image steps = flat plain_board (plain_map image) (plain_start image) (replicate steps (Retire 0))

-- the answer of a run on the plain board
abbrev pub plain_answer : Flat → Answer
plain_answer m = flat_answer plain_board m
