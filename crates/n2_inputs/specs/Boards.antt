-- A board's file, and the files of its cores' images.
use Rattle.std.specs.Prelude.{ℕ, ◌+◌, List, [], ◌∷◌, Option, Some, None, Result, Ok, Err, if◌then◌else◌}
use Rattle.n2_outside.specs.Files.{Files, file_at}
use Rattle.n2_elf.specs.declared.image.Image.{Image}
use Rattle.n2_elf.specs.declared.image.ElfFault.{ElfFault}
use Rattle.n2_elf.specs.Reading.{has_magic, elf, raw_image}
use Rattle.n2_parts.specs.declared.board.Board.{Board}
use Rattle.n2_parts.specs.declared.board.CoreRow.{CoreRow}
use Rattle.n2_board.specs.declared.placement.OpenFault.{OpenFault}
use Rattle.n2_boardtext.specs.declared.fault.TextFault.{TextFault}
use Rattle.n2_boardtext.specs.Reading.{text_board}
use Rattle.n2_inputs.specs.declared.refusal.Role.TheVariants as roles
use Rattle.n2_inputs.specs.declared.refusal.Refusal.{Refusal}
use Rattle.n2_inputs.specs.declared.refusal.Refusal.TheVariants as refusals
use Rattle.n2_inputs.specs.Files.{◌>>=◌, file_of}

-- the board of a text, where the text has no fault
abbrev pub board_in : Result Board TextFault → Result Board Refusal
board_in (Ok board) = Ok board
board_in (Err fault) = Err (refusals.BoardText fault)

-- the board in the file of a name
unfoldable pub asked_board : Files → List ℕ → Result Board Refusal
asked_board files name = do
  bytes ← file_of (file_at files name) roles.Board
  board_in (text_board bytes)

-- the image of a file: one that begins as ELF files do is read as such, any other is raw bytes at an
-- address
abbrev pub image_of : List ℕ → ℕ → Result Image ElfFault
image_of bytes at = if has_magic bytes then elf bytes else Ok (raw_image bytes at)

-- the image of a core, where its file has no fault
abbrev pub image_in : ℕ → Result Image ElfFault → Result Image Refusal
image_in core (Ok image) = Ok image
image_in core (Err fault) = Err (refusals.Image core fault)

-- the image in the file that core k names
unfoldable pub asked_image : Files → ℕ → CoreRow → Result Image Refusal
asked_image files k core = do
  bytes ← file_of (file_at files core.image) (roles.Image k)
  image_in k (image_of bytes core.at)

-- the images of cores, of which the first has number k, one core after another
abbrev pub asked_images : Files → ℕ → List CoreRow → Result (List Image) Refusal
asked_images files k [] = Ok []
asked_images files k (core ∷ cores) =
    asked_image files k core >>= λ image. asked_images files (k + 1) cores >>= λ images. Ok (image ∷ images)

-- the board in the file of a name, and then the images of its cores
unfoldable pub asked_machine : Files → List ℕ → Result (Board × List Image) Refusal
asked_machine files name = do
  board ← asked_board files name
  images ← asked_images files 0 board.core
  Ok (board, images)

-- a value, where the images fit the board
abbrev pub fitting : {A : Type 0} → Option OpenFault → A → Result A Refusal
fitting None a = Ok a
fitting (Some fault) a = Err (refusals.Misfit fault)
