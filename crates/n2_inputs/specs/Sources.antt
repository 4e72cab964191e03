-- The image of a source's file, and that of a file that is listed.
use Rattle.std.specs.Prelude.{ℕ, List, [], ◌∷◌, ◌++◌, Bool, Result, Ok, Err, if◌then◌else◌}
use Rattle.n2_outside.specs.Files.{Files, file_at}
use Rattle.n2_elf.specs.declared.image.Image.{Image}
use Rattle.n2_hal.specs.Routines.{routines_text}
use Rattle.n2_asm.specs.declared.faults.AsmFault.{AsmFault}
use Rattle.n2_asm.specs.declared.faults.AsmFault.TheVariants as faults
use Rattle.n2_asm.specs.Sources.{Assembled, assembled}
use Rattle.n2_inputs.specs.declared.refusal.Role.TheVariants as roles
use Rattle.n2_inputs.specs.declared.refusal.Refusal.{Refusal}
use Rattle.n2_inputs.specs.declared.refusal.Refusal.TheVariants as refusals
use Rattle.n2_inputs.specs.Files.{◌>>=◌, file_of}
use Rattle.n2_inputs.specs.Boards.{image_of, image_in}

-- a source with the routines of the HAL behind it, where they are asked for
abbrev pub source_with : Bool → List ℕ → List ℕ
source_with hal source = if hal then source ++ (10 ∷ []) ++ routines_text else source

-- the image of a source without a faulty row; to assemble never wants memory
abbrev pub assembled_image : Result Assembled AsmFault → Result Image Refusal
assembled_image (Ok a) = Ok a.image
assembled_image (Err (faults.Row row kind)) = Err (refusals.SourceRow row kind)
assembled_image (Err faults.NoMemory) = Err (refusals.Absent roles.Source)

-- the image of the source in the file of a name
unfoldable pub asked_source : Files → List ℕ → Bool → Result Image Refusal
asked_source files name hal = do
  bytes ← file_of (file_at files name) roles.Source
  assembled_image (assembled (source_with hal bytes))

-- the image in the file of a name, which is that of core 0 and at address 0 where it is no ELF file
unfoldable pub asked_listing : Files → List ℕ → Result Image Refusal
asked_listing files name = do
  bytes ← file_of (file_at files name) (roles.Image 0)
  image_in 0 (image_of bytes 0)
