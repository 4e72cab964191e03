-- Where the reading of images stands before a core.
use Rattle.std.proofs.Common.{◌≡◌, ℕ, List, ◌++◌, length, drop, Option, Some, Result, Ok, Err}
use Rattle.std.specs.List.{AllByRecursion}
use Rattle.n2_outside.specs.Files.{Files}
use Rattle.n2_elf.specs.declared.image.Image.{Image}
use Rattle.n2_elf.specs.Reading.{IsSized}
use Rattle.n2_parts.specs.declared.board.CoreRow.{CoreRow}
use Rattle.n2_inputs.specs.declared.refusal.Refusal.{Refusal}
use Rattle.n2_inputs.specs.Boards.{asked_images}

-- images that are read, in front of those of the other cores
abbrev pub behind : List Image → Result (List Image) Refusal → Result (List Image) Refusal
behind done (Ok images) = Ok (done ++ images)
behind done (Err refusal) = Err refusal

-- the images of the first k cores are read
pub record Loading (told told_now : Option Files) (faults faults_now : ℕ) (cores : List CoreRow) (k : ℕ) (done : List Image) : Type 0 where
  pub files : told_now ≡ told
  pub faults_same : faults_now ≡ faults
  pub each : length done ≡ k
  pub sized : AllByRecursion IsSized done
  pub rest : (files : Files) → told ≡ Some files → behind done (asked_images files k (drop k cores)) ≡ asked_images files 0 cores
