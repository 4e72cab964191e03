-- What is made of the system's answers.
use Rattle.std.specs.Prelude.{◌≡◌, ℕ, ◌<◌, List, length, Option, Result, Ok, Err, ⊤}
use Rattle.std.specs.declared.io.ErrorKind.{ErrorKind}
use Rattle.std.specs.declared.io.ErrorKind.TheVariants as kinds
use Rattle.n2_outside.specs.declared.FetchFault.{FetchFault}
use Rattle.n2_outside.specs.declared.FetchFault.TheVariants.{Absent, Failed, NoMemory}

-- a write that failed: an error, or no byte of a piece that has some
abbrev pub IsFailedWrite : {E : Type 0} → Result ℕ E → List ℕ → Type 0
IsFailedWrite (Ok n) piece = (n ≡ 0) × (0 < length piece)
IsFailedWrite (Err e) piece = ⊤

-- why a file could not be opened or read
abbrev pub fault_of : ErrorKind → FetchFault
fault_of kinds.NotFound = Absent
fault_of kinds.OutOfMemory = NoMemory
fault_of kind = Failed

-- a sink over a writer: what the writer tells of its contents, and how many puts failed
pub record WriterState : Type 0 where
  pub contents : Option (List ℕ)
  pub faults : ℕ

-- a sink over a file: what the file tells of its contents, once it is made, and how many puts failed
pub record FileState : Type 0 where
  pub file : Option (Option (List ℕ))
  pub faults : ℕ
