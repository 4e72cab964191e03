-- Why a fetch gives no file.
use Rattle.std.specs.Prelude.{◌≡◌, ℕ, ◌<◌, List, length, Bool, true, false, Option, Some, None, Result, Err, IsSomeAnd, ⊤}
use Rattle.n2_outside.specs.declared.FetchFault.{FetchFault}
use Rattle.n2_outside.specs.declared.FetchFault.TheVariants.{Absent, TooLong, Failed, NoMemory}
use Rattle.n2_outside.specs.Faults.{Rose}
use Rattle.n2_outside.specs.Files.{Files, file_at}

-- whether a fetch answers that the outside failed
abbrev pub is_failed : {F : Type 0} → Result F FetchFault → Bool
is_failed (Err Failed) = true
is_failed answer = false

-- what a fault says of the name's file and of the count of faults before and after the call
abbrev pub HasFetchCause : Option Files → ℕ → ℕ → List ℕ → ℕ → FetchFault → Type 0
HasFetchCause (Some files) before now name most Absent = file_at files name ≡ None
HasFetchCause (Some files) before now name most TooLong = IsSomeAnd (file_at files name) (λ bytes. most < length bytes)
HasFetchCause None before now name most Absent = Rose before now
HasFetchCause None before now name most TooLong = Rose before now
HasFetchCause told before now name most Failed = Rose before now
HasFetchCause told before now name most NoMemory = ⊤
