-- Files by their names.
use Rattle.std.specs.Prelude.{◌≡◌, ℕ, ◌≤◌, List, [], ◌∷◌, length, Option, Some, None, if◌then◌else◌}
use Rattle.std.specs.Str.{bytes_eq}

-- names and bytes of files
abbrev pub Files : Type 0
Files = List (List ℕ × List ℕ)

-- the file of a name; of two equal names the first counts
abbrev pub file_at : Files → List ℕ → Option (List ℕ)
file_at [] name = None
file_at (file ∷ files) name = if bytes_eq file.0 name then Some file.1 else file_at files name

-- these are the bytes of a file of at most so many; where the files are told, of the one of that name
abbrev pub IsFile : Option Files → List ℕ → ℕ → List ℕ → Type 0
IsFile None name most bytes = length bytes ≤ most
IsFile (Some files) name most bytes = (length bytes ≤ most) × (file_at files name ≡ Some bytes)
