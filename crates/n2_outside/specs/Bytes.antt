-- What a sink tells of its bytes.
use Rattle.std.specs.Prelude.{◌≡◌, ℕ, List, ◌++◌, take, length, Option, option_map, Result, Ok, Err, ◌≤◌, ◌<◌, ◌⊎◌}
use Rattle.std.specs.List.{Contains}

-- with this text at the end, where the bytes are told
abbrev pub appended : Option (List ℕ) → List ℕ → Option (List ℕ)
appended told text = option_map (λ bytes. bytes ++ text) told

-- what a put of a piece leaves
abbrev pub Puts : {E : Type 0} → Option (List ℕ) → Option (List ℕ) → List ℕ → Result ℕ E → Type 0
Puts before now piece (Ok n) = now ≡ appended before (take n piece)
Puts before now piece (Err e) = now ≡ before

-- how much of a piece a put takes
abbrev pub IsPart : {E : Type 0} → List ℕ → Result ℕ E → Type 0
IsPart piece (Ok n) = (n ≤ length piece) × (0 < length piece → 0 < n)
IsPart piece (Err e) = Unit {0}

-- the put with this number fails: it was to fail, or a byte is put where the room is used up
abbrev pub IsFailing : List ℕ → ℕ → List ℕ → ℕ → List ℕ → Type 0
IsFailing failing room bytes number piece = Contains failing number ⊎ ((0 < length piece) × (length bytes ≡ room))

-- a prefix of the text is at the end, where the bytes are told
abbrev pub PutsPrefix : Option (List ℕ) → Option (List ℕ) → List ℕ → Type 0
PutsPrefix before now text = (n : ℕ) × (now ≡ appended before (take n text))
