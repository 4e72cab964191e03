-- A file that lists actors: one row for each, a core's number or `d` for the device actor, ended by a
-- line feed.
use Rattle.std.specs.Prelude.{ℕ, ◌+◌, List, [], ◌∷◌, length, Bool, false, nat_lt, Option, Some, None, Result, Ok, Err, ◌==◌, if◌then◌else◌}
use Rattle.n2_text.specs.Fields.{numeral}

-- a byte in front of the first piece
abbrev pub grown : ℕ → List (List ℕ) → List (List ℕ)
grown c [] = (c ∷ []) ∷ []
grown c (piece ∷ pieces) = (c ∷ piece) ∷ pieces

-- the pieces of a text round its line feeds; the last is empty where the text ends with a line feed
abbrev pub pieces_of : List ℕ → List (List ℕ)
pieces_of [] = [] ∷ []
pieces_of (c ∷ cs) = if c == 10 then [] ∷ pieces_of cs else grown c (pieces_of cs)

-- `d`
abbrev pub is_device : List ℕ → Bool
is_device [] = false
is_device (c ∷ []) = c == 100
is_device (c ∷ next ∷ cs) = false

-- a number where it is a core's
abbrev pub core_of : ℕ → Option ℕ → Option ℕ
core_of cores None = None
core_of cores (Some n) = if nat_lt n cores then Some n else None

-- the actor of a row: a core's number, or the number behind the last core for the device actor
abbrev pub actor_of : ℕ → List ℕ → Option ℕ
actor_of cores piece = if is_device piece then Some cores else core_of cores (numeral piece)

-- a row's actor in front of those of later rows
abbrev pub with_actor : ℕ → Option ℕ → Result (List ℕ) ℕ → Result (List ℕ) ℕ
with_actor row None later = Err row
with_actor row (Some actor) (Ok actors) = Ok (actor ∷ actors)
with_actor row (Some actor) (Err other) = Err other

-- the actors of the rows from this one on, or the number of the first that is no actor's; the last
-- piece is no row and has to be empty
abbrev pub actors_from : ℕ → ℕ → List (List ℕ) → Result (List ℕ) ℕ
actors_from cores row [] = Ok []
actors_from cores row (last ∷ []) = if length last == 0 then Ok [] else Err row
actors_from cores row (piece ∷ next ∷ pieces) = with_actor row (actor_of cores piece) (actors_from cores (row + 1) (next ∷ pieces))

-- the actors of a file, or the number of the first row that is none, counted from 1
abbrev pub list_of : ℕ → List ℕ → Result (List ℕ) ℕ
list_of cores bytes = actors_from cores 1 (pieces_of bytes)
