-- The rows of a source.
use Rattle.std.specs.Prelude.{ℕ, List, [], ◌∷◌, ◌==◌, if◌then◌else◌}

abbrev pub onto_first : ℕ → List (List ℕ) → List (List ℕ)
onto_first c [] = (c ∷ []) ∷ []
onto_first c (row ∷ rows) = (c ∷ row) ∷ rows

-- each row up to its line feed; a last piece without one is a row too
abbrev pub rows_of : List ℕ → List (List ℕ)
rows_of [] = []
rows_of (c ∷ cs) = if c == 10 then [] ∷ rows_of cs else onto_first c (rows_of cs)

-- the first row, and what follows it
abbrev pub first_row : List ℕ → List ℕ × List ℕ
first_row [] = ([], [])
first_row (c ∷ cs) = if c == 10 then ([], cs) else (c ∷ (first_row cs).0, (first_row cs).1)
