-- Rows of a listing, one word after the other.
use Rattle.std.proofs.Common.{◌≡◌, ℕ, ◌+◌, ◌-◌, ◌%◌, ◌^◌, ◌<◌, ◌≤◌, List, [], ◌∷◌, ◌++◌, length, take, drop, refl, sym, ap, ◌∙◌, append_assoc, length-drop, arith}
use Rattle.std.proofs.lemmas.List.{append-nil}
use Rattle.n2_word.specs.Words.{number_of}
use Rattle.n2_dis.specs.Texts.{row_text, rows_text}

rows_next : (at : ℕ) (bs : List ℕ) → 0 < length bs → rows_text at bs ≡ row_text at (number_of (take 4 bs)) ++ rows_text ((at + 4) % 2 ^ 32) (drop 4 bs)
rows_next at [] some = absurd (omega arith)
rows_next at (a ∷ []) some = sym (append-nil _)
rows_next at (a ∷ b ∷ []) some = sym (append-nil _)
rows_next at (a ∷ b ∷ c ∷ []) some = sym (append-nil _)
rows_next at (a ∷ b ∷ c ∷ d ∷ bs) some = refl

-- a row more
pub rows_more : (front : List ℕ) (at word next : ℕ) (bs rest all : List ℕ) → 0 < length bs → word ≡ number_of (take 4 bs) → rest ≡ drop 4 bs → next ≡ (at + 4) % 2 ^ 32
    → front ++ rows_text at bs ≡ all → (front ++ row_text at word) ++ rows_text next rest ≡ all
rows_more front at word next bs rest all some w r n e =
    append_assoc front (row_text at word) (rows_text next rest)
    ∙ ap (λ (x : ℕ). front ++ (row_text at x ++ rows_text next rest)) w
    ∙ ap (λ (xs : List ℕ). front ++ (row_text at (number_of (take 4 bs)) ++ rows_text next xs)) r
    ∙ ap (λ (x : ℕ). front ++ (row_text at (number_of (take 4 bs)) ++ rows_text x (drop 4 bs))) n
    ∙ ap (λ xs. front ++ xs) (sym (rows_next at bs some))
    ∙ e

pub rows_over : (at : ℕ) (bs : List ℕ) → length bs ≡ 0 → rows_text at bs ≡ []
rows_over at [] none = refl
rows_over at (b ∷ bs) none = absurd (omega arith)

pub shorter : (bs : List ℕ) → 0 < length bs → length (drop 4 bs) < length bs
shorter bs some = omega (arith, length-drop 4 bs)
