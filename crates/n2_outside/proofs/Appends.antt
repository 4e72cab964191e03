-- One text appended after another.
use Rattle.std.proofs.Common.{◌≡◌, ℕ, ◌+◌, List, ◌++◌, take, drop, Option, Some, None, refl, ap, append_assoc, sym, ◌∙◌}
use Rattle.std.proofs.Math.Seq.{take-add}
use Rattle.n2_outside.specs.Bytes.{appended}

pub appended-append : (told : Option (List ℕ)) (a b : List ℕ) → appended (appended told a) b ≡ appended told (a ++ b)
appended-append None a b = refl
appended-append (Some bytes) a b = ap (λ (l : List ℕ). Some l) (append_assoc bytes a b)

-- a front, and then a prefix of the rest
pub appended-more : (told told-2 told-3 : Option (List ℕ)) (text piece : List ℕ) (i n : ℕ) → told-2 ≡ appended told (take i text) → told-3 ≡ appended told-2 (take n piece) → piece ≡ drop i text → told-3 ≡ appended told (take (i + n) text)
appended-more told told-2 told-3 text piece i n here next rest =
    next
    ∙ ap (λ (p : List ℕ). appended told-2 (take n p)) rest
    ∙ ap (λ t. appended t (take n (drop i text))) here
    ∙ appended-append told (take i text) (take n (drop i text))
    ∙ ap (appended told) (sym (take-add i n text))
