-- What is read beside and at the place where a list was written.
use Rattle.std.proofs.Common.{◌≡◌, ℕ, ◌+◌, ◌≤◌, List, ◌++◌, length, take, drop, sym, ap, ◌∙◌, arith, length-append, append_assoc}
use Rattle.std.proofs.lemmas.List.{length-take-le, take-append-le, take-append-drop, drop-take}
use Rattle.std.proofs.lemmas.Slice.{drop-append-drop}
use Rattle.std.proofs.Math.Seq.{drop-append_seam, take-append_seam}
use Rattle.n2_word.specs.Words.{put_at}

-- what was written is read
pub read_there : (xs : List ℕ) (at : ℕ) (new : List ℕ) → at ≤ length xs → take (length new) (drop at (put_at xs at new)) ≡ new
read_there xs at new fits =
    let front : length (take at xs) ≡ at = length-take-le at xs fits in
    let rest : List ℕ = drop (at + length new) xs in
    let behind : drop (length (take at xs)) (put_at xs at new) ≡ new ++ rest =
    ap (drop (length (take at xs))) (append_assoc (take at xs) new rest) ∙ drop-append_seam (take at xs) (new ++ rest)
    in
    ap (λ k. take (length new) (drop k (put_at xs at new))) (sym front) ∙ ap (take (length new)) behind ∙ take-append_seam new rest

take_again : (k at : ℕ) (xs : List ℕ) → k ≤ at → at ≤ length xs → take k (take at xs) ≡ take k xs
take_again k at xs le fits =
    let front : length (take at xs) ≡ at = length-take-le at xs fits in
    sym (take-append-le k (take at xs) (drop at xs) (omega arith)) ∙ ap (take k) (take-append-drop at xs)

-- what stands in front is as it was
pub read_in_front : (xs : List ℕ) (at : ℕ) (new : List ℕ) (from n : ℕ) → at ≤ length xs → from + n ≤ at → take n (drop from (put_at xs at new)) ≡ take n (drop from xs)
read_in_front xs at new from n fits before =
    let front : length (take at xs) ≡ at = length-take-le at xs fits in
    let rest : List ℕ = drop (at + length new) xs in
    let same : take (from + n) (put_at xs at new) ≡ take (from + n) xs =
    ap (take (from + n)) (append_assoc (take at xs) new rest)
    ∙ take-append-le (from + n) (take at xs) (new ++ rest) (omega arith)
    ∙ take_again (from + n) at xs before fits
    in
    sym (drop-take from n (put_at xs at new)) ∙ ap (drop from) same ∙ drop-take from n xs

-- what stands behind is as it was
pub read_behind : (xs : List ℕ) (at : ℕ) (new : List ℕ) (from n : ℕ) → at ≤ length xs → at + length new ≤ from → take n (drop from (put_at xs at new)) ≡ take n (drop from xs)
read_behind xs at new from n fits after =
    let front : length (take at xs) ≡ at = length-take-le at xs fits in
    let whole : length (take at xs ++ new) ≡ at + length new = length-append (take at xs) new ∙ ap (λ k. k + length new) front in
    ap (take n) (drop-append-drop (at + length new) xs (take at xs ++ new) from after whole)
