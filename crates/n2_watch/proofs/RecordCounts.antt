-- How many records pass a test.
use Rattle.std.proofs.Common.{◌≡◌, ℕ, zero, suc, ◌+◌, ◌<◌, List, [], ◌∷◌, length, slice_set, refl, ap, sym, ◌∙◌, arith, Bool, true, false, cond}
use Rattle.n2_watch.specs.declared.records.Record.{Record}
use Rattle.n2_watch.specs.Table.{record_at, count}

abbrev pub bit : Bool → ℕ
bit true = 1
bit false = 0

one_more : (a : Bool) (n : ℕ) → cond a (n + 1) n ≡ n + bit a
one_more true n = refl
one_more false n = omega arith

-- a record in place of another
pub count_set : (test : Record → Bool) (rs : List Record) (i : ℕ) (r : Record) → i < length rs → count test (slice_set rs i r) + bit (test (record_at rs i)) ≡ count test rs + bit (test r)
count_set test [] i r h = absurd (omega arith)
count_set test (q ∷ rs) zero r h =
    let a = one_more (test r) (count test rs) in let b = one_more (test q) (count test rs) in
    omega (arith, a, b)
count_set test (q ∷ rs) (suc i) r h =
    let g : i < length rs = omega arith in
    let e = count_set test rs i r g in
    let a = one_more (test q) (count test (slice_set rs i r)) in let b = one_more (test q) (count test rs) in
    omega (arith, a, b, e)

pub count_same : (f g : Record → Bool) (rs : List Record) → ((i : ℕ) → i < length rs → f (record_at rs i) ≡ g (record_at rs i)) → count f rs ≡ count g rs
count_same f g [] h = refl
count_same f g (q ∷ rs) h =
    let e = count_same f g rs (λ i l. h (suc i) (omega arith)) in
    let z = h 0 (omega arith) in
    let a = one_more (f q) (count f rs) in let b = one_more (g q) (count g rs) in
    a ∙ ap (λ n. n + bit (f q)) e ∙ ap (λ x. count g rs + bit x) z ∙ sym b

pub count_none : (f : Record → Bool) (rs : List Record) → ((i : ℕ) → i < length rs → f (record_at rs i) ≡ false) → count f rs ≡ 0
count_none f [] h = refl
count_none f (q ∷ rs) h =
    let e = count_none f rs (λ i l. h (suc i) (omega arith)) in
    let z = h 0 (omega arith) in
    rw (z, e) refl
