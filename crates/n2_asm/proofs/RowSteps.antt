-- Rows read one after the other.
use Rattle.std.proofs.Common.{◌≡◌, ℕ, ◌+◌, ◌<◌, ◌≤◌, Bool, true, false, cond, eqb, List, [], ◌∷◌, length, Result, Ok, Err, refl, sym, ap, ◌∙◌, arith}
use Rattle.n2_asm.specs.declared.faults.AsmFault.{AsmFault}
use Rattle.n2_asm.specs.Survey.{Surveyed}
use Rattle.n2_asm.specs.Sources.{Output, ◌>>=◌, row_put, rows_put}
use Rattle.n2_asm.specs.Rows.{first_row, rows_of, onto_first}

abbrev picked : Bool → ℕ → List ℕ → List ℕ × List ℕ
picked b c cs = cond b ([], cs) (c ∷ (first_row cs).0, (first_row cs).1)

pick : (b : Bool) (c : ℕ) (cs : List ℕ) → rows_of cs ≡ (first_row cs).0 ∷ rows_of (first_row cs).1
    → cond b ([] ∷ rows_of cs) (onto_first c (rows_of cs)) ≡ (picked b c cs).0 ∷ rows_of (picked b c cs).1
pick true c cs ih = refl
pick false c cs ih = ap (onto_first c) ih

pick_last : (b : Bool) (c : ℕ) → cond b ([] ∷ []) ((c ∷ []) ∷ []) ≡ (picked b c []).0 ∷ rows_of (picked b c []).1
pick_last true c = refl
pick_last false c = refl

rows_first : (c : ℕ) (cs : List ℕ) → rows_of (c ∷ cs) ≡ (first_row (c ∷ cs)).0 ∷ rows_of (first_row (c ∷ cs)).1
rows_first c [] = pick_last (eqb c 10) c
rows_first c (d ∷ cs) = pick (eqb c 10) c (d ∷ cs) (rows_first d cs)

-- the rows of a source that is not over
pub rows_next : (bs : List ℕ) → 0 < length bs → rows_of bs ≡ (first_row bs).0 ∷ rows_of (first_row bs).1
rows_next [] h = absurd (omega arith)
rows_next (c ∷ cs) h = rows_first c cs

-- the rows of a source that is over
pub rows_over : (bs : List ℕ) → length bs ≡ 0 → rows_of bs ≡ []
rows_over [] h = refl
rows_over (c ∷ cs) h = absurd (omega arith)

shorter : (b : Bool) (c : ℕ) (cs : List ℕ) → length (first_row cs).1 ≤ length cs → length (picked b c cs).1 < length (c ∷ cs)
shorter true c cs h = omega arith
shorter false c cs h = omega arith

first_le : (cs : List ℕ) → length (first_row cs).1 ≤ length cs
first_le [] = omega arith
first_le (c ∷ cs) = omega (arith, shorter (eqb c 10) c cs (first_le cs))

pub first_shorter : (bs : List ℕ) → 0 < length bs → length (first_row bs).1 < length bs
first_shorter [] h = absurd (omega arith)
first_shorter (c ∷ cs) h = shorter (eqb c 10) c cs (first_le cs)

-- a row that is put
pub put_more : (s : Surveyed) (n : ℕ) (bs : List ℕ) (out next : Output) (all : Result Output AsmFault) → 0 < length bs → row_put s n (first_row bs).0 out ≡ Ok next
    → rows_put s n (rows_of bs) out ≡ all → rows_put s (n + 1) (rows_of (first_row bs).1) next ≡ all
put_more s n bs out next all some e k =
    let go = λ (o : Output). rows_put s (n + 1) (rows_of (first_row bs).1) o in
    let step : rows_put s n (rows_of bs) out ≡ (row_put s n (first_row bs).0 out >>= go) = ap (λ rows. rows_put s n rows out) (rows_next bs some) in
    sym (step ∙ ap (λ r. r >>= go) e) ∙ k

-- a faulty row
pub put_fault : (s : Surveyed) (n : ℕ) (bs : List ℕ) (out : Output) (fault : AsmFault) (all : Result Output AsmFault) → 0 < length bs → row_put s n (first_row bs).0 out ≡ Err fault
    → rows_put s n (rows_of bs) out ≡ all → all ≡ Err fault
put_fault s n bs out fault all some e k =
    let go = λ (o : Output). rows_put s (n + 1) (rows_of (first_row bs).1) o in
    let step : rows_put s n (rows_of bs) out ≡ (row_put s n (first_row bs).0 out >>= go) = ap (λ rows. rows_put s n rows out) (rows_next bs some) in
    sym k ∙ step ∙ ap (λ r. r >>= go) e
