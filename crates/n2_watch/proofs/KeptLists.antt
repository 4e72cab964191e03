-- Elements of a list where one is set.
use Rattle.std.proofs.Common.{◌≡◌, ℕ, zero, suc, ◌<◌, ◌≢◌, List, [], ◌∷◌, length, get_or, slice_get, slice_set, Option, Some, None, refl, ap, arith}

-- an element inside of a list
pub element_at : {X : Type 0} (xs : List X) (i : ℕ) → i < length xs → (x : X) × (slice_get xs i ≡ Some x)
element_at [] i lt = absurd (omega arith)
element_at (x ∷ xs) zero lt = (x, refl)
element_at (x ∷ xs) (suc i) lt = element_at xs i (omega arith)

pub get-set_same : {X : Type 0} (xs : List X) (i : ℕ) (x y : X) → slice_get xs i ≡ Some x → slice_get (slice_set xs i y) i ≡ Some y
get-set_same [] i x y e = absurd (cc)
get-set_same (z ∷ xs) zero x y e = refl
get-set_same (z ∷ xs) (suc i) x y e = get-set_same xs i x y e

pub get-set_other : {X : Type 0} (xs : List X) (i j : ℕ) (y : X) → j ≢ i → slice_get (slice_set xs i y) j ≡ slice_get xs j
get-set_other [] i j y n = refl
get-set_other (x ∷ xs) zero zero y n = absurd (n refl)
get-set_other (x ∷ xs) zero (suc j) y n = refl
get-set_other (x ∷ xs) (suc i) zero y n = refl
get-set_other (x ∷ xs) (suc i) (suc j) y n = get-set_other xs i j y (λ e. n (ap suc e))

-- an element set to itself
pub set_itself : {X : Type 0} (xs : List X) (i : ℕ) (x : X) → slice_get xs i ≡ Some x → slice_set xs i x ≡ xs
set_itself [] i x e = absurd (cc)
set_itself {X} (z ∷ xs) zero x e = ap (λ (y : X). y ∷ xs) (grind arith)
set_itself {X} (z ∷ xs) (suc i) x e = ap (λ (ys : List X). z ∷ ys) (set_itself xs i x e)

-- an optional element that is there
pub some_within : {X : Type 0} (xs : List (Option X)) (i : ℕ) (x : X) → get_or xs i None ≡ Some x → i < length xs
some_within [] i x e = absurd (cc)
some_within (y ∷ xs) zero x e = omega arith
some_within (y ∷ xs) (suc i) x e = let lt : i < length xs = some_within xs i x e in omega arith
