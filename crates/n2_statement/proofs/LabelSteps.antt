-- Steps of the loops over labels.
use Rattle.std.proofs.Common.{◌≡◌, ℕ, zero, suc, ◌+◌, ◌-◌, ◌<◌, ◌≤◌, List, [], ◌∷◌, length, Option, Some, None, refl, ap, arith}
use Rattle.n2_source.specs.Lists.{choose}
use Rattle.n2_statement.specs.Statements.{label_at, labels_of, labels_within, behind_labels_within}

-- one label more
pub labels_step : (n i : ℕ) (bs : List ℕ) → i < n → behind_labels_within (n - i) bs ≡ choose (label_at bs) (λ x. behind_labels_within (n - (i + 1)) x.1) bs
unfolding behind_labels_within
labels_step n i bs lt = let e : n - i ≡ suc (n - (i + 1)) = omega arith in ap (λ k. behind_labels_within k bs) e

pub labels_none : (n i : ℕ) (bs : List ℕ) → n ≤ i → behind_labels_within (n - i) bs ≡ bs
unfolding behind_labels_within
labels_none n i bs le = let e : n - i ≡ zero = omega arith in ap (λ k. behind_labels_within k bs) e

pub names_step : (n i : ℕ) (bs : List ℕ) → i < n → labels_within (n - i) bs ≡ choose (label_at bs) (λ x. x.0 ∷ labels_within (n - (i + 1)) x.1) []
unfolding labels_within
names_step n i bs lt = let e : n - i ≡ suc (n - (i + 1)) = omega arith in ap (λ k. labels_within k bs) e

pub names_none : (n i : ℕ) (bs : List ℕ) → n ≤ i → labels_within (n - i) bs ≡ []
unfolding labels_within
names_none n i bs le = let e : n - i ≡ zero = omega arith in ap (λ k. labels_within k bs) e

-- a row without a label in front has none
no_labels_within : (n : ℕ) (bs : List ℕ) → ◌≡◌ {A = Option (List ℕ × List ℕ)} None (label_at bs) → labels_within n bs ≡ []
unfolding labels_within
no_labels_within zero bs e = refl
no_labels_within (suc n) bs e = rw (← e) refl

pub no_labels : (bs : List ℕ) → ◌≡◌ {A = Option (List ℕ × List ℕ)} None (label_at bs) → labels_of bs ≡ []
unfolding labels_of
no_labels bs e = no_labels_within (length bs) bs e
