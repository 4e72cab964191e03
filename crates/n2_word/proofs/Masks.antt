-- What is left of a division by a power of two is a mask's.
use Rattle.std.proofs.Common.{◌≡◌, ℕ, suc, zero, ◌+◌, ◌-◌, ◌*◌, ◌/◌, ◌%◌, ◌^◌, ◌<◌, ◌≤◌, inl, inr, refl, sym, ap, subst, ◌∙◌, arith}
use Rattle.std.specs.Prelude.{IsTrue}
use Rattle.std.specs.Int.{is_power_of_two, IsPowerOfTwo}
use Rattle.std.specs.Int.RustNames.{bit_and, count_ones}
use Rattle.std.proofs.lemmas.Nat.{and_mask, zero_from_ones, ones_cat, shr_split}
use Rattle.std.proofs.lemmas.Bool.{cases_eq, eqb-true, eq-eqb}
use Rattle.std.proofs.lemmas.Bool.Decides.{nat_tests}
use Rattle.n2_word.specs.Lines.{is_cache_size}

-- the ones of a number are those of its low bits and those of the rest
ones_split : (n k : ℕ) → n % 2 ^ k < 2 ^ k → count_ones n ≡ count_ones (n / 2 ^ k) + count_ones (n % 2 ^ k)
ones_split n k below = ap count_ones (sym (shr_split n k)) ∙ ones_cat k (n / 2 ^ k) (n % 2 ^ k) below

-- a number with a single one is a power of two
power_from_ones : (most n : ℕ) → n ≤ most → count_ones n ≡ 1 → IsPowerOfTwo n
unfolding count_ones
power_from_ones zero n within one =
    let none : n ≡ 0 = omega arith in
    let zero_ones : count_ones 0 ≡ 0 = refl in
    absurd (omega (arith, ap count_ones none))
power_from_ones (suc most) n within one =
    let split : count_ones n ≡ count_ones (n / 2 ^ 1) + count_ones (n % 2 ^ 1) = ones_split n 1 (omega arith) in
    let parts : n / 2 ^ 1 * 2 ^ 1 + n % 2 ^ 1 ≡ n = shr_split n 1 in
    let zero_ones : count_ones 0 ≡ 0 = refl in
    let one_ones : count_ones 1 ≡ 1 = refl in
    elim (cases_eq (n % 2 ^ 1) 0) [
      | inl even ↦
          let half_ones : count_ones (n / 2 ^ 1) ≡ 1 = omega (arith, ap count_ones even) in
          let half = power_from_ones most (n / 2 ^ 1) (omega arith) half_ones in
          (suc half.0, omega (arith, half.1))
      | inr odd ↦
          let last : n % 2 ^ 1 ≡ 1 = omega arith in
          let no_ones : count_ones (n / 2 ^ 1) ≡ 0 = omega (arith, ap count_ones last) in
          let no_half : n / 2 ^ 1 ≡ 0 = zero_from_ones (n / 2 ^ 1) no_ones in
          (0, omega arith)
    ]

-- the mask of a power of two
pub mask_is_rest : (line n : ℕ) → IsTrue (is_power_of_two n) → bit_and line (n - 1) ≡ line % n
mask_is_rest line n power =
    let p : IsPowerOfTwo n = power_from_ones n n (omega arith) (eqb-true _ _ power) in
    subst (λ m. bit_and line (m - 1) ≡ line % m) (sym p.1) (and_mask line p.0)

-- the sets of a cache
pub power_of_sets : (bytes : ℕ) → IsTrue (is_cache_size bytes) → IsTrue (is_power_of_two (bytes / 32)) × (0 < bytes / 32)
unfolding count_ones
power_of_sets bytes size =
    let one : count_ones bytes ≡ 1 = grind (arith, nat_tests) in
    let least : 512 ≤ bytes = grind (arith, nat_tests) in
    let split : count_ones bytes ≡ count_ones (bytes / 32) + count_ones (bytes % 32) = ones_split bytes 5 (omega arith) in
    let zero_ones : count_ones 0 ≡ 0 = refl in
    let power : IsTrue (is_power_of_two (bytes / 32)) =
    elim (cases_eq (count_ones (bytes / 32)) 0) [
      | inl none ↦ absurd (omega (arith, zero_from_ones (bytes / 32) none))
      | inr some ↦ eq-eqb (count_ones (bytes / 32)) 1 (omega arith)
    ]
    in
    (power, omega arith)
