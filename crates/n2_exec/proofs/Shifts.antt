-- The bits of words that are joined, shifted or rotated.
use Rattle.std.proofs.Common.{◌≡◌, ℕ, zero, suc, ◌+◌, ◌-◌, ◌*◌, ◌/◌, ◌%◌, ◌^◌, ◌<◌, ◌≤◌, ◌==◌, ◌&&◌, ◌||◌, not, if◌then◌else◌, min, max, ◌⊎◌, inl, inr, refl, sym, ap, ◌∙◌, bit_and, bit_or, bit_xor, w32, of_z, arith}
use Rattle.std.specs.Int.{bit_at, bit_not, int_shr, rotate_left, rotate_right}
use Rattle.std.proofs.Math.Facts.{to_z-neg}
use Rattle.std.proofs.Math.Nat.{div-le_self}
use Rattle.std.proofs.lemmas.Bool.{cases_lt}
use Rattle.std.proofs.lemmas.Bool.Decides.{nat_tests}
use Rattle.std.proofs.lemmas.Int.{to_z_pos}
use Rattle.std.proofs.lemmas.Nat.{pow_pos, or_of_32}
use Rattle.std.proofs.lemmas.Nat.Bits.{bit_at-lt, bit_at-zero, bit_at_and, bit_at_or, bit_at_xor, bit_at_not, bit_at_above, bit_at_cat_low, bit_at_cat_high}
use Rattle.n2_word.specs.Words.{has_bit}
use Rattle.n2_insn.specs.declared.RegOp.TheVariants.{Nor, Rol, Ror}
use Rattle.n2_exec.specs.Values.{shifted_right_signed, reg_value}

bit_at-div : (n k i : ℕ) → bit_at (n / 2 ^ k) i ≡ bit_at n (i + k)
bit_at-div n k i =
    let some : 0 < 2 ^ k = pow_pos k in
    let whole : n / 2 ^ k * 2 ^ k + n % 2 ^ k ≡ n = omega arith in
    let back : i + k - k ≡ i = omega arith in
    sym (bit_at_cat_high (n / 2 ^ k) k (n % 2 ^ k) (i + k) (omega arith) (omega arith) ∙ ap (bit_at (n / 2 ^ k)) back)
    ∙ ap (λ m. bit_at m (i + k)) whole

bit_at-mod : (n k i : ℕ) → i < k → bit_at (n % 2 ^ k) i ≡ bit_at n i
bit_at-mod n k i lt =
    let some : 0 < 2 ^ k = pow_pos k in
    let whole : n / 2 ^ k * 2 ^ k + n % 2 ^ k ≡ n = omega arith in
    sym (bit_at_cat_low (n / 2 ^ k) k (n % 2 ^ k) i lt) ∙ ap (λ m. bit_at m i) whole

bit_at-mul_low : (n k i : ℕ) → i < k → bit_at (n * 2 ^ k) i ≡ 0
bit_at-mul_low n k i lt =
    let none : n * 2 ^ k + 0 ≡ n * 2 ^ k = omega arith in
    ap (λ m. bit_at m i) (sym none) ∙ bit_at_cat_low n k 0 i lt ∙ bit_at-zero i

bit_at-mul_high : (n k i : ℕ) → k ≤ i → bit_at (n * 2 ^ k) i ≡ bit_at n (i - k)
bit_at-mul_high n k i le =
    let none : n * 2 ^ k + 0 ≡ n * 2 ^ k = omega arith in
    ap (λ m. bit_at m i) (sym none) ∙ bit_at_cat_high n k 0 i (pow_pos k) le

-- ---- and, or, nor, xor

tested_and : (x y : ℕ) → x < 2 → y < 2 → (min x y == 1) ≡ ((x == 1) && (y == 1))
tested_and x y hx hy = grind (arith, nat_tests)

tested_or : (x y : ℕ) → x < 2 → y < 2 → (max x y == 1) ≡ ((x == 1) || (y == 1))
tested_or x y hx hy = grind (arith, nat_tests)

tested_not : (x : ℕ) → x < 2 → (1 - x == 1) ≡ not (x == 1)
tested_not x hx = grind (arith, nat_tests)

tested_xor : (x y : ℕ) → x < 2 → y < 2 → ((x + y) % 2 == 1) ≡ (if x == 1 then not (y == 1) else y == 1)
tested_xor zero zero hx hy = refl
tested_xor zero (suc zero) hx hy = refl
tested_xor (suc zero) zero hx hy = refl
tested_xor (suc zero) (suc zero) hx hy = refl
tested_xor (suc (suc x)) y hx hy = absurd (omega arith)
tested_xor x (suc (suc y)) hx hy = absurd (omega arith)

pub bit-and : (a b i : ℕ) → has_bit (bit_and a b) i ≡ (has_bit a i && has_bit b i)
bit-and a b i = ap (λ n. n == 1) (bit_at_and a b i) ∙ tested_and (bit_at a i) (bit_at b i) (bit_at-lt a i) (bit_at-lt b i)

pub bit-or : (a b i : ℕ) → has_bit (bit_or a b) i ≡ (has_bit a i || has_bit b i)
bit-or a b i = ap (λ n. n == 1) (bit_at_or a b i) ∙ tested_or (bit_at a i) (bit_at b i) (bit_at-lt a i) (bit_at-lt b i)

pub bit-xor : (a b i : ℕ) → has_bit (bit_xor a b) i ≡ (if has_bit a i then not (has_bit b i) else has_bit b i)
bit-xor a b i = ap (λ n. n == 1) (bit_at_xor a b i) ∙ tested_xor (bit_at a i) (bit_at b i) (bit_at-lt a i) (bit_at-lt b i)

pub bit-nor : (a b i : ℕ) → a < 2 ^ 32 → b < 2 ^ 32 → i < 32 → has_bit (reg_value Nor a b) i ≡ not (has_bit a i || has_bit b i)
bit-nor a b i ha hb lt =
    ap (λ n. n == 1) (bit_at_not w32 (bit_or a b) i (or_of_32 a b ha hb) lt)
    ∙ tested_not (bit_at (bit_or a b) i) (bit_at-lt (bit_or a b) i)
    ∙ ap not (bit-or a b i)

-- ---- rotations: a word shifted to the left by l and to the right by r, which are 32 together, or both 0

no_bit : (a i : ℕ) → a < 2 ^ 32 → 32 ≤ i → bit_at a i ≡ 0
no_bit a i h le = bit_at_above a 32 i h le

-- the other part of a rotation has no more at a bit that stays below 32
beside : (a l r i : ℕ) → a < 2 ^ 32 → (l ≡ 0) × (r ≡ 0) ⊎ (l + r ≡ 32) → max (bit_at a i) (bit_at (a / 2 ^ r) (i + l)) ≡ bit_at a i
beside a l r i h (inl none) =
    let same : bit_at (a / 2 ^ r) (i + l) ≡ bit_at a i = bit_at-div a r (i + l) ∙ ap (bit_at a) (omega (arith, none.0, none.1)) in
    omega arith
beside a l r i h (inr all) =
    let gone : bit_at (a / 2 ^ r) (i + l) ≡ 0 = bit_at-div a r (i + l) ∙ no_bit a (i + l + r) h (omega arith) in
    omega arith

stays : (a l r i : ℕ) → a < 2 ^ 32 → i + l < 32 → (l ≡ 0) × (r ≡ 0) ⊎ (l + r ≡ 32) → bit_at (bit_or (a * 2 ^ l % 2 ^ 32) (a / 2 ^ r)) (i + l) ≡ bit_at a i
stays a l r i h lt apart =
    let left : bit_at (a * 2 ^ l % 2 ^ 32) (i + l) ≡ bit_at a i =
    bit_at-mod (a * 2 ^ l) 32 (i + l) lt ∙ bit_at-mul_high a l (i + l) (omega arith) ∙ ap (bit_at a) (omega arith)
    in
    bit_at_or (a * 2 ^ l % 2 ^ 32) (a / 2 ^ r) (i + l)
    ∙ ap (λ b. max b (bit_at (a / 2 ^ r) (i + l))) left
    ∙ beside a l r i h apart

-- a bit that goes round
goes_round : (a l r i j : ℕ) → i < 32 → l + r ≡ 32 → i + l ≡ j + 32 → bit_at (bit_or (a * 2 ^ l % 2 ^ 32) (a / 2 ^ r)) j ≡ bit_at a i
goes_round a l r i j lt all round =
    let left : bit_at (a * 2 ^ l % 2 ^ 32) j ≡ 0 = bit_at-mod (a * 2 ^ l) 32 j (omega arith) ∙ bit_at-mul_low a l j (omega arith) in
    let right : bit_at (a / 2 ^ r) j ≡ bit_at a i = bit_at-div a r j ∙ ap (bit_at a) (omega arith) in
    let joined = bit_at_or (a * 2 ^ l % 2 ^ 32) (a / 2 ^ r) j in
    omega arith

turned_as : (a l r i j : ℕ) → a < 2 ^ 32 → l < 32 → i < 32 → (l ≡ 0) × (r ≡ 0) ⊎ (l + r ≡ 32) → j ≡ (i + l) % 32 → (i + l < 32) ⊎ (32 ≤ i + l) → bit_at (bit_or (a * 2 ^ l % 2 ^ 32) (a / 2 ^ r)) j ≡ bit_at a i
turned_as a l r i j h small lt apart is (inl low) =
    let here : j ≡ i + l = omega arith in rw here (stays a l r i h low apart)
turned_as a l r i j h small lt (inl none) is (inr high) = absurd (omega (arith, none.0))
turned_as a l r i j h small lt (inr all) is (inr high) = goes_round a l r i j lt all (omega arith)

turned : (a l r i j : ℕ) → a < 2 ^ 32 → l < 32 → i < 32 → (l ≡ 0) × (r ≡ 0) ⊎ (l + r ≡ 32) → j ≡ (i + l) % 32 → bit_at (bit_or (a * 2 ^ l % 2 ^ 32) (a / 2 ^ r)) j ≡ bit_at a i
turned a l r i j h small lt apart is = turned_as a l r i j h small lt apart is (cases_lt (i + l) 32)

apart_as : (k : ℕ) → k < 32 → (k < 1) ⊎ (1 ≤ k) → (k ≡ 0) × ((32 - k) % 32 ≡ 0) ⊎ (k + (32 - k) % 32 ≡ 32)
apart_as k lt (inl none) = inl (omega arith, omega arith)
apart_as k lt (inr some) = inr (omega arith)

-- bit i goes to bit i + by
pub bit-rotate_left : (a by i : ℕ) → a < 2 ^ 32 → i < 32 → has_bit (rotate_left w32 a by) ((i + by) % 32) ≡ has_bit a i
bit-rotate_left a by i h lt =
    ap (λ b. b == 1) (turned a (by % 32) ((32 - by % 32) % 32) i ((i + by) % 32) h (omega arith) lt (apart_as (by % 32) (omega arith) (cases_lt (by % 32) 1)) (omega arith))

swapped : (x y i : ℕ) → bit_at (bit_or x y) i ≡ bit_at (bit_or y x) i
swapped x y i = let one = bit_at_or x y i in let two = bit_at_or y x i in omega arith

back : {l r : ℕ} → (r ≡ 0) × (l ≡ 0) ⊎ (r + l ≡ 32) → (l ≡ 0) × (r ≡ 0) ⊎ (l + r ≡ 32)
back (inl none) = inl (none.1, none.0)
back (inr all) = inr (omega arith)

-- bit i comes from bit i + by
pub bit-rotate_right : (a by i : ℕ) → a < 2 ^ 32 → i < 32 → has_bit (rotate_right w32 a by) i ≡ has_bit a ((i + by) % 32)
bit-rotate_right a by i h lt =
    ap (λ b. b == 1)
    (swapped (a / 2 ^ (by % 32)) (a * 2 ^ ((32 - by % 32) % 32) % 2 ^ 32) i
    ∙ turned a ((32 - by % 32) % 32) (by % 32) ((i + by) % 32) i h (omega arith) (omega arith) (back (apart_as (by % 32) (omega arith) (cases_lt (by % 32) 1))) (omega arith))

-- the same by a register, whose low five bits count
pub bit-rol : (a b i : ℕ) → a < 2 ^ 32 → i < 32 → has_bit (reg_value Rol a b) ((i + b) % 32) ≡ has_bit a i
bit-rol a b i h lt =
    let place : (i + b) % 32 ≡ (i + b % 32) % 32 = omega arith in
    ap (has_bit (rotate_left w32 a (b % 32))) place ∙ bit-rotate_left a (b % 32) i h lt

pub bit-ror : (a b i : ℕ) → a < 2 ^ 32 → i < 32 → has_bit (reg_value Ror a b) i ≡ has_bit a ((i + b) % 32)
bit-ror a b i h lt =
    let place : (i + b % 32) % 32 ≡ (i + b) % 32 = omega arith in
    bit-rotate_right a (b % 32) i h lt ∙ ap (has_bit a) place

-- ---- the arithmetic shift

-- a word without its sign
shifted_plain : (a by i : ℕ) → a < 2 ^ 31 → bit_at (shifted_right_signed a by) i ≡ bit_at a (i + by)
shifted_plain a by i h = ap (λ z. bit_at (of_z w32 (int_shr z by)) i) (to_z_pos w32 a h) ∙ bit_at-div a by i

-- the sign of such a word is 0, and so is each bit above it
plain_top : (a j : ℕ) → a < 2 ^ 31 → (j < 32) ⊎ (32 ≤ j) → bit_at a j ≡ bit_at a (min j 31)
plain_top a j h (inl low) = ap (bit_at a) (omega arith)
plain_top a j h (inr high) =
    let top : min j 31 ≡ 31 = omega arith in
    bit_at_above a 31 j h (omega arith) ∙ sym (ap (bit_at a) top ∙ bit_at_above a 31 31 h (omega arith))

-- a word with its sign is the complement of one without
shifted_complement : (k by : ℕ) → k < 2 ^ 31 → shifted_right_signed (2 ^ 32 - suc k) by ≡ bit_not w32 (k / 2 ^ by)
shifted_complement k by h = ap (λ z. of_z w32 (int_shr z by)) (to_z-neg w32 k h) ∙ omega arith

complement_bit : (k by i : ℕ) → k < 2 ^ 31 → i < 32 → (i + by < 32) ⊎ (32 ≤ i + by) → bit_at (bit_not w32 (k / 2 ^ by)) i ≡ bit_at (bit_not w32 k) (min (i + by) 31)
complement_bit k by i h lt (inl low) =
    let place : min (i + by) 31 ≡ i + by = omega arith in
    bit_at_not w32 (k / 2 ^ by) i (omega (arith, div-le_self k (2 ^ by))) lt
    ∙ ap (λ b. 1 - b) (bit_at-div k by i)
    ∙ sym (ap (bit_at (bit_not w32 k)) place ∙ bit_at_not w32 k (i + by) (omega arith) low)
complement_bit k by i h lt (inr high) =
    let place : min (i + by) 31 ≡ 31 = omega arith in
    bit_at_not w32 (k / 2 ^ by) i (omega (arith, div-le_self k (2 ^ by))) lt
    ∙ ap (λ b. 1 - b) (bit_at-div k by i ∙ bit_at_above k 31 (i + by) h (omega arith))
    ∙ sym (ap (bit_at (bit_not w32 k)) place ∙ bit_at_not w32 k 31 (omega arith) (omega arith) ∙ ap (λ b. 1 - b) (bit_at_above k 31 31 h (omega arith)))

shifted_bit : (a by i : ℕ) → a < 2 ^ 32 → i < 32 → (a < 2 ^ 31) ⊎ (2 ^ 31 ≤ a) → bit_at (shifted_right_signed a by) i ≡ bit_at a (min (i + by) 31)
shifted_bit a by i h lt (inl plain) = shifted_plain a by i plain ∙ plain_top a (i + by) plain (cases_lt (i + by) 32)
shifted_bit a by i h lt (inr signed) =
    let k : a ≡ 2 ^ 32 - suc (2 ^ 32 - 1 - a) = omega arith in
    let same : bit_not w32 (2 ^ 32 - 1 - a) ≡ a = omega arith in
    ap (λ n. bit_at (shifted_right_signed n by) i) k
    ∙ ap (λ n. bit_at n i) (shifted_complement (2 ^ 32 - 1 - a) by (omega arith))
    ∙ complement_bit (2 ^ 32 - 1 - a) by i (omega arith) lt (cases_lt (i + by) 32)
    ∙ ap (λ n. bit_at n (min (i + by) 31)) same

-- bit i comes from bit i + by, and from the sign above it
pub bit-shifted_right_signed : (a by i : ℕ) → a < 2 ^ 32 → i < 32 → has_bit (shifted_right_signed a by) i ≡ has_bit a (min (i + by) 31)
bit-shifted_right_signed a by i h lt = ap (λ b. b == 1) (shifted_bit a by i h lt (cases_lt a (2 ^ 31)))
