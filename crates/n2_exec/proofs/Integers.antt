-- Quotients and products of words as integers.
use Rattle.std.proofs.Common.{◌≡◌, ◌≢◌, ℕ, zero, suc, ◌+◌, ◌-◌, ◌*◌, ◌/◌, ◌%◌, ◌^◌, ◌<◌, ◌≤◌, ◌==◌, not, IsTrue, ◌⊎◌, inl, inr, refl, sym, ap, ◌∙◌, unsigned_abs, ℤ, pos, negsuc, ◌+ℤ◌, ◌*ℤ◌, neg_ℤ, ◌≤ℤ◌, int_div, int_rem, FitsSigned, w32, w64, to_z, of_z, arith}
use Rattle.std.proofs.Math.Facts.{to_z-neg}
use Rattle.std.proofs.Math.Nat.{add-mul, mul-add, mul_comm, mul-le-mul, mul-le-mul_left, div-le_self, div-mul-le_self}
use Rattle.std.proofs.lemmas.Bool.{cases_lt}
use Rattle.std.proofs.lemmas.Bool.Decides.{nat_tests}
use Rattle.std.proofs.lemmas.Int.{ints, to_z-of_z, of_z-to_z, to_z_pos, quot-rem, rem_below}
use Rattle.n2_insn.specs.declared.RegOp.TheVariants.{Divu, Div, Mul, Mulxuu, Mulxsu, Mulxss}
use Rattle.n2_insn.proofs.Bounds.{first}
use Rattle.n2_exec.specs.Values.{has_quotient, reg_value}
use Rattle.n2_exec.specs.Integers.{IsQuotient}
use Rattle.n2_exec.proofs.Sizes.{fits, fits_mixed, fits_signed}

some_divisor : (b : ℕ) → IsTrue (not (b == 0)) → 0 < b
some_divisor b h = grind (arith, nat_tests)

some_abs : (z : ℤ) → (z ≡ pos 0 → ⊥) → 0 < unsigned_abs z
some_abs (pos zero) h = absurd (h refl)
some_abs (pos (suc n)) h = omega arith
some_abs (negsuc n) h = omega arith

some_signed : (b : ℕ) → b < 2 ^ 32 → 0 < b → 0 < unsigned_abs (to_z w32 b)
some_signed b hb h = some_abs (to_z w32 b) (λ none. omega (arith, sym (of_z-to_z w32 b hb) ∙ ap (of_z w32) none))

allowed : (a b : ℕ) → a < 2 ^ 32 → b < 2 ^ 32 → IsTrue (has_quotient Div a b) → to_z w32 a ≡ negsuc (2 ^ 31 - 1) → to_z w32 b ≡ negsuc 0 → ⊥
allowed a b ha hb h top one =
    let least : a ≡ 0x8000_0000 = sym (of_z-to_z w32 a ha) ∙ ap (of_z w32) top in
    let minus : b ≡ 0xffff_ffff = sym (of_z-to_z w32 b hb) ∙ ap (of_z w32) one in
    grind (arith, nat_tests)

-- ---- quotients

rem_above : (x y : ℤ) → pos 0 ≤ℤ x → pos 0 ≤ℤ int_rem x y
rem_above (pos a) y h = omega (arith, ints)
rem_above (negsuc a) y h = absurd (omega (arith, ints))

rem_under : (x y : ℤ) → x ≤ℤ pos 0 → int_rem x y ≤ℤ pos 0
rem_under (pos a) y h = omega (arith, ints)
rem_under (negsuc a) y h = omega (arith, ints)

pub quotient : (x y : ℤ) → 0 < unsigned_abs y → IsQuotient x y (int_div x y)
quotient x y some = record { rest = int_rem x y; whole = quot-rem x y; small = rem_below x y some; above = rem_above x y; under = rem_under x y }

pub divu : (a b : ℕ) → IsTrue (has_quotient Divu a b) → IsQuotient (pos a) (pos b) (pos (reg_value Divu a b))
divu a b h = quotient (pos a) (pos b) (some_divisor b h)

-- -2^31 by -1 alone has a quotient that is no signed word
fits_negative : (n : ℕ) → n ≤ 2 ^ 31 → FitsSigned w32 (neg_ℤ (pos n))
fits_negative zero h = record { sfits = omega arith }
fits_negative (suc n) h = record { sfits = omega arith }

fits_whole : (a b : ℕ) → a < 2 ^ 31 → (a ≡ 2 ^ 31 - 1 → b ≡ 0 → ⊥) → FitsSigned w32 (pos (suc a / suc b))
fits_whole a zero h other =
    let less : a ≢ 2 ^ 31 - 1 = λ top. other top refl in
    record { sfits = omega (arith, div-le_self (suc a) 1) }
fits_whole a (suc b) h other =
    let twice : suc a / suc (suc b) * 2 ≤ suc a / suc (suc b) * suc (suc b) = mul-le-mul_left (suc a / suc (suc b)) (omega arith) in
    record { sfits = omega (arith, div-mul-le_self (suc a) (suc (suc b))) }

fits_quotient : (x y : ℤ) → FitsSigned w32 x → (x ≡ negsuc (2 ^ 31 - 1) → y ≡ negsuc 0 → ⊥) → FitsSigned w32 (int_div x y)
fits_quotient (pos a) (pos b) h other = record { sfits = omega (arith, div-le_self a b, h.sfits) }
fits_quotient (pos a) (negsuc b) h other = fits_negative (a / suc b) (omega (arith, div-le_self a (suc b), h.sfits))
fits_quotient (negsuc a) (pos b) h other = fits_negative (suc a / b) (omega (arith, div-le_self (suc a) b, h.sfits))
fits_quotient (negsuc a) (negsuc b) h other = fits_whole a b h.sfits (λ top one. other (ap negsuc top) (ap negsuc one))

pub div : (a b : ℕ) → a < 2 ^ 32 → b < 2 ^ 32 → IsTrue (has_quotient Div a b) → IsQuotient (to_z w32 a) (to_z w32 b) (to_z w32 (reg_value Div a b))
div a b ha hb h =
    let same : to_z w32 (reg_value Div a b) ≡ int_div (to_z w32 a) (to_z w32 b) =
    to_z-of_z w32 (int_div (to_z w32 a) (to_z w32 b)) (fits_quotient (to_z w32 a) (to_z w32 b) (fits a ha) (allowed a b ha hb h))
    in
    rw same (quotient (to_z w32 a) (to_z w32 b) (some_signed b hb (some_divisor b (first _ _ h))))

-- ---- products

pub mulxuu : (a b : ℕ) → reg_value Mulxuu a b * 2 ^ 32 + reg_value Mul a b ≡ a * b
mulxuu a b = omega arith

-- a long word is its upper half with its sign, and its lower half
halves : (z : ℤ) (low : ℕ) → FitsSigned w64 z → of_z w64 z % 2 ^ 32 ≡ low → to_z w32 (of_z w64 z / 2 ^ 32) *ℤ pos (2 ^ 32) +ℤ pos low ≡ z
halves (pos n) low h is =
    let upper : to_z w32 (n / 2 ^ 32) ≡ pos (n / 2 ^ 32) = to_z_pos w32 (n / 2 ^ 32) (omega (arith, h.sfits)) in
    rw upper (ap pos (omega arith))
halves (negsuc n) low h is =
    let part : (2 ^ 64 - suc n) / 2 ^ 32 ≡ 2 ^ 32 - suc (n / 2 ^ 32) = omega (arith, h.sfits) in
    let upper : to_z w32 ((2 ^ 64 - suc n) / 2 ^ 32) ≡ negsuc (n / 2 ^ 32) = ap (to_z w32) part ∙ to_z-neg w32 (n / 2 ^ 32) (omega (arith, h.sfits)) in
    rw upper (omega (arith, ints))

-- a word with its sign is the word, or the word less 2^32
data Read (a : ℕ) (z : ℤ) : Type 0 where
  plain : z ≡ pos a → Read a z
  signed : (k : ℕ) → z ≡ negsuc k → a + suc k ≡ 2 ^ 32 → Read a z

read_as : (a : ℕ) → a < 2 ^ 32 → (a < 2 ^ 31) ⊎ (2 ^ 31 ≤ a) → Read a (to_z w32 a)
read_as a h (inl low) = plain (to_z_pos w32 a low)
read_as a h (inr high) =
    let same : a ≡ 2 ^ 32 - suc (2 ^ 32 - 1 - a) = omega arith in
    signed (2 ^ 32 - 1 - a) (ap (to_z w32) same ∙ to_z-neg w32 (2 ^ 32 - 1 - a) (omega arith)) (omega arith)

-- the lower half of -p
low_negative : (p q n : ℕ) → p ≤ 2 ^ 64 → q + p ≡ 2 ^ 32 * n → of_z w64 (neg_ℤ (pos p)) % 2 ^ 32 ≡ q % 2 ^ 32
low_negative zero q n h e = omega arith
low_negative (suc p) q n h e = omega arith

small_product : (k b : ℕ) → k ≤ 2 ^ 32 → b ≤ 2 ^ 32 → k * b ≤ 2 ^ 64
small_product k b hk hb = let h : k * b ≤ 2 ^ 32 * 2 ^ 32 = mul-le-mul hk hb in omega arith

-- the lower half of a product is that of the words, whatever their signs
low_mixed_as : (a b : ℕ) (z : ℤ) → b < 2 ^ 32 → Read a z → of_z w64 (z *ℤ pos b) % 2 ^ 32 ≡ a * b % 2 ^ 32
low_mixed_as a b z hb (plain is) = ap (λ y. of_z w64 (y *ℤ pos b) % 2 ^ 32) is
low_mixed_as a b z hb (signed k is whole) =
    ap (λ y. of_z w64 (y *ℤ pos b) % 2 ^ 32) is
    ∙ low_negative (suc k * b) (a * b) b (small_product (suc k) b (omega arith) (omega arith)) (sym (add-mul a (suc k) b) ∙ ap (λ n. n * b) whole)

low_signed_as : (a b : ℕ) (x y : ℤ) → a < 2 ^ 32 → b < 2 ^ 32 → Read a x → Read b y → of_z w64 (x *ℤ y) % 2 ^ 32 ≡ a * b % 2 ^ 32
low_signed_as a b x y ha hb ra (plain is) = ap (λ w. of_z w64 (x *ℤ w) % 2 ^ 32) is ∙ low_mixed_as a b x hb ra
low_signed_as a b x y ha hb (plain is) (signed m is' whole) =
    rw (is, is')
    (low_negative (a * suc m) (a * b) a (small_product a (suc m) (omega arith) (omega arith)) (sym (mul-add a b (suc m)) ∙ ap (λ n. a * n) whole ∙ mul_comm a (2 ^ 32)))
low_signed_as a b x y ha hb (signed k is whole) (signed m is' whole') =
    let row : a * b + a * suc m ≡ 2 ^ 32 * a = sym (mul-add a b (suc m)) ∙ ap (λ n. a * n) whole' ∙ mul_comm a (2 ^ 32) in
    let column : a * suc m + suc k * suc m ≡ 2 ^ 32 * suc m = sym (add-mul a (suc k) (suc m)) ∙ ap (λ n. n * suc m) whole in
    rw (is, is') (omega arith)

low_mixed : (a b : ℕ) → a < 2 ^ 32 → b < 2 ^ 32 → of_z w64 (to_z w32 a *ℤ pos b) % 2 ^ 32 ≡ a * b % 2 ^ 32
low_mixed a b ha hb = low_mixed_as a b (to_z w32 a) hb (read_as a ha (cases_lt a (2 ^ 31)))

low_signed : (a b : ℕ) → a < 2 ^ 32 → b < 2 ^ 32 → of_z w64 (to_z w32 a *ℤ to_z w32 b) % 2 ^ 32 ≡ a * b % 2 ^ 32
low_signed a b ha hb =
    low_signed_as a b (to_z w32 a) (to_z w32 b) ha hb (read_as a ha (cases_lt a (2 ^ 31))) (read_as b hb (cases_lt b (2 ^ 31)))

pub mulxsu : (a b : ℕ) → a < 2 ^ 32 → b < 2 ^ 32 → to_z w32 (reg_value Mulxsu a b) *ℤ pos (2 ^ 32) +ℤ pos (reg_value Mul a b) ≡ to_z w32 a *ℤ pos b
mulxsu a b ha hb = halves (to_z w32 a *ℤ pos b) (a * b % 2 ^ 32) (fits_mixed a b ha hb) (low_mixed a b ha hb)

pub mulxss : (a b : ℕ) → a < 2 ^ 32 → b < 2 ^ 32 → to_z w32 (reg_value Mulxss a b) *ℤ pos (2 ^ 32) +ℤ pos (reg_value Mul a b) ≡ to_z w32 a *ℤ to_z w32 b
mulxss a b ha hb = halves (to_z w32 a *ℤ to_z w32 b) (a * b % 2 ^ 32) (fits_signed a b ha hb) (low_signed a b ha hb)
