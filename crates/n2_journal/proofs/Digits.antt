-- The digits of a word.
use Rattle.std.proofs.Common.{◌≡◌, ℕ, ◌%◌, ◌/◌, ◌^◌, refl, arith}
use Rattle.n2_text.specs.Fields.{word_text}

-- are those of its low 32 bits
pub low_word : (n : ℕ) → word_text (n % 2 ^ 32) ≡ word_text n
unfolding word_text
low_word n =
    let a : n % 2 ^ 32 / 2 ^ 28 % 16 ≡ n / 2 ^ 28 % 16 = omega arith in
    let b : n % 2 ^ 32 / 2 ^ 24 % 16 ≡ n / 2 ^ 24 % 16 = omega arith in
    let c : n % 2 ^ 32 / 2 ^ 20 % 16 ≡ n / 2 ^ 20 % 16 = omega arith in
    let d : n % 2 ^ 32 / 2 ^ 16 % 16 ≡ n / 2 ^ 16 % 16 = omega arith in
    let e : n % 2 ^ 32 / 2 ^ 12 % 16 ≡ n / 2 ^ 12 % 16 = omega arith in
    let f : n % 2 ^ 32 / 2 ^ 8 % 16 ≡ n / 2 ^ 8 % 16 = omega arith in
    let g : n % 2 ^ 32 / 2 ^ 4 % 16 ≡ n / 2 ^ 4 % 16 = omega arith in
    let h : n % 2 ^ 32 % 16 ≡ n % 16 = omega arith in
    rw (a, b, c, d, e, f, g, h) refl
