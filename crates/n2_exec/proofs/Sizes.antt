-- What is computed from words is a word.
use Rattle.std.proofs.Common.{ℕ, zero, suc, ◌-◌, ◌*◌, ◌/◌, ◌%◌, ◌^◌, ◌<◌, ◌≤◌, Bool, true, false, unsigned_abs, bit_and, ℤ, pos, negsuc, ◌*ℤ◌, neg_ℤ, int_div, FitsSigned, w32, w64, to_z, of_z, arith, rules}
use Rattle.std.specs.Int.{int_shr}
use Rattle.std.specs.Int.Signed.{mag, mag_shr}
use Rattle.std.proofs.Math.Nat.{mul-le-mul, div-le_self}
use Rattle.std.proofs.lemmas.Int.{fits_signed_mul}
use Rattle.std.proofs.lemmas.Nat.{or_of_32, xor_of_32, and_le_l}
use Rattle.std.proofs.lemmas.Bool.Decides.{nat_tests}
use Rattle.n2_word.specs.declared.Width.{Width}
use Rattle.n2_word.specs.declared.Width.TheVariants.{Byte, Half, Word}
use Rattle.n2_word.specs.Words.{signed_byte, signed_half}
use Rattle.n2_insn.specs.declared.ImmOp.{ImmOp}
use Rattle.n2_insn.specs.declared.ImmOp.TheVariants.{Addi, Muli, Andi, Ori, Xori, Andhi, Orhi, Xorhi, Cmpgei, Cmplti, Cmpnei, Cmpeqi, Cmpgeui, Cmpltui}
use Rattle.n2_insn.specs.declared.RegOp.{RegOp}
use Rattle.n2_insn.specs.declared.RegOp.TheVariants.{Add, Sub, Mul, Mulxuu, Mulxsu, Mulxss, Divu, Div, And, Or, Xor, Nor, Cmpge, Cmplt, Cmpne, Cmpeq, Cmpgeu, Cmpltu, Sll, Srl, Sra, Rol, Ror}
use Rattle.n2_insn.specs.declared.ShiftOp.{ShiftOp}
use Rattle.n2_insn.specs.declared.ShiftOp.TheVariants.{Slli, Srli, Srai, Roli}
use Rattle.n2_exec.specs.Outcomes.{loaded_value}
use Rattle.n2_exec.specs.Values.{truth, shifted_right, shifted_right_signed, imm_value, reg_value, shift_value}

small_truth : (b : Bool) → truth b < 2 ^ 32
small_truth true = omega arith
small_truth false = omega arith

small_and : (a b : ℕ) → a < 2 ^ 32 → bit_and a b < 2 ^ 32
small_and a b h = omega (arith, and_le_l a b)

pub fits : (a : ℕ) → a < 2 ^ 32 → FitsSigned w32 (to_z w32 a)
fits a h = search rules

small_bits : (z : ℤ) → FitsSigned w32 z → of_z w32 z < 2 ^ 32
small_bits z h = search rules

small_long_bits : (z : ℤ) → FitsSigned w64 z → of_z w64 z < 2 ^ 64
small_long_bits z h = search rules

small_shift : (a by : ℕ) → a < 2 ^ 32 → shifted_right_signed a by < 2 ^ 32
small_shift a by h = small_bits (int_shr (to_z w32 a) by) (record { sfits = omega (arith, mag_shr (to_z w32 a) (2 ^ by), (fits a h).sfits) })

abs_le : (z : ℤ) → mag z < 2 ^ 31 → unsigned_abs z ≤ 2 ^ 31
abs_le (pos n) h = omega arith
abs_le (negsuc n) h = omega arith

pub fits_signed : (a b : ℕ) → a < 2 ^ 32 → b < 2 ^ 32 → FitsSigned w64 (to_z w32 a *ℤ to_z w32 b)
fits_signed a b ha hb =
    fits_signed_mul w64 (to_z w32 a) (to_z w32 b) (2 ^ 31) (2 ^ 31) (abs_le (to_z w32 a) (fits a ha).sfits) (abs_le (to_z w32 b) (fits b hb).sfits) (omega arith)

pub fits_mixed : (a b : ℕ) → a < 2 ^ 32 → b < 2 ^ 32 → FitsSigned w64 (to_z w32 a *ℤ pos b)
fits_mixed a b ha hb = fits_signed_mul w64 (to_z w32 a) (pos b) (2 ^ 31) (2 ^ 32 - 1) (abs_le (to_z w32 a) (fits a ha).sfits) (omega arith) (omega arith)

small_mulxss : (a b : ℕ) → a < 2 ^ 32 → b < 2 ^ 32 → reg_value Mulxss a b < 2 ^ 32
small_mulxss a b ha hb = omega (arith, small_long_bits (to_z w32 a *ℤ to_z w32 b) (fits_signed a b ha hb))

small_mulxsu : (a b : ℕ) → a < 2 ^ 32 → b < 2 ^ 32 → reg_value Mulxsu a b < 2 ^ 32
small_mulxsu a b ha hb = omega (arith, small_long_bits (to_z w32 a *ℤ pos b) (fits_mixed a b ha hb))

small_mulxuu : (a b : ℕ) → a < 2 ^ 32 → b < 2 ^ 32 → a * b / 2 ^ 32 < 2 ^ 32
small_mulxuu a b ha hb = let h : a * b ≤ (2 ^ 32 - 1) * (2 ^ 32 - 1) = mul-le-mul {n₁ = a} {m₁ = b} {n₂ = 2 ^ 32 - 1} {m₂ = 2 ^ 32 - 1} (omega arith) (omega arith) in omega arith

small_quotient : (a b : ℕ) → a < 2 ^ 32 → a / b < 2 ^ 32
small_quotient a b h = omega (arith, div-le_self a b)

small_negative : (n : ℕ) → of_z w32 (neg_ℤ (pos n)) < 2 ^ 32
small_negative zero = omega arith
small_negative (suc n) = omega arith

small_div : (x y : ℤ) → mag x < 2 ^ 31 → of_z w32 (int_div x y) < 2 ^ 32
small_div (pos a) (pos b) h = small_quotient a b (omega arith)
small_div (pos a) (negsuc b) h = small_negative (a / suc b)
small_div (negsuc a) (pos b) h = small_negative (suc a / b)
small_div (negsuc a) (negsuc b) h = small_quotient (suc a) (suc b) (omega arith)

pub small_half : (imm : ℕ) → imm < 2 ^ 16 → signed_half imm < 2 ^ 32
small_half imm h = grind (arith, nat_tests)

small_byte : (byte : ℕ) → byte < 2 ^ 8 → signed_byte byte < 2 ^ 32
small_byte byte h = grind (arith, nat_tests)

pub small_imm : (op : ImmOp) (a imm : ℕ) → a < 2 ^ 32 → imm < 2 ^ 16 → imm_value op a imm < 2 ^ 32
small_imm Addi a imm h i = omega arith
small_imm Muli a imm h i = omega arith
small_imm Andi a imm h i = small_and a imm h
small_imm Ori a imm h i = or_of_32 a imm h (omega arith)
small_imm Xori a imm h i = xor_of_32 a imm h (omega arith)
small_imm Andhi a imm h i = small_and a _ h
small_imm Orhi a imm h i = or_of_32 a _ h (omega arith)
small_imm Xorhi a imm h i = xor_of_32 a _ h (omega arith)
small_imm Cmpgei a imm h i = small_truth _
small_imm Cmplti a imm h i = small_truth _
small_imm Cmpnei a imm h i = small_truth _
small_imm Cmpeqi a imm h i = small_truth _
small_imm Cmpgeui a imm h i = small_truth _
small_imm Cmpltui a imm h i = small_truth _

small_right : (a by : ℕ) → a < 2 ^ 32 → shifted_right a by < 2 ^ 32
small_right a by h = small_quotient a (2 ^ by) h

pub small_reg : (op : RegOp) (a b : ℕ) → a < 2 ^ 32 → b < 2 ^ 32 → reg_value op a b < 2 ^ 32
small_reg Add a b ha hb = omega arith
small_reg Sub a b ha hb = omega arith
small_reg Mul a b ha hb = omega arith
small_reg Mulxuu a b ha hb = small_mulxuu a b ha hb
small_reg Mulxsu a b ha hb = small_mulxsu a b ha hb
small_reg Mulxss a b ha hb = small_mulxss a b ha hb
small_reg Divu a b ha hb = small_quotient a b ha
small_reg Div a b ha hb = small_div (to_z w32 a) (to_z w32 b) (fits a ha).sfits
small_reg And a b ha hb = small_and a b ha
small_reg Or a b ha hb = or_of_32 a b ha hb
small_reg Xor a b ha hb = xor_of_32 a b ha hb
small_reg Nor a b ha hb = omega arith
small_reg Cmpge a b ha hb = small_truth _
small_reg Cmplt a b ha hb = small_truth _
small_reg Cmpne a b ha hb = small_truth _
small_reg Cmpeq a b ha hb = small_truth _
small_reg Cmpgeu a b ha hb = small_truth _
small_reg Cmpltu a b ha hb = small_truth _
small_reg Sll a b ha hb = omega arith
small_reg Srl a b ha hb = small_right a _ ha
small_reg Sra a b ha hb = small_shift a _ ha
small_reg Rol a b ha hb = or_of_32 _ _ (omega arith) (small_quotient a _ ha)
small_reg Ror a b ha hb = or_of_32 _ _ (small_quotient a _ ha) (omega arith)

pub small_shift_value : (op : ShiftOp) (a by : ℕ) → a < 2 ^ 32 → shift_value op a by < 2 ^ 32
small_shift_value Slli a by h = omega arith
small_shift_value Srli a by h = small_right a by h
small_shift_value Srai a by h = small_shift a by h
small_shift_value Roli a by h = or_of_32 _ _ (omega arith) (small_quotient a _ h)

pub small_extended : (width : Width) (signed : Bool) (value : ℕ) → loaded_value width signed value < 2 ^ 32
small_extended Byte true value = small_byte (value % 2 ^ 8) (omega arith)
small_extended Byte false value = omega arith
small_extended Half true value = small_half (value % 2 ^ 16) (omega arith)
small_extended Half false value = omega arith
small_extended Word signed value = omega arith
