-- What the instructions compute (Nios II Processor Reference Guide, "Instruction Set Reference").
use Rattle.std.specs.Prelude.{ℕ, ◌+◌, ◌-◌, ◌*◌, ◌/◌, ◌%◌, ◌^◌, ◌==◌, ◌&&◌, Bool, true, not, nat_lt, nat_le, bit_and, bit_or, bit_xor, pos, ◌*ℤ◌, int_div, int_lt, int_le, if◌then◌else◌}
use Rattle.std.specs.Int.{w32, w64, cast_signed, cast_unsigned, int_shr, rotate_left, rotate_right}
use Rattle.n2_word.specs.Words.{signed_half}
use Rattle.n2_insn.specs.declared.ImmOp.{ImmOp}
use Rattle.n2_insn.specs.declared.ImmOp.TheVariants.{Addi, Muli, Andi, Ori, Xori, Andhi, Orhi, Xorhi, Cmpgei, Cmplti, Cmpnei, Cmpeqi, Cmpgeui, Cmpltui}
use Rattle.n2_insn.specs.declared.BranchOp.{BranchOp}
use Rattle.n2_insn.specs.declared.BranchOp.TheVariants.{Bge, Blt, Bne, Beq, Bgeu, Bltu}
use Rattle.n2_insn.specs.declared.RegOp.{RegOp}
use Rattle.n2_insn.specs.declared.RegOp.TheVariants.{Add, Sub, Mul, Mulxuu, Mulxsu, Mulxss, Divu, Div, And, Or, Xor, Nor, Cmpge, Cmplt, Cmpne, Cmpeq, Cmpgeu, Cmpltu, Sll, Srl, Sra, Rol, Ror}
use Rattle.n2_insn.specs.declared.ShiftOp.{ShiftOp}
use Rattle.n2_insn.specs.declared.ShiftOp.TheVariants.{Slli, Srli, Srai, Roli}

-- a comparison gives 1 or 0
abbrev pub truth : Bool → ℕ
truth holds = if holds then 1 else 0

-- a is below b as signed words
abbrev pub signed_lt : ℕ → ℕ → Bool
signed_lt a b = int_lt (cast_signed w32 a) (cast_signed w32 b)

-- a is at most b as signed words
abbrev pub signed_le : ℕ → ℕ → Bool
signed_le a b = int_le (cast_signed w32 a) (cast_signed w32 b)

-- shifted to the left, zeros behind
abbrev pub shifted_left : ℕ → ℕ → ℕ
shifted_left a by = a * 2 ^ by % 2 ^ 32

-- shifted to the right, zeros in front
abbrev pub shifted_right : ℕ → ℕ → ℕ
shifted_right a by = a / 2 ^ by

-- shifted to the right, copies of the sign in front
abbrev pub shifted_right_signed : ℕ → ℕ → ℕ
shifted_right_signed a by = cast_unsigned w32 (int_shr (cast_signed w32 a) by)

-- rB of an instruction with an immediate, by rA and the immediate
abbrev pub imm_value : ImmOp → ℕ → ℕ → ℕ
imm_value Addi a imm = (a + signed_half imm) % 2 ^ 32
imm_value Muli a imm = a * signed_half imm % 2 ^ 32
imm_value Andi a imm = bit_and a imm
imm_value Ori a imm = bit_or a imm
imm_value Xori a imm = bit_xor a imm
imm_value Andhi a imm = bit_and a (imm * 2 ^ 16)
imm_value Orhi a imm = bit_or a (imm * 2 ^ 16)
imm_value Xorhi a imm = bit_xor a (imm * 2 ^ 16)
imm_value Cmpgei a imm = truth (signed_le (signed_half imm) a)
imm_value Cmplti a imm = truth (signed_lt a (signed_half imm))
imm_value Cmpnei a imm = truth (not (a == signed_half imm))
imm_value Cmpeqi a imm = truth (a == signed_half imm)
imm_value Cmpgeui a imm = truth (nat_le imm a)
imm_value Cmpltui a imm = truth (nat_lt a imm)

-- whether a branch is taken, by rA and rB
abbrev pub is_taken : BranchOp → ℕ → ℕ → Bool
is_taken Bge a b = signed_le b a
is_taken Blt a b = signed_lt a b
is_taken Bne a b = not (a == b)
is_taken Beq a b = a == b
is_taken Bgeu a b = nat_le b a
is_taken Bltu a b = nat_lt a b

-- whether there is a quotient: there is none of a division by 0, nor of the signed division of -2^31 by -1
abbrev pub has_quotient : RegOp → ℕ → ℕ → Bool
has_quotient Divu a b = not (b == 0)
has_quotient Div a b = not (b == 0) && not (a == 0x8000_0000 && b == 0xffff_ffff)
has_quotient _ a b = true

-- rC of an instruction with three registers, by rA and rB
abbrev pub reg_value : RegOp → ℕ → ℕ → ℕ
reg_value Add a b = (a + b) % 2 ^ 32
reg_value Sub a b = (a + (2 ^ 32 - b)) % 2 ^ 32
reg_value Mul a b = a * b % 2 ^ 32
reg_value Mulxuu a b = a * b / 2 ^ 32
reg_value Mulxsu a b = cast_unsigned w64 (cast_signed w32 a *ℤ pos b) / 2 ^ 32
reg_value Mulxss a b = cast_unsigned w64 (cast_signed w32 a *ℤ cast_signed w32 b) / 2 ^ 32
reg_value Divu a b = a / b
reg_value Div a b = cast_unsigned w32 (int_div (cast_signed w32 a) (cast_signed w32 b))
reg_value And a b = bit_and a b
reg_value Or a b = bit_or a b
reg_value Xor a b = bit_xor a b
reg_value Nor a b = 2 ^ 32 - 1 - bit_or a b
reg_value Cmpge a b = truth (signed_le b a)
reg_value Cmplt a b = truth (signed_lt a b)
reg_value Cmpne a b = truth (not (a == b))
reg_value Cmpeq a b = truth (a == b)
reg_value Cmpgeu a b = truth (nat_le b a)
reg_value Cmpltu a b = truth (nat_lt a b)
reg_value Sll a b = shifted_left a (b % 32)
reg_value Srl a b = shifted_right a (b % 32)
reg_value Sra a b = shifted_right_signed a (b % 32)
reg_value Rol a b = rotate_left w32 a (b % 32)
reg_value Ror a b = rotate_right w32 a (b % 32)

-- rC of a shift by a number of bits below 32
abbrev pub shift_value : ShiftOp → ℕ → ℕ → ℕ
shift_value Slli a by = shifted_left a by
shift_value Srli a by = shifted_right a by
shift_value Srai a by = shifted_right_signed a by
shift_value Roli a by = rotate_left w32 a by
