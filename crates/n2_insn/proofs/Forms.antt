-- The fields of a composed word.
use Rattle.std.proofs.Common.{◌≡◌, ℕ, ◌^◌, ◌<◌, arith}
use Rattle.n2_insn.specs.Fields.{IType, RType, op_of, opx_of, a_of, b_of, c_of, imm5_of, imm16_of, composed}

pub record HasIType (word a b imm16 op : ℕ) : Type 0 where
  pub op_is : op_of word ≡ op
  pub a_is : a_of word ≡ a
  pub b_is : b_of word ≡ b
  pub imm16_is : imm16_of word ≡ imm16

pub record HasRType (word a b c opx imm5 : ℕ) : Type 0 where
  pub op_is : op_of word ≡ 0x3a
  pub opx_is : opx_of word ≡ opx
  pub a_is : a_of word ≡ a
  pub b_is : b_of word ≡ b
  pub c_is : c_of word ≡ c
  pub imm5_is : imm5_of word ≡ imm5

pub i_type_fields : (a b imm16 op : ℕ) → a < 32 → b < 32 → imm16 < 2 ^ 16 → op < 64 → HasIType (composed (IType a b imm16 op)) a b imm16 op
i_type_fields a b imm16 op ha hb hi ho = record { op_is = omega arith; a_is = omega arith; b_is = omega arith; imm16_is = omega arith }

pub r_type_fields : (a b c opx imm5 : ℕ) → a < 32 → b < 32 → c < 32 → opx < 64 → imm5 < 32 → HasRType (composed (RType a b c opx imm5)) a b c opx imm5
r_type_fields a b c opx imm5 ha hb hc ho hi =
    record { op_is = omega arith; opx_is = omega arith; a_is = omega arith; b_is = omega arith; c_is = omega arith; imm5_is = omega arith }
