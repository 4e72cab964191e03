-- The three forms of an instruction word and their fields (Nios II Processor Reference Guide, "Instruction Set Reference", word formats).
use Rattle.std.specs.Prelude.{ℕ, ◌+◌, ◌*◌, ◌/◌, ◌%◌, ◌^◌}

-- a word's form with its fields: I-type, R-type (whose OP is 3a) and J-type
pub data Form : Type 0 where
  IType : (a b imm16 op : ℕ) → Form
  RType : (a b c opx imm5 : ℕ) → Form
  JType : (imm26 op : ℕ) → Form

-- OP, bits 5 to 0
abbrev pub op_of : ℕ → ℕ
op_of word = word % 2 ^ 6

-- OPX, bits 16 to 11
abbrev pub opx_of : ℕ → ℕ
opx_of word = word / 2 ^ 11 % 2 ^ 6

-- A, bits 31 to 27
abbrev pub a_of : ℕ → ℕ
a_of word = word / 2 ^ 27

-- B, bits 26 to 22
abbrev pub b_of : ℕ → ℕ
b_of word = word / 2 ^ 22 % 2 ^ 5

-- C, bits 21 to 17
abbrev pub c_of : ℕ → ℕ
c_of word = word / 2 ^ 17 % 2 ^ 5

-- IMM5, bits 10 to 6
abbrev pub imm5_of : ℕ → ℕ
imm5_of word = word / 2 ^ 6 % 2 ^ 5

-- IMM16, bits 21 to 6
abbrev pub imm16_of : ℕ → ℕ
imm16_of word = word / 2 ^ 6 % 2 ^ 16

-- IMM26, bits 31 to 6
abbrev pub imm26_of : ℕ → ℕ
imm26_of word = word / 2 ^ 6

-- the word of a form, its fields at their places and zeros elsewhere
abbrev pub composed : Form → ℕ
composed (IType a b imm16 op) = a * 2 ^ 27 + b * 2 ^ 22 + imm16 * 2 ^ 6 + op
composed (RType a b c opx imm5) = a * 2 ^ 27 + b * 2 ^ 22 + c * 2 ^ 17 + opx * 2 ^ 11 + imm5 * 2 ^ 6 + 0x3a
composed (JType imm26 op) = imm26 * 2 ^ 6 + op
