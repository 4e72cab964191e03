-- The names of instructions are read as themselves.
use Rattle.std.proofs.Common.{◌≡◌, ℕ, Bool, true, false, List, Option, Some, refl}
use Rattle.std.specs.List.{list_all}
use Rattle.n2_word.specs.declared.Width.{Width}
use Rattle.n2_word.specs.declared.Width.TheVariants as width
use Rattle.n2_insn.specs.declared.Insn.{Insn}
use Rattle.n2_insn.specs.declared.Insn.TheVariants as insn
use Rattle.n2_insn.specs.declared.JumpOp.{JumpOp}
use Rattle.n2_insn.specs.declared.JumpOp.TheVariants.{Call, Jmpi}
use Rattle.n2_insn.specs.declared.ImmOp.{ImmOp}
use Rattle.n2_insn.specs.declared.ImmOp.TheVariants.{Addi, Muli, Andi, Ori, Xori, Andhi, Orhi, Xorhi, Cmpgei, Cmplti, Cmpnei, Cmpeqi, Cmpgeui, Cmpltui}
use Rattle.n2_insn.specs.declared.BranchOp.{BranchOp}
use Rattle.n2_insn.specs.declared.BranchOp.TheVariants.{Bge, Blt, Bne, Beq, Bgeu, Bltu}
use Rattle.n2_insn.specs.declared.DataOp.{DataOp}
use Rattle.n2_insn.specs.declared.DataOp.TheVariants.{Initd, Initda, Flushd, Flushda}
use Rattle.n2_insn.specs.declared.CodeLineOp.{CodeLineOp}
use Rattle.n2_insn.specs.declared.CodeLineOp.TheVariants.{Flushi, Initi}
use Rattle.n2_insn.specs.declared.RegOp.{RegOp}
use Rattle.n2_insn.specs.declared.RegOp.TheVariants.{Add, Sub, Mul, Mulxuu, Mulxsu, Mulxss, Divu, Div, And, Or, Xor, Nor, Cmpge, Cmplt, Cmpne, Cmpeq, Cmpgeu, Cmpltu, Sll, Srl, Sra, Rol, Ror}
use Rattle.n2_insn.specs.declared.ShiftOp.{ShiftOp}
use Rattle.n2_insn.specs.declared.ShiftOp.TheVariants.{Slli, Srli, Srai, Roli}
use Rattle.n2_insn.specs.declared.LoadOp.{LoadOp}
use Rattle.n2_insn.specs.declared.LoadOp.TheVariants.{Ldbu, Ldb, Ldhu, Ldh, Ldw}
use Rattle.n2_source.specs.declared.mnemonics.Mnemonic.{Mnemonic}
use Rattle.n2_source.specs.declared.mnemonics.Mnemonic.TheVariants as name
use Rattle.n2_source.specs.Cursors.{is_word, starts_letter}
use Rattle.n2_source.specs.Mnemonics.{text_of, instruction_named}
use Rattle.n2_dis.specs.Texts.{mnemonic_of}

-- a name is letters, and the first statement of that name is the one that it names
pub record IsNamed (m : Mnemonic) : Type 0 where
  pub first : starts_letter (text_of m) ≡ true
  pub word : list_all is_word (text_of m) ≡ true
  pub found : instruction_named (text_of m) ≡ Some m

jump_named : (op : JumpOp) → IsNamed (name.Jump op)
unfolding instruction_named
jump_named Call = record { first = refl; word = refl; found = refl }
jump_named Jmpi = record { first = refl; word = refl; found = refl }

imm_named : (op : ImmOp) → IsNamed (name.Imm op)
unfolding instruction_named
imm_named Addi = record { first = refl; word = refl; found = refl }
imm_named Muli = record { first = refl; word = refl; found = refl }
imm_named Andi = record { first = refl; word = refl; found = refl }
imm_named Ori = record { first = refl; word = refl; found = refl }
imm_named Xori = record { first = refl; word = refl; found = refl }
imm_named Andhi = record { first = refl; word = refl; found = refl }
imm_named Orhi = record { first = refl; word = refl; found = refl }
imm_named Xorhi = record { first = refl; word = refl; found = refl }
imm_named Cmpgei = record { first = refl; word = refl; found = refl }
imm_named Cmplti = record { first = refl; word = refl; found = refl }
imm_named Cmpnei = record { first = refl; word = refl; found = refl }
imm_named Cmpeqi = record { first = refl; word = refl; found = refl }
imm_named Cmpgeui = record { first = refl; word = refl; found = refl }
imm_named Cmpltui = record { first = refl; word = refl; found = refl }

branch_named : (op : BranchOp) → IsNamed (name.Branch op)
unfolding instruction_named
branch_named Bge = record { first = refl; word = refl; found = refl }
branch_named Blt = record { first = refl; word = refl; found = refl }
branch_named Bne = record { first = refl; word = refl; found = refl }
branch_named Beq = record { first = refl; word = refl; found = refl }
branch_named Bgeu = record { first = refl; word = refl; found = refl }
branch_named Bltu = record { first = refl; word = refl; found = refl }

data_named : (op : DataOp) → IsNamed (name.Data op)
unfolding instruction_named
data_named Initd = record { first = refl; word = refl; found = refl }
data_named Initda = record { first = refl; word = refl; found = refl }
data_named Flushd = record { first = refl; word = refl; found = refl }
data_named Flushda = record { first = refl; word = refl; found = refl }

code_named : (op : CodeLineOp) → IsNamed (name.Code op)
unfolding instruction_named
code_named Flushi = record { first = refl; word = refl; found = refl }
code_named Initi = record { first = refl; word = refl; found = refl }

reg_named : (op : RegOp) → IsNamed (name.Reg op)
unfolding instruction_named
reg_named Add = record { first = refl; word = refl; found = refl }
reg_named Sub = record { first = refl; word = refl; found = refl }
reg_named Mul = record { first = refl; word = refl; found = refl }
reg_named Mulxuu = record { first = refl; word = refl; found = refl }
reg_named Mulxsu = record { first = refl; word = refl; found = refl }
reg_named Mulxss = record { first = refl; word = refl; found = refl }
reg_named Divu = record { first = refl; word = refl; found = refl }
reg_named Div = record { first = refl; word = refl; found = refl }
reg_named And = record { first = refl; word = refl; found = refl }
reg_named Or = record { first = refl; word = refl; found = refl }
reg_named Xor = record { first = refl; word = refl; found = refl }
reg_named Nor = record { first = refl; word = refl; found = refl }
reg_named Cmpge = record { first = refl; word = refl; found = refl }
reg_named Cmplt = record { first = refl; word = refl; found = refl }
reg_named Cmpne = record { first = refl; word = refl; found = refl }
reg_named Cmpeq = record { first = refl; word = refl; found = refl }
reg_named Cmpgeu = record { first = refl; word = refl; found = refl }
reg_named Cmpltu = record { first = refl; word = refl; found = refl }
reg_named Sll = record { first = refl; word = refl; found = refl }
reg_named Srl = record { first = refl; word = refl; found = refl }
reg_named Sra = record { first = refl; word = refl; found = refl }
reg_named Rol = record { first = refl; word = refl; found = refl }
reg_named Ror = record { first = refl; word = refl; found = refl }

shift_named : (op : ShiftOp) → IsNamed (name.Shift op)
unfolding instruction_named
shift_named Slli = record { first = refl; word = refl; found = refl }
shift_named Srli = record { first = refl; word = refl; found = refl }
shift_named Srai = record { first = refl; word = refl; found = refl }
shift_named Roli = record { first = refl; word = refl; found = refl }

load_named : (op : LoadOp) (io : Bool) → IsNamed (name.Load op io)
unfolding instruction_named
load_named Ldbu false = record { first = refl; word = refl; found = refl }
load_named Ldbu true = record { first = refl; word = refl; found = refl }
load_named Ldb false = record { first = refl; word = refl; found = refl }
load_named Ldb true = record { first = refl; word = refl; found = refl }
load_named Ldhu false = record { first = refl; word = refl; found = refl }
load_named Ldhu true = record { first = refl; word = refl; found = refl }
load_named Ldh false = record { first = refl; word = refl; found = refl }
load_named Ldh true = record { first = refl; word = refl; found = refl }
load_named Ldw false = record { first = refl; word = refl; found = refl }
load_named Ldw true = record { first = refl; word = refl; found = refl }

store_named : (w : Width) (io : Bool) → IsNamed (name.Store w io)
unfolding instruction_named
store_named width.Byte false = record { first = refl; word = refl; found = refl }
store_named width.Byte true = record { first = refl; word = refl; found = refl }
store_named width.Half false = record { first = refl; word = refl; found = refl }
store_named width.Half true = record { first = refl; word = refl; found = refl }
store_named width.Word false = record { first = refl; word = refl; found = refl }
store_named width.Word true = record { first = refl; word = refl; found = refl }

pub named : (i : Insn) → IsNamed (mnemonic_of i)
unfolding instruction_named
named (insn.Jump op target) = jump_named op
named (insn.Imm op a b imm) = imm_named op
named (insn.Br imm) = record { first = refl; word = refl; found = refl }
named (insn.Branch op a b imm) = branch_named op
named (insn.Load op io a b imm) = load_named op io
named (insn.Store w io a b imm) = store_named w io
named (insn.Data op a imm) = data_named op
named (insn.Code op a) = code_named op
named (insn.Reg op a b c) = reg_named op
named (insn.Shift op a c by) = shift_named op
named (insn.Jmp a) = record { first = refl; word = refl; found = refl }
named (insn.Callr a) = record { first = refl; word = refl; found = refl }
named insn.Ret = record { first = refl; word = refl; found = refl }
named insn.Eret = record { first = refl; word = refl; found = refl }
named (insn.Nextpc c) = record { first = refl; word = refl; found = refl }
named (insn.Rdctl c n) = record { first = refl; word = refl; found = refl }
named (insn.Wrctl n a) = record { first = refl; word = refl; found = refl }
named (insn.Trap imm) = record { first = refl; word = refl; found = refl }
named (insn.Break imm) = record { first = refl; word = refl; found = refl }
named insn.Flushp = record { first = refl; word = refl; found = refl }
named insn.Sync = record { first = refl; word = refl; found = refl }
