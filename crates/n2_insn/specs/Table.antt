-- The instruction table (Nios II Processor Reference Guide, "Instruction Set Reference" with "OP Encodings" and "OPX Encodings for R-Type Instructions").
use Rattle.std.specs.Prelude.{ℕ, ◌^◌, ◌==◌, ◌&&◌, ◌++◌, Bool, true, false, List, [], ◌∷◌, map, Option, find, nat_lt}
use Rattle.n2_word.specs.declared.Width.TheVariants.{Byte, Half, Word}
use Rattle.n2_insn.specs.declared.Insn.{Insn}
use Rattle.n2_insn.specs.declared.Insn.TheVariants.{Jump, Imm, Br, Branch, Load, Store, Data, Code, Reg, Shift, Jmp, Callr, Ret, Eret, Nextpc, Rdctl, Wrctl, Trap, Break, Flushp, Sync}
use Rattle.n2_insn.specs.declared.JumpOp.TheVariants.{Call, Jmpi}
use Rattle.n2_insn.specs.declared.ImmOp.TheVariants.{Addi, Muli, Andi, Ori, Xori, Andhi, Orhi, Xorhi, Cmpgei, Cmplti, Cmpnei, Cmpeqi, Cmpgeui, Cmpltui}
use Rattle.n2_insn.specs.declared.BranchOp.TheVariants.{Bge, Blt, Bne, Beq, Bgeu, Bltu}
use Rattle.n2_insn.specs.declared.LoadOp.TheVariants.{Ldbu, Ldb, Ldhu, Ldh, Ldw}
use Rattle.n2_insn.specs.declared.DataOp.TheVariants.{Initd, Initda, Flushd, Flushda}
use Rattle.n2_insn.specs.declared.CodeLineOp.TheVariants.{Flushi, Initi}
use Rattle.n2_insn.specs.declared.RegOp.TheVariants.{Add, Sub, Mul, Mulxuu, Mulxsu, Mulxss, Divu, Div, And, Or, Xor, Nor, Cmpge, Cmplt, Cmpne, Cmpeq, Cmpgeu, Cmpltu, Sll, Srl, Sra, Rol, Ror}
use Rattle.n2_insn.specs.declared.ShiftOp.TheVariants.{Slli, Srli, Srai, Roli}
use Rattle.n2_insn.specs.Fields.{Form, IType, RType, JType, op_of, opx_of, a_of, b_of, c_of, imm5_of, imm16_of, imm26_of, composed}

-- one row for each instruction: its name and fields, and the form of its word with its OP, or its OPX where OP is 3a
abbrev pub row : Insn → Form
row (Jump Call target) = JType target 0x00  -- call target
row (Jump Jmpi target) = JType target 0x01  -- jmpi target
row (Imm Addi a b imm) = IType a b imm 0x04  -- addi rB, rA, imm
row (Imm Muli a b imm) = IType a b imm 0x24  -- muli rB, rA, imm
row (Imm Andi a b imm) = IType a b imm 0x0c  -- andi rB, rA, imm
row (Imm Ori a b imm) = IType a b imm 0x14  -- ori rB, rA, imm
row (Imm Xori a b imm) = IType a b imm 0x1c  -- xori rB, rA, imm
row (Imm Andhi a b imm) = IType a b imm 0x2c  -- andhi rB, rA, imm
row (Imm Orhi a b imm) = IType a b imm 0x34  -- orhi rB, rA, imm
row (Imm Xorhi a b imm) = IType a b imm 0x3c  -- xorhi rB, rA, imm
row (Imm Cmpgei a b imm) = IType a b imm 0x08  -- cmpgei rB, rA, imm
row (Imm Cmplti a b imm) = IType a b imm 0x10  -- cmplti rB, rA, imm
row (Imm Cmpnei a b imm) = IType a b imm 0x18  -- cmpnei rB, rA, imm
row (Imm Cmpeqi a b imm) = IType a b imm 0x20  -- cmpeqi rB, rA, imm
row (Imm Cmpgeui a b imm) = IType a b imm 0x28  -- cmpgeui rB, rA, imm
row (Imm Cmpltui a b imm) = IType a b imm 0x30  -- cmpltui rB, rA, imm
row (Br imm) = IType 0 0 imm 0x06  -- br imm
row (Branch Bge a b imm) = IType a b imm 0x0e  -- bge rA, rB, imm
row (Branch Blt a b imm) = IType a b imm 0x16  -- blt rA, rB, imm
row (Branch Bne a b imm) = IType a b imm 0x1e  -- bne rA, rB, imm
row (Branch Beq a b imm) = IType a b imm 0x26  -- beq rA, rB, imm
row (Branch Bgeu a b imm) = IType a b imm 0x2e  -- bgeu rA, rB, imm
row (Branch Bltu a b imm) = IType a b imm 0x36  -- bltu rA, rB, imm
row (Load Ldbu false a b imm) = IType a b imm 0x03  -- ldbu rB, imm(rA)
row (Load Ldb false a b imm) = IType a b imm 0x07  -- ldb rB, imm(rA)
row (Load Ldhu false a b imm) = IType a b imm 0x0b  -- ldhu rB, imm(rA)
row (Load Ldh false a b imm) = IType a b imm 0x0f  -- ldh rB, imm(rA)
row (Load Ldw false a b imm) = IType a b imm 0x17  -- ldw rB, imm(rA)
row (Load Ldbu true a b imm) = IType a b imm 0x23  -- ldbuio rB, imm(rA)
row (Load Ldb true a b imm) = IType a b imm 0x27  -- ldbio rB, imm(rA)
row (Load Ldhu true a b imm) = IType a b imm 0x2b  -- ldhuio rB, imm(rA)
row (Load Ldh true a b imm) = IType a b imm 0x2f  -- ldhio rB, imm(rA)
row (Load Ldw true a b imm) = IType a b imm 0x37  -- ldwio rB, imm(rA)
row (Store Byte false a b imm) = IType a b imm 0x05  -- stb rB, imm(rA)
row (Store Half false a b imm) = IType a b imm 0x0d  -- sth rB, imm(rA)
row (Store Word false a b imm) = IType a b imm 0x15  -- stw rB, imm(rA)
row (Store Byte true a b imm) = IType a b imm 0x25  -- stbio rB, imm(rA)
row (Store Half true a b imm) = IType a b imm 0x2d  -- sthio rB, imm(rA)
row (Store Word true a b imm) = IType a b imm 0x35  -- stwio rB, imm(rA)
row (Data Initda a imm) = IType a 0 imm 0x13  -- initda imm(rA)
row (Data Initd a imm) = IType a 0 imm 0x33  -- initd imm(rA)
row (Data Flushda a imm) = IType a 0 imm 0x1b  -- flushda imm(rA)
row (Data Flushd a imm) = IType a 0 imm 0x3b  -- flushd imm(rA)
row (Reg Add a b c) = RType a b c 0x31 0  -- add rC, rA, rB
row (Reg Sub a b c) = RType a b c 0x39 0  -- sub rC, rA, rB
row (Reg Mul a b c) = RType a b c 0x27 0  -- mul rC, rA, rB
row (Reg Mulxuu a b c) = RType a b c 0x07 0  -- mulxuu rC, rA, rB
row (Reg Mulxsu a b c) = RType a b c 0x17 0  -- mulxsu rC, rA, rB
row (Reg Mulxss a b c) = RType a b c 0x1f 0  -- mulxss rC, rA, rB
row (Reg Divu a b c) = RType a b c 0x24 0  -- divu rC, rA, rB
row (Reg Div a b c) = RType a b c 0x25 0  -- div rC, rA, rB
row (Reg And a b c) = RType a b c 0x0e 0  -- and rC, rA, rB
row (Reg Or a b c) = RType a b c 0x16 0  -- or rC, rA, rB
row (Reg Xor a b c) = RType a b c 0x1e 0  -- xor rC, rA, rB
row (Reg Nor a b c) = RType a b c 0x06 0  -- nor rC, rA, rB
row (Reg Cmpge a b c) = RType a b c 0x08 0  -- cmpge rC, rA, rB
row (Reg Cmplt a b c) = RType a b c 0x10 0  -- cmplt rC, rA, rB
row (Reg Cmpne a b c) = RType a b c 0x18 0  -- cmpne rC, rA, rB
row (Reg Cmpeq a b c) = RType a b c 0x20 0  -- cmpeq rC, rA, rB
row (Reg Cmpgeu a b c) = RType a b c 0x28 0  -- cmpgeu rC, rA, rB
row (Reg Cmpltu a b c) = RType a b c 0x30 0  -- cmpltu rC, rA, rB
row (Reg Sll a b c) = RType a b c 0x13 0  -- sll rC, rA, rB
row (Reg Srl a b c) = RType a b c 0x1b 0  -- srl rC, rA, rB
row (Reg Sra a b c) = RType a b c 0x3b 0  -- sra rC, rA, rB
row (Reg Rol a b c) = RType a b c 0x03 0  -- rol rC, rA, rB
row (Reg Ror a b c) = RType a b c 0x0b 0  -- ror rC, rA, rB
row (Shift Slli a c by) = RType a 0 c 0x12 by  -- slli rC, rA, by
row (Shift Srli a c by) = RType a 0 c 0x1a by  -- srli rC, rA, by
row (Shift Srai a c by) = RType a 0 c 0x3a by  -- srai rC, rA, by
row (Shift Roli a c by) = RType a 0 c 0x02 by  -- roli rC, rA, by
row (Jmp a) = RType a 0 0 0x0d 0  -- jmp rA
row (Callr a) = RType a 0 31 0x1d 0  -- callr rA
row Ret = RType 31 0 0 0x05 0  -- ret
row Eret = RType 29 30 0 0x01 0  -- eret
row (Nextpc c) = RType 0 0 c 0x1c 0  -- nextpc rC
row (Rdctl c n) = RType 0 0 c 0x26 n  -- rdctl rC, ctlN
row (Wrctl n a) = RType a 0 0 0x2e n  -- wrctl ctlN, rA
row (Code Flushi a) = RType a 0 0 0x0c 0  -- flushi rA
row (Code Initi a) = RType a 0 0 0x29 0  -- initi rA
row (Trap imm) = RType 0 0 29 0x2d imm  -- trap imm
row (Break imm) = RType 0 0 30 0x34 imm  -- break imm
row Flushp = RType 0 0 0 0x04 0  -- flushp
row Sync = RType 0 0 0 0x36 0  -- sync

-- the instruction's word
unfoldable pub word_of : Insn → ℕ
word_of insn = composed (row insn)

-- whether a word has the OP, and with OP 3a the OPX, of a form
abbrev pub has_number : ℕ → Form → Bool
has_number word (IType a b imm16 op) = op_of word == op
has_number word (JType imm26 op) = op_of word == op
has_number word (RType a b c opx imm5) = op_of word == 0x3a && opx_of word == opx

-- every name of the table, with the fields of a word
abbrev pub instructions : ℕ → List Insn
instructions word =
    map (λ op. Jump op (imm26_of word)) (Call ∷ Jmpi ∷ [])
    ++ map (λ op. Imm op (a_of word) (b_of word) (imm16_of word)) (Addi ∷ Muli ∷ Andi ∷ Ori ∷ Xori ∷ Andhi ∷ Orhi ∷ Xorhi ∷ Cmpgei ∷ Cmplti ∷ Cmpnei ∷ Cmpeqi ∷ Cmpgeui ∷ Cmpltui ∷ [])
    ++ (Br (imm16_of word) ∷ [])
    ++ map (λ op. Branch op (a_of word) (b_of word) (imm16_of word)) (Bge ∷ Blt ∷ Bne ∷ Beq ∷ Bgeu ∷ Bltu ∷ [])
    ++ map (λ op. Load op false (a_of word) (b_of word) (imm16_of word)) (Ldbu ∷ Ldb ∷ Ldhu ∷ Ldh ∷ Ldw ∷ [])
    ++ map (λ op. Load op true (a_of word) (b_of word) (imm16_of word)) (Ldbu ∷ Ldb ∷ Ldhu ∷ Ldh ∷ Ldw ∷ [])
    ++ map (λ width. Store width false (a_of word) (b_of word) (imm16_of word)) (Byte ∷ Half ∷ Word ∷ [])
    ++ map (λ width. Store width true (a_of word) (b_of word) (imm16_of word)) (Byte ∷ Half ∷ Word ∷ [])
    ++ map (λ op. Data op (a_of word) (imm16_of word)) (Initd ∷ Initda ∷ Flushd ∷ Flushda ∷ [])
    ++ map (λ op. Reg op (a_of word) (b_of word) (c_of word)) (Add ∷ Sub ∷ Mul ∷ Mulxuu ∷ Mulxsu ∷ Mulxss ∷ Divu ∷ Div ∷ And ∷ Or ∷ Xor ∷ Nor ∷ Cmpge ∷ Cmplt ∷ Cmpne ∷ Cmpeq ∷ Cmpgeu ∷ Cmpltu ∷ Sll ∷ Srl ∷ Sra ∷ Rol ∷ Ror ∷ [])
    ++ map (λ op. Shift op (a_of word) (c_of word) (imm5_of word)) (Slli ∷ Srli ∷ Srai ∷ Roli ∷ [])
    ++ (Jmp (a_of word) ∷ Callr (a_of word) ∷ Ret ∷ Eret ∷ Nextpc (c_of word) ∷ [])
    ++ (Rdctl (c_of word) (imm5_of word) ∷ Wrctl (imm5_of word) (a_of word) ∷ [])
    ++ map (λ op. Code op (a_of word)) (Flushi ∷ Initi ∷ [])
    ++ (Trap (imm5_of word) ∷ Break (imm5_of word) ∷ Flushp ∷ Sync ∷ [])

-- the table's instruction for a word: the one whose number the word has; bits that are none of its fields do not count
unfoldable pub table_insn : ℕ → Option Insn
table_insn word = find (λ insn. has_number word (row insn)) (instructions word)

-- registers, shift amounts, control registers and the numbers of trap and break have 5 bits, a jump's target has 26
abbrev pub is_valid : Insn → Bool
is_valid (Jump op target) = nat_lt target (2 ^ 26)
is_valid (Imm op a b imm) = nat_lt a 32 && nat_lt b 32
is_valid (Br imm) = true
is_valid (Branch op a b imm) = nat_lt a 32 && nat_lt b 32
is_valid (Load op io a b imm) = nat_lt a 32 && nat_lt b 32
is_valid (Store width io a b imm) = nat_lt a 32 && nat_lt b 32
is_valid (Data op a imm) = nat_lt a 32
is_valid (Code op a) = nat_lt a 32
is_valid (Reg op a b c) = nat_lt a 32 && nat_lt b 32 && nat_lt c 32
is_valid (Shift op a c by) = nat_lt a 32 && nat_lt c 32 && nat_lt by 32
is_valid (Jmp a) = nat_lt a 32
is_valid (Callr a) = nat_lt a 32
is_valid Ret = true
is_valid Eret = true
is_valid (Nextpc c) = nat_lt c 32
is_valid (Rdctl c n) = nat_lt c 32 && nat_lt n 32
is_valid (Wrctl n a) = nat_lt n 32 && nat_lt a 32
is_valid (Trap imm) = nat_lt imm 32
is_valid (Break imm) = nat_lt imm 32
is_valid Flushp = true
is_valid Sync = true

-- an immediate of 16 bits is below 2^16, as its type says
abbrev pub has_half : Insn → Bool
has_half (Imm op a b imm) = nat_lt imm (2 ^ 16)
has_half (Br imm) = nat_lt imm (2 ^ 16)
has_half (Branch op a b imm) = nat_lt imm (2 ^ 16)
has_half (Load op io a b imm) = nat_lt imm (2 ^ 16)
has_half (Store width io a b imm) = nat_lt imm (2 ^ 16)
has_half (Data op a imm) = nat_lt imm (2 ^ 16)
has_half _ = true
