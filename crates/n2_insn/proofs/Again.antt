-- The word of each instruction stands for it.
use Rattle.std.proofs.Common.{◌≡◌, ◌==◌, ◌&&◌, ◌^◌, ◌<◌, ℕ, Bool, true, false, Option, Some, find, nat_lt, IsTrue, refl, ap, ◌∙◌, arith}
use Rattle.n2_word.specs.declared.Width.TheVariants.{Byte, Half, Word}
use Rattle.n2_insn.specs.declared.Insn.{Insn}
use Rattle.n2_insn.specs.declared.Insn.TheVariants.{Jump, Imm, Br, Branch, Load, Store, Data, Code, Reg, Shift, Jmp, Callr, Ret, Eret, Nextpc, Rdctl, Wrctl, Trap, Break, Flushp, Sync}
use Rattle.n2_insn.specs.declared.JumpOp.TheVariants.{Call, Jmpi}
use Rattle.n2_insn.specs.declared.ImmOp.TheVariants.{Addi, Muli, Andi, Ori, Xori, Andhi, Orhi, Xorhi, Cmpgei, Cmplti, Cmpnei, Cmpeqi, Cmpgeui, Cmpltui}
use Rattle.n2_insn.specs.declared.BranchOp.TheVariants.{Bge, Blt, Bne, Beq, Bgeu, Bltu}
use Rattle.n2_insn.specs.declared.LoadOp.TheVariants.{Ldbu, Ldb, Ldhu, Ldh, Ldw}
use Rattle.n2_insn.specs.declared.DataOp.TheVariants.{Initd, Initda, Flushd, Flushda}
use Rattle.n2_insn.specs.declared.CodeLineOp.TheVariants.{Flushi, Initi}
use Rattle.n2_insn.specs.declared.RegOp.TheVariants.{Add, Sub, Mul, Mulxuu, Mulxsu, Mulxss, Divu, Div, And, Or, Xor, Nor, Cmpge, Cmplt, Cmpne, Cmpeq, Cmpgeu, Cmpltu, Sll, Srl, Sra, Rol, Ror}
use Rattle.n2_insn.specs.declared.ShiftOp.TheVariants.{Slli, Srli, Srai, Roli}
use Rattle.n2_insn.specs.Fields.{Form, IType, RType, JType, op_of, opx_of, a_of, b_of, c_of, imm5_of, imm16_of, imm26_of, composed}
use Rattle.n2_insn.specs.Table.{row, word_of, instructions, table_insn, is_valid, has_half}
use Rattle.n2_insn.proofs.Bounds.{below, first, second}
use Rattle.n2_insn.proofs.Forms.{HasIType, HasRType, i_type_fields, r_type_fields}

-- whether a form has these numbers
abbrev pub numbered : ℕ → ℕ → Form → Bool
numbered op opx (IType a b imm16 op') = op == op'
numbered op opx (JType imm26 op') = op == op'
numbered op opx (RType a b c opx' imm5) = op == 0x3a && opx == opx'

-- the instruction with these numbers and the fields of a word
abbrev pub numbered_insn : ℕ → ℕ → ℕ → Option Insn
numbered_insn op opx word = find (λ insn. numbered op opx (row insn)) (instructions word)

by_numbers : (word op opx : ℕ) (insn : Insn) → op_of word ≡ op → opx_of word ≡ opx → numbered_insn op opx word ≡ Some insn → table_insn word ≡ Some insn
unfolding table_insn
by_numbers word op opx insn p q e =
    ap (λ n. numbered_insn n (opx_of word) word) p ∙ ap (λ n. numbered_insn op n word) q ∙ e

i_row : (n : ℕ) (make : ℕ → ℕ → ℕ → Insn) (a b imm : ℕ) → n < 64 → a < 32 → b < 32 → imm < 2 ^ 16 → ((word opx : ℕ) → numbered_insn n opx word ≡ Some (make (a_of word) (b_of word) (imm16_of word))) → table_insn (composed (IType a b imm n)) ≡ Some (make a b imm)
i_row n make a b imm hn ha hb hi found =
    let word : ℕ = composed (IType a b imm n) in
    let f : HasIType word a b imm n = i_type_fields a b imm n ha hb hi hn in
    by_numbers word n (opx_of word) (make a b imm) f.op_is refl
    (found word (opx_of word)
    ∙ ap (λ x. Some (make x (b_of word) (imm16_of word))) f.a_is
    ∙ ap (λ x. Some (make a x (imm16_of word))) f.b_is
    ∙ ap (λ x. Some (make a b x)) f.imm16_is)

r_row : (n : ℕ) (make : ℕ → ℕ → ℕ → ℕ → Insn) (a b c by : ℕ) → n < 64 → a < 32 → b < 32 → c < 32 → by < 32 → ((word : ℕ) → numbered_insn 0x3a n word ≡ Some (make (a_of word) (b_of word) (c_of word) (imm5_of word))) → table_insn (composed (RType a b c n by)) ≡ Some (make a b c by)
r_row n make a b c by hn ha hb hc hi found =
    let word : ℕ = composed (RType a b c n by) in
    let f : HasRType word a b c n by = r_type_fields a b c n by ha hb hc hn hi in
    by_numbers word 0x3a n (make a b c by) f.op_is f.opx_is
    (found word
    ∙ ap (λ x. Some (make x (b_of word) (c_of word) (imm5_of word))) f.a_is
    ∙ ap (λ x. Some (make a x (c_of word) (imm5_of word))) f.b_is
    ∙ ap (λ x. Some (make a b x (imm5_of word))) f.c_is
    ∙ ap (λ x. Some (make a b c x)) f.imm5_is)

j_row : (n : ℕ) (make : ℕ → Insn) (target : ℕ) → n < 64 → ((word opx : ℕ) → numbered_insn n opx word ≡ Some (make (imm26_of word))) → table_insn (composed (JType target n)) ≡ Some (make target)
j_row n make target hn found =
    let word : ℕ = composed (JType target n) in
    let op_is : op_of word ≡ n = omega arith in
    let target_is : imm26_of word ≡ target = omega arith in
    by_numbers word n (opx_of word) (make target) op_is refl (found word (opx_of word) ∙ ap (λ x. Some (make x)) target_is)

-- the rows of two registers and an immediate
abbrev i_two : (n : ℕ) (make : ℕ → ℕ → ℕ → Insn) (a b imm : ℕ) → n < 64 → IsTrue (nat_lt a 32 && nat_lt b 32) → IsTrue (nat_lt imm (2 ^ 16)) → ((word opx : ℕ) → numbered_insn n opx word ≡ Some (make (a_of word) (b_of word) (imm16_of word))) → table_insn (composed (IType a b imm n)) ≡ Some (make a b imm)
i_two n make a b imm hn v h = i_row n make a b imm hn (below a 32 (first _ _ v)) (below b 32 (second (nat_lt a 32) _ v)) (below imm (2 ^ 16) h)

-- the rows of three registers
abbrev r_three : (n : ℕ) (make : ℕ → ℕ → ℕ → Insn) (a b c : ℕ) → n < 64 → IsTrue (nat_lt a 32 && nat_lt b 32 && nat_lt c 32) → ((word : ℕ) → numbered_insn 0x3a n word ≡ Some (make (a_of word) (b_of word) (c_of word))) → table_insn (composed (RType a b c n 0)) ≡ Some (make a b c)
r_three n make a b c hn v =
    let ab : IsTrue (nat_lt a 32 && nat_lt b 32) = first _ _ v in
    r_row n (λ a b c by. make a b c) a b c 0 hn (below a 32 (first _ _ ab)) (below b 32 (second (nat_lt a 32) _ ab)) (below c 32 (second (nat_lt a 32 && nat_lt b 32) _ v)) (omega arith)

-- the rows of two registers and a shift amount
abbrev r_shift : (n : ℕ) (make : ℕ → ℕ → ℕ → Insn) (a c by : ℕ) → n < 64 → IsTrue (nat_lt a 32 && nat_lt c 32 && nat_lt by 32) → ((word : ℕ) → numbered_insn 0x3a n word ≡ Some (make (a_of word) (c_of word) (imm5_of word))) → table_insn (composed (RType a 0 c n by)) ≡ Some (make a c by)
r_shift n make a c by hn v =
    let ac : IsTrue (nat_lt a 32 && nat_lt c 32) = first _ _ v in
    r_row n (λ a b c by. make a c by) a 0 c by hn (below a 32 (first _ _ ac)) (omega arith) (below c 32 (second (nat_lt a 32) _ ac)) (below by 32 (second (nat_lt a 32 && nat_lt c 32) _ v))

-- the word of each valid instruction stands for it
pub again : (insn : Insn) → IsTrue (is_valid insn) → IsTrue (has_half insn) → table_insn (word_of insn) ≡ Some insn
unfolding word_of
again (Jump Call target) v h = j_row 0x00 (Jump Call) target (omega arith) (λ word opx. refl)
again (Jump Jmpi target) v h = j_row 0x01 (Jump Jmpi) target (omega arith) (λ word opx. refl)
again (Imm Addi a b imm) v h = i_two 0x04 (Imm Addi) a b imm (omega arith) v h (λ word opx. refl)
again (Imm Muli a b imm) v h = i_two 0x24 (Imm Muli) a b imm (omega arith) v h (λ word opx. refl)
again (Imm Andi a b imm) v h = i_two 0x0c (Imm Andi) a b imm (omega arith) v h (λ word opx. refl)
again (Imm Ori a b imm) v h = i_two 0x14 (Imm Ori) a b imm (omega arith) v h (λ word opx. refl)
again (Imm Xori a b imm) v h = i_two 0x1c (Imm Xori) a b imm (omega arith) v h (λ word opx. refl)
again (Imm Andhi a b imm) v h = i_two 0x2c (Imm Andhi) a b imm (omega arith) v h (λ word opx. refl)
again (Imm Orhi a b imm) v h = i_two 0x34 (Imm Orhi) a b imm (omega arith) v h (λ word opx. refl)
again (Imm Xorhi a b imm) v h = i_two 0x3c (Imm Xorhi) a b imm (omega arith) v h (λ word opx. refl)
again (Imm Cmpgei a b imm) v h = i_two 0x08 (Imm Cmpgei) a b imm (omega arith) v h (λ word opx. refl)
again (Imm Cmplti a b imm) v h = i_two 0x10 (Imm Cmplti) a b imm (omega arith) v h (λ word opx. refl)
again (Imm Cmpnei a b imm) v h = i_two 0x18 (Imm Cmpnei) a b imm (omega arith) v h (λ word opx. refl)
again (Imm Cmpeqi a b imm) v h = i_two 0x20 (Imm Cmpeqi) a b imm (omega arith) v h (λ word opx. refl)
again (Imm Cmpgeui a b imm) v h = i_two 0x28 (Imm Cmpgeui) a b imm (omega arith) v h (λ word opx. refl)
again (Imm Cmpltui a b imm) v h = i_two 0x30 (Imm Cmpltui) a b imm (omega arith) v h (λ word opx. refl)
again (Br imm) v h = i_row 0x06 (λ a b imm. Br imm) 0 0 imm (omega arith) (omega arith) (omega arith) (below imm (2 ^ 16) h) (λ word opx. refl)
again (Branch Bge a b imm) v h = i_two 0x0e (Branch Bge) a b imm (omega arith) v h (λ word opx. refl)
again (Branch Blt a b imm) v h = i_two 0x16 (Branch Blt) a b imm (omega arith) v h (λ word opx. refl)
again (Branch Bne a b imm) v h = i_two 0x1e (Branch Bne) a b imm (omega arith) v h (λ word opx. refl)
again (Branch Beq a b imm) v h = i_two 0x26 (Branch Beq) a b imm (omega arith) v h (λ word opx. refl)
again (Branch Bgeu a b imm) v h = i_two 0x2e (Branch Bgeu) a b imm (omega arith) v h (λ word opx. refl)
again (Branch Bltu a b imm) v h = i_two 0x36 (Branch Bltu) a b imm (omega arith) v h (λ word opx. refl)
again (Load Ldbu false a b imm) v h = i_two 0x03 (Load Ldbu false) a b imm (omega arith) v h (λ word opx. refl)
again (Load Ldbu true a b imm) v h = i_two 0x23 (Load Ldbu true) a b imm (omega arith) v h (λ word opx. refl)
again (Load Ldb false a b imm) v h = i_two 0x07 (Load Ldb false) a b imm (omega arith) v h (λ word opx. refl)
again (Load Ldb true a b imm) v h = i_two 0x27 (Load Ldb true) a b imm (omega arith) v h (λ word opx. refl)
again (Load Ldhu false a b imm) v h = i_two 0x0b (Load Ldhu false) a b imm (omega arith) v h (λ word opx. refl)
again (Load Ldhu true a b imm) v h = i_two 0x2b (Load Ldhu true) a b imm (omega arith) v h (λ word opx. refl)
again (Load Ldh false a b imm) v h = i_two 0x0f (Load Ldh false) a b imm (omega arith) v h (λ word opx. refl)
again (Load Ldh true a b imm) v h = i_two 0x2f (Load Ldh true) a b imm (omega arith) v h (λ word opx. refl)
again (Load Ldw false a b imm) v h = i_two 0x17 (Load Ldw false) a b imm (omega arith) v h (λ word opx. refl)
again (Load Ldw true a b imm) v h = i_two 0x37 (Load Ldw true) a b imm (omega arith) v h (λ word opx. refl)
again (Store Byte false a b imm) v h = i_two 0x05 (Store Byte false) a b imm (omega arith) v h (λ word opx. refl)
again (Store Byte true a b imm) v h = i_two 0x25 (Store Byte true) a b imm (omega arith) v h (λ word opx. refl)
again (Store Half false a b imm) v h = i_two 0x0d (Store Half false) a b imm (omega arith) v h (λ word opx. refl)
again (Store Half true a b imm) v h = i_two 0x2d (Store Half true) a b imm (omega arith) v h (λ word opx. refl)
again (Store Word false a b imm) v h = i_two 0x15 (Store Word false) a b imm (omega arith) v h (λ word opx. refl)
again (Store Word true a b imm) v h = i_two 0x35 (Store Word true) a b imm (omega arith) v h (λ word opx. refl)
again (Data Initda a imm) v h = i_row 0x13 (λ a b imm. Data Initda a imm) a 0 imm (omega arith) (below a 32 v) (omega arith) (below imm (2 ^ 16) h) (λ word opx. refl)
again (Data Initd a imm) v h = i_row 0x33 (λ a b imm. Data Initd a imm) a 0 imm (omega arith) (below a 32 v) (omega arith) (below imm (2 ^ 16) h) (λ word opx. refl)
again (Data Flushda a imm) v h = i_row 0x1b (λ a b imm. Data Flushda a imm) a 0 imm (omega arith) (below a 32 v) (omega arith) (below imm (2 ^ 16) h) (λ word opx. refl)
again (Data Flushd a imm) v h = i_row 0x3b (λ a b imm. Data Flushd a imm) a 0 imm (omega arith) (below a 32 v) (omega arith) (below imm (2 ^ 16) h) (λ word opx. refl)
again (Reg Add a b c) v h = r_three 0x31 (Reg Add) a b c (omega arith) v (λ word. refl)
again (Reg Sub a b c) v h = r_three 0x39 (Reg Sub) a b c (omega arith) v (λ word. refl)
again (Reg Mul a b c) v h = r_three 0x27 (Reg Mul) a b c (omega arith) v (λ word. refl)
again (Reg Mulxuu a b c) v h = r_three 0x07 (Reg Mulxuu) a b c (omega arith) v (λ word. refl)
again (Reg Mulxsu a b c) v h = r_three 0x17 (Reg Mulxsu) a b c (omega arith) v (λ word. refl)
again (Reg Mulxss a b c) v h = r_three 0x1f (Reg Mulxss) a b c (omega arith) v (λ word. refl)
again (Reg Divu a b c) v h = r_three 0x24 (Reg Divu) a b c (omega arith) v (λ word. refl)
again (Reg Div a b c) v h = r_three 0x25 (Reg Div) a b c (omega arith) v (λ word. refl)
again (Reg And a b c) v h = r_three 0x0e (Reg And) a b c (omega arith) v (λ word. refl)
again (Reg Or a b c) v h = r_three 0x16 (Reg Or) a b c (omega arith) v (λ word. refl)
again (Reg Xor a b c) v h = r_three 0x1e (Reg Xor) a b c (omega arith) v (λ word. refl)
again (Reg Nor a b c) v h = r_three 0x06 (Reg Nor) a b c (omega arith) v (λ word. refl)
again (Reg Cmpge a b c) v h = r_three 0x08 (Reg Cmpge) a b c (omega arith) v (λ word. refl)
again (Reg Cmplt a b c) v h = r_three 0x10 (Reg Cmplt) a b c (omega arith) v (λ word. refl)
again (Reg Cmpne a b c) v h = r_three 0x18 (Reg Cmpne) a b c (omega arith) v (λ word. refl)
again (Reg Cmpeq a b c) v h = r_three 0x20 (Reg Cmpeq) a b c (omega arith) v (λ word. refl)
again (Reg Cmpgeu a b c) v h = r_three 0x28 (Reg Cmpgeu) a b c (omega arith) v (λ word. refl)
again (Reg Cmpltu a b c) v h = r_three 0x30 (Reg Cmpltu) a b c (omega arith) v (λ word. refl)
again (Reg Sll a b c) v h = r_three 0x13 (Reg Sll) a b c (omega arith) v (λ word. refl)
again (Reg Srl a b c) v h = r_three 0x1b (Reg Srl) a b c (omega arith) v (λ word. refl)
again (Reg Sra a b c) v h = r_three 0x3b (Reg Sra) a b c (omega arith) v (λ word. refl)
again (Reg Rol a b c) v h = r_three 0x03 (Reg Rol) a b c (omega arith) v (λ word. refl)
again (Reg Ror a b c) v h = r_three 0x0b (Reg Ror) a b c (omega arith) v (λ word. refl)
again (Shift Slli a c by) v h = r_shift 0x12 (Shift Slli) a c by (omega arith) v (λ word. refl)
again (Shift Srli a c by) v h = r_shift 0x1a (Shift Srli) a c by (omega arith) v (λ word. refl)
again (Shift Srai a c by) v h = r_shift 0x3a (Shift Srai) a c by (omega arith) v (λ word. refl)
again (Shift Roli a c by) v h = r_shift 0x02 (Shift Roli) a c by (omega arith) v (λ word. refl)
again (Jmp a) v h = r_row 0x0d (λ a b c by. Jmp a) a 0 0 0 (omega arith) (below a 32 v) (omega arith) (omega arith) (omega arith) (λ word. refl)
again (Callr a) v h = r_row 0x1d (λ a b c by. Callr a) a 0 31 0 (omega arith) (below a 32 v) (omega arith) (omega arith) (omega arith) (λ word. refl)
again Ret v h = r_row 0x05 (λ a b c by. Ret) 31 0 0 0 (omega arith) (omega arith) (omega arith) (omega arith) (omega arith) (λ word. refl)
again Eret v h = r_row 0x01 (λ a b c by. Eret) 29 30 0 0 (omega arith) (omega arith) (omega arith) (omega arith) (omega arith) (λ word. refl)
again (Nextpc c) v h = r_row 0x1c (λ a b c by. Nextpc c) 0 0 c 0 (omega arith) (omega arith) (omega arith) (below c 32 v) (omega arith) (λ word. refl)
again (Rdctl c n) v h = r_row 0x26 (λ a b c by. Rdctl c by) 0 0 c n (omega arith) (omega arith) (omega arith) (below c 32 (first _ _ v)) (below n 32 (second (nat_lt c 32) _ v)) (λ word. refl)
again (Wrctl n a) v h = r_row 0x2e (λ a b c by. Wrctl by a) a 0 0 n (omega arith) (below a 32 (second (nat_lt n 32) _ v)) (omega arith) (omega arith) (below n 32 (first _ _ v)) (λ word. refl)
again (Code Flushi a) v h = r_row 0x0c (λ a b c by. Code Flushi a) a 0 0 0 (omega arith) (below a 32 v) (omega arith) (omega arith) (omega arith) (λ word. refl)
again (Code Initi a) v h = r_row 0x29 (λ a b c by. Code Initi a) a 0 0 0 (omega arith) (below a 32 v) (omega arith) (omega arith) (omega arith) (λ word. refl)
again (Trap imm) v h = r_row 0x2d (λ a b c by. Trap by) 0 0 29 imm (omega arith) (omega arith) (omega arith) (omega arith) (below imm 32 v) (λ word. refl)
again (Break imm) v h = r_row 0x34 (λ a b c by. Break by) 0 0 30 imm (omega arith) (omega arith) (omega arith) (omega arith) (below imm 32 v) (λ word. refl)
again Flushp v h = r_row 0x04 (λ a b c by. Flushp) 0 0 0 0 (omega arith) (omega arith) (omega arith) (omega arith) (omega arith) (λ word. refl)
again Sync v h = r_row 0x36 (λ a b c by. Sync) 0 0 0 0 (omega arith) (omega arith) (omega arith) (omega arith) (omega arith) (λ word. refl)
