-- The text of a word at an address: a statement of the assembler's, without shorthands (Nios II
-- Processor Reference Guide, "Instruction Set Reference", "Assembler Syntax").
use Rattle.std.specs.Prelude.{ℕ, ◌+◌, ◌-◌, ◌*◌, ◌/◌, ◌%◌, ◌^◌, ◌<◌, List, [], ◌∷◌, ◌++◌, codes, decimal, Option, Some, None, nat_lt, if◌then◌else◌}
use Rattle.n2_word.specs.Words.{number_of, signed_half}
use Rattle.n2_elf.specs.declared.image.Segment.{Segment}
use Rattle.n2_text.specs.Fields.{word_text}
use Rattle.n2_insn.specs.declared.ImmOp.{ImmOp}
use Rattle.n2_insn.specs.declared.Insn.{Insn}
use Rattle.n2_insn.specs.declared.Insn.TheVariants.{Jump, Imm, Br, Branch, Load, Store, Data, Code, Reg, Shift, Jmp, Callr, Ret, Eret, Nextpc, Rdctl, Wrctl, Trap, Break, Flushp, Sync}
use Rattle.n2_insn.specs.Table.{table_insn}
use Rattle.n2_source.specs.declared.mnemonics.Mnemonic.{Mnemonic}
use Rattle.n2_source.specs.declared.mnemonics.Mnemonic.TheVariants as name
use Rattle.n2_source.specs.Mnemonics.{text_of}
use Rattle.n2_statement.specs.declared.values.Field.{Field}
use Rattle.n2_statement.specs.declared.values.Field.TheVariants as field
use Rattle.n2_statement.specs.Values.{imm_field}
use Rattle.n2_dis.specs.declared.operands.Operand.{Operand}
use Rattle.n2_dis.specs.declared.operands.Operand.TheVariants.{Register, Control, Signed, Number, Place, Based}
use Rattle.n2_dis.specs.declared.operands.Operands.{Operands}
use Rattle.n2_dis.specs.declared.operands.Operands.TheVariants.{Zero, One, Two, Three}

-- an immediate that is sign-extended
abbrev pub signed_text : ℕ → List ℕ
signed_text imm = if nat_lt imm (2 ^ 15) then decimal imm else codes "-" ++ decimal (2 ^ 16 - imm)

abbrev pub register_text : ℕ → List ℕ
register_text n = codes "r" ++ decimal n

abbrev pub operand_text : Operand → List ℕ
operand_text (Register n) = register_text n
operand_text (Control n) = codes "ctl" ++ decimal n
operand_text (Signed imm) = signed_text imm
operand_text (Number n) = decimal n
operand_text (Place at) = codes "0x" ++ word_text at
operand_text (Based imm a) = signed_text imm ++ (codes "(" ++ (register_text a ++ codes ")"))

-- a blank before the first operand, a comma and a blank before each other
abbrev pub operands_text : Operands → List ℕ
operands_text Zero = []
operands_text (One x) = codes " " ++ operand_text x
operands_text (Two x y) = codes " " ++ (operand_text x ++ (codes ", " ++ operand_text y))
operands_text (Three x y z) = codes " " ++ (operand_text x ++ (codes ", " ++ (operand_text y ++ (codes ", " ++ operand_text z))))

-- the name of an instruction
abbrev pub mnemonic_of : Insn → Mnemonic
mnemonic_of (Jump op target) = name.Jump op
mnemonic_of (Imm op a b imm) = name.Imm op
mnemonic_of (Br imm) = name.Br
mnemonic_of (Branch op a b imm) = name.Branch op
mnemonic_of (Load op io a b imm) = name.Load op io
mnemonic_of (Store width io a b imm) = name.Store width io
mnemonic_of (Data op a imm) = name.Data op
mnemonic_of (Code op a) = name.Code op
mnemonic_of (Reg op a b c) = name.Reg op
mnemonic_of (Shift op a c by) = name.Shift op
mnemonic_of (Jmp a) = name.Jmp
mnemonic_of (Callr a) = name.Callr
mnemonic_of Ret = name.Ret
mnemonic_of Eret = name.Eret
mnemonic_of (Nextpc c) = name.Nextpc
mnemonic_of (Rdctl c n) = name.Rdctl
mnemonic_of (Wrctl n a) = name.Wrctl
mnemonic_of (Trap imm) = name.Trap
mnemonic_of (Break imm) = name.Break
mnemonic_of Flushp = name.Flushp
mnemonic_of Sync = name.Sync

-- where a branch here goes, which stands in the instruction as the bytes from behind it
abbrev pub branch_place : ℕ → ℕ → ℕ
branch_place here imm = (here + 4 + signed_half imm) % 2 ^ 32

-- where a jump here goes: in the 256 MiB that the jump stands in
abbrev pub jump_place : ℕ → ℕ → ℕ
jump_place here target = here / 2 ^ 28 * 2 ^ 28 + 4 * target

-- an immediate in signed decimal where it is sign-extended
abbrev pub immediate : Field → ℕ → Operand
immediate field.Signed imm = Signed imm
immediate _ imm = Number imm

-- the operands of an instruction here, in the order of its row of the table
abbrev pub operands_of : ℕ → Insn → Operands
operands_of here (Jump op target) = One (Place (jump_place here target))
operands_of here (Imm op a b imm) = Three (Register b) (Register a) (immediate (imm_field op) imm)
operands_of here (Br imm) = One (Place (branch_place here imm))
operands_of here (Branch op a b imm) = Three (Register a) (Register b) (Place (branch_place here imm))
operands_of here (Load op io a b imm) = Two (Register b) (Based imm a)
operands_of here (Store width io a b imm) = Two (Register b) (Based imm a)
operands_of here (Data op a imm) = One (Based imm a)
operands_of here (Code op a) = One (Register a)
operands_of here (Reg op a b c) = Three (Register c) (Register a) (Register b)
operands_of here (Shift op a c by) = Three (Register c) (Register a) (Number by)
operands_of here (Jmp a) = One (Register a)
operands_of here (Callr a) = One (Register a)
operands_of here Ret = Zero
operands_of here Eret = Zero
operands_of here (Nextpc c) = One (Register c)
operands_of here (Rdctl c n) = Two (Register c) (Control n)
operands_of here (Wrctl n a) = Two (Control n) (Register a)
operands_of here (Trap imm) = One (Number imm)
operands_of here (Break imm) = One (Number imm)
operands_of here Flushp = Zero
operands_of here Sync = Zero

-- the text of an instruction here
unfoldable pub insn_text : ℕ → Insn → List ℕ
insn_text here insn = text_of (mnemonic_of insn) ++ operands_text (operands_of here insn)

-- a word outside of the table
abbrev pub outside_text : ℕ → List ℕ
outside_text word = codes ".word 0x" ++ word_text word

abbrev pub text_or_word : ℕ → ℕ → Option Insn → List ℕ
text_or_word word here (Some insn) = insn_text here insn
text_or_word word here None = outside_text word

-- the text of a word here
unfoldable pub line_of : ℕ → ℕ → List ℕ
line_of word here = text_or_word word here (table_insn word)

-- the place that an instruction prints, where it prints one
abbrev pub place_of : ℕ → Insn → Option ℕ
place_of here (Jump op target) = Some (jump_place here target)
place_of here (Br imm) = Some (branch_place here imm)
place_of here (Branch op a b imm) = Some (branch_place here imm)
place_of here _ = None

-- ---- rows of a listing

-- an address, a word and its text
abbrev pub row_text : ℕ → ℕ → List ℕ
row_text at word = word_text at ++ codes " " ++ word_text word ++ codes " " ++ line_of word at ++ codes "\n"

-- a row for each word of some bytes, four to a word; what is missing of the last word is zeros
abbrev pub rows_text : ℕ → List ℕ → List ℕ
rows_text at (a ∷ b ∷ c ∷ d ∷ bytes) = row_text at (number_of (a ∷ b ∷ c ∷ d ∷ [])) ++ rows_text ((at + 4) % 2 ^ 32) bytes
rows_text at [] = []
rows_text at bytes = row_text at (number_of bytes)

-- a row for each word of each segment's bytes
abbrev pub listing : List Segment → List ℕ
listing [] = []
listing (s ∷ segments) = rows_text s.at s.bytes ++ listing segments
