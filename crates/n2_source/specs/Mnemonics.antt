-- The names of statements. Instructions have the names of the Nios II Processor Reference Guide,
-- "Instruction Set Reference".
use Rattle.std.specs.Prelude.{ℕ, List, [], ◌∷◌, ◌++◌, map, Bool, true, false, Option, codes, find, if◌then◌else◌}
use Rattle.std.specs.Str.{bytes_eq}
use Rattle.n2_word.specs.declared.Width.{Width}
use Rattle.n2_word.specs.declared.Width.TheVariants as width
use Rattle.n2_insn.specs.declared.JumpOp.{JumpOp}
use Rattle.n2_insn.specs.declared.JumpOp.TheVariants.{Call, Jmpi}
use Rattle.n2_insn.specs.declared.ImmOp.{ImmOp}
use Rattle.n2_insn.specs.declared.ImmOp.TheVariants.{Addi, Muli, Andi, Ori, Xori, Andhi, Orhi, Xorhi, Cmpgei, Cmplti, Cmpnei, Cmpeqi, Cmpgeui, Cmpltui}
use Rattle.n2_insn.specs.declared.BranchOp.{BranchOp}
use Rattle.n2_insn.specs.declared.BranchOp.TheVariants.{Bge, Blt, Bne, Beq, Bgeu, Bltu}
use Rattle.n2_insn.specs.declared.LoadOp.{LoadOp}
use Rattle.n2_insn.specs.declared.LoadOp.TheVariants.{Ldbu, Ldb, Ldhu, Ldh, Ldw}
use Rattle.n2_insn.specs.declared.DataOp.{DataOp}
use Rattle.n2_insn.specs.declared.DataOp.TheVariants.{Initd, Initda, Flushd, Flushda}
use Rattle.n2_insn.specs.declared.CodeLineOp.{CodeLineOp}
use Rattle.n2_insn.specs.declared.CodeLineOp.TheVariants.{Flushi, Initi}
use Rattle.n2_insn.specs.declared.RegOp.{RegOp}
use Rattle.n2_insn.specs.declared.RegOp.TheVariants.{Add, Sub, Mul, Mulxuu, Mulxsu, Mulxss, Divu, Div, And, Or, Xor, Nor, Cmpge, Cmplt, Cmpne, Cmpeq, Cmpgeu, Cmpltu, Sll, Srl, Sra, Rol, Ror}
use Rattle.n2_insn.specs.declared.ShiftOp.{ShiftOp}
use Rattle.n2_insn.specs.declared.ShiftOp.TheVariants.{Slli, Srli, Srai, Roli}
use Rattle.n2_source.specs.declared.mnemonics.Mnemonic.{Mnemonic}
use Rattle.n2_source.specs.declared.mnemonics.Mnemonic.TheVariants as name

abbrev pub jump_text : JumpOp → List ℕ
jump_text Call = codes "call"
jump_text Jmpi = codes "jmpi"

abbrev pub imm_text : ImmOp → List ℕ
imm_text Addi = codes "addi"
imm_text Muli = codes "muli"
imm_text Andi = codes "andi"
imm_text Ori = codes "ori"
imm_text Xori = codes "xori"
imm_text Andhi = codes "andhi"
imm_text Orhi = codes "orhi"
imm_text Xorhi = codes "xorhi"
imm_text Cmpgei = codes "cmpgei"
imm_text Cmplti = codes "cmplti"
imm_text Cmpnei = codes "cmpnei"
imm_text Cmpeqi = codes "cmpeqi"
imm_text Cmpgeui = codes "cmpgeui"
imm_text Cmpltui = codes "cmpltui"

abbrev pub branch_text : BranchOp → List ℕ
branch_text Bge = codes "bge"
branch_text Blt = codes "blt"
branch_text Bne = codes "bne"
branch_text Beq = codes "beq"
branch_text Bgeu = codes "bgeu"
branch_text Bltu = codes "bltu"

abbrev pub load_text : LoadOp → List ℕ
load_text Ldbu = codes "ldbu"
load_text Ldb = codes "ldb"
load_text Ldhu = codes "ldhu"
load_text Ldh = codes "ldh"
load_text Ldw = codes "ldw"

abbrev pub data_text : DataOp → List ℕ
data_text Initd = codes "initd"
data_text Initda = codes "initda"
data_text Flushd = codes "flushd"
data_text Flushda = codes "flushda"

abbrev pub code_text : CodeLineOp → List ℕ
code_text Flushi = codes "flushi"
code_text Initi = codes "initi"

abbrev pub reg_text : RegOp → List ℕ
reg_text Add = codes "add"
reg_text Sub = codes "sub"
reg_text Mul = codes "mul"
reg_text Mulxuu = codes "mulxuu"
reg_text Mulxsu = codes "mulxsu"
reg_text Mulxss = codes "mulxss"
reg_text Divu = codes "divu"
reg_text Div = codes "div"
reg_text And = codes "and"
reg_text Or = codes "or"
reg_text Xor = codes "xor"
reg_text Nor = codes "nor"
reg_text Cmpge = codes "cmpge"
reg_text Cmplt = codes "cmplt"
reg_text Cmpne = codes "cmpne"
reg_text Cmpeq = codes "cmpeq"
reg_text Cmpgeu = codes "cmpgeu"
reg_text Cmpltu = codes "cmpltu"
reg_text Sll = codes "sll"
reg_text Srl = codes "srl"
reg_text Sra = codes "sra"
reg_text Rol = codes "rol"
reg_text Ror = codes "ror"

abbrev pub shift_text : ShiftOp → List ℕ
shift_text Slli = codes "slli"
shift_text Srli = codes "srli"
shift_text Srai = codes "srai"
shift_text Roli = codes "roli"

abbrev pub store_text : Width → List ℕ
store_text width.Byte = codes "stb"
store_text width.Half = codes "sth"
store_text width.Word = codes "stw"

-- the form that goes past the cache
abbrev pub io_text : Bool → List ℕ
io_text io = if io then codes "io" else []

-- the name of a statement, without the dot in front of a directive's
abbrev pub text_of : Mnemonic → List ℕ
text_of (name.Jump op) = jump_text op
text_of (name.Imm op) = imm_text op
text_of (name.Branch op) = branch_text op
text_of (name.Data op) = data_text op
text_of (name.Code op) = code_text op
text_of (name.Reg op) = reg_text op
text_of (name.Shift op) = shift_text op
text_of (name.Load op io) = load_text op ++ io_text io
text_of (name.Store width io) = store_text width ++ io_text io
text_of name.Br = codes "br"
text_of name.Jmp = codes "jmp"
text_of name.Callr = codes "callr"
text_of name.Ret = codes "ret"
text_of name.Eret = codes "eret"
text_of name.Nextpc = codes "nextpc"
text_of name.Rdctl = codes "rdctl"
text_of name.Wrctl = codes "wrctl"
text_of name.Trap = codes "trap"
text_of name.Break = codes "break"
text_of name.Flushp = codes "flushp"
text_of name.Sync = codes "sync"
text_of name.Nop = codes "nop"
text_of name.Mov = codes "mov"
text_of name.Movi = codes "movi"
text_of name.Movui = codes "movui"
text_of name.Subi = codes "subi"
text_of name.Movia = codes "movia"
text_of (name.Segment exec) = if exec then codes "text" else codes "data"
text_of name.Word = codes "word"
text_of name.Byte = codes "byte"
text_of name.Space = codes "space"
text_of name.Align = codes "align"
text_of name.Asciz = codes "asciz"
text_of name.Equ = codes "equ"

-- the instructions and shorthands
abbrev pub instructions : List Mnemonic
instructions =
    name.Jump Call ∷ name.Jump Jmpi ∷ name.Imm Addi ∷ name.Imm Muli ∷ name.Imm Andi ∷ name.Imm Ori ∷ name.Imm Xori ∷
    name.Imm Andhi ∷ name.Imm Orhi ∷ name.Imm Xorhi ∷ name.Imm Cmpgei ∷ name.Imm Cmplti ∷ name.Imm Cmpnei ∷
    name.Imm Cmpeqi ∷ name.Imm Cmpgeui ∷ name.Imm Cmpltui ∷ name.Br ∷ name.Branch Bge ∷ name.Branch Blt ∷
    name.Branch Bne ∷ name.Branch Beq ∷ name.Branch Bgeu ∷ name.Branch Bltu ∷ name.Load Ldbu false ∷
    name.Load Ldb false ∷ name.Load Ldhu false ∷ name.Load Ldh false ∷ name.Load Ldw false ∷ name.Load Ldbu true ∷
    name.Load Ldb true ∷ name.Load Ldhu true ∷ name.Load Ldh true ∷ name.Load Ldw true ∷ name.Store width.Byte false ∷
    name.Store width.Half false ∷ name.Store width.Word false ∷ name.Store width.Byte true ∷
    name.Store width.Half true ∷ name.Store width.Word true ∷ name.Data Initd ∷ name.Data Initda ∷ name.Data Flushd ∷
    name.Data Flushda ∷ name.Code Flushi ∷ name.Code Initi ∷ name.Reg Add ∷ name.Reg Sub ∷ name.Reg Mul ∷
    name.Reg Mulxuu ∷ name.Reg Mulxsu ∷ name.Reg Mulxss ∷ name.Reg Divu ∷ name.Reg Div ∷ name.Reg And ∷ name.Reg Or ∷
    name.Reg Xor ∷ name.Reg Nor ∷ name.Reg Cmpge ∷ name.Reg Cmplt ∷ name.Reg Cmpne ∷ name.Reg Cmpeq ∷
    name.Reg Cmpgeu ∷ name.Reg Cmpltu ∷ name.Reg Sll ∷ name.Reg Srl ∷ name.Reg Sra ∷ name.Reg Rol ∷ name.Reg Ror ∷
    name.Shift Slli ∷ name.Shift Srli ∷ name.Shift Srai ∷ name.Shift Roli ∷ name.Jmp ∷ name.Callr ∷ name.Ret ∷
    name.Eret ∷ name.Nextpc ∷ name.Rdctl ∷ name.Wrctl ∷ name.Trap ∷ name.Break ∷ name.Flushp ∷ name.Sync ∷ name.Nop ∷
    name.Mov ∷ name.Movi ∷ name.Movui ∷ name.Subi ∷ name.Movia ∷ []

-- the directives
abbrev pub directives : List Mnemonic
directives = name.Segment true ∷ name.Segment false ∷ name.Word ∷ name.Byte ∷ name.Space ∷ name.Align ∷ name.Asciz ∷ name.Equ ∷ []

-- the first of some statements that has a name
abbrev pub first_named : List Mnemonic → List ℕ → Option Mnemonic
first_named names word = find (λ m. bytes_eq (text_of m) word) names

-- the instruction or shorthand of a name
unfoldable pub instruction_named : List ℕ → Option Mnemonic
instruction_named word = first_named instructions word

-- the directive of a name that stands behind a dot
unfoldable pub directive_named : List ℕ → Option Mnemonic
directive_named word = first_named directives word
