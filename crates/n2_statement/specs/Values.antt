-- What a statement puts at an address, where names have values.
use Rattle.std.specs.Prelude.{ℕ, ◌+◌, ◌-◌, ◌*◌, ◌/◌, ◌%◌, ◌^◌, List, [], ◌∷◌, ◌++◌, length, replicate, Bool, true, false, not, Option, Some, None, Result, Ok, Err, nat_lt, nat_le, ◌==◌, ◌&&◌, ◌||◌, if◌then◌else◌}
use Rattle.std.specs.List.{list_all}
use Rattle.n2_word.specs.Words.{bytes_of}
use Rattle.n2_insn.specs.declared.Insn.{Insn}
use Rattle.n2_insn.specs.declared.Insn.TheVariants.{Jump, Imm, Br, Branch, Load, Store, Data, Shift, Trap, Break}
use Rattle.n2_insn.specs.declared.ImmOp.{ImmOp}
use Rattle.n2_insn.specs.declared.ImmOp.TheVariants.{Addi, Muli, Andi, Ori, Xori, Andhi, Orhi, Xorhi, Cmpgei, Cmplti, Cmpnei, Cmpeqi, Cmpgeui, Cmpltui}
use Rattle.n2_insn.specs.Table.{word_of}
use Rattle.n2_statement.specs.declared.faults.AsmKind.{AsmKind}
use Rattle.n2_statement.specs.declared.faults.AsmKind.TheVariants as kind
use Rattle.n2_source.specs.declared.numbers.Number.{Number}
use Rattle.n2_source.specs.declared.operands.Expression.{Expression}
use Rattle.n2_source.specs.declared.operands.Expression.TheVariants as expression
use Rattle.n2_source.specs.declared.operands.Immediate.{Immediate}
use Rattle.n2_source.specs.declared.operands.Part.{Part}
use Rattle.n2_source.specs.declared.operands.Part.TheVariants.{Whole, Low, High, HighAdjusted}
use Rattle.n2_statement.specs.declared.statements.Statement.{Statement}
use Rattle.n2_statement.specs.declared.statements.Statement.TheVariants as statement
use Rattle.n2_statement.specs.declared.values.Content.{Content}
use Rattle.n2_statement.specs.declared.values.Content.TheVariants as content
use Rattle.n2_statement.specs.declared.values.Field.{Field}
use Rattle.n2_statement.specs.declared.values.Field.TheVariants.{Signed, Unsigned, Five, Offset, Target}
use Rattle.n2_source.specs.Numbers.{plain}
use Rattle.n2_source.specs.Lists.{fits_word, word_of_number, fits_byte, words_bytes, bytes_bytes}
use Rattle.n2_statement.specs.Statements.{◌>=◌, or_fault, statement_of}

-- the values of names: what has none is named nowhere
abbrev pub Names : Type 0
Names = List ℕ → Option Number

abbrev pub value_of : Names → Expression → Result Number AsmKind
value_of names (expression.Number n) = Ok n
value_of names (expression.Name name) = or_fault kind.NoLabel (names name)

abbrev pub in_range : Bool → ℕ → Result ℕ AsmKind
in_range fits n = if fits then Ok n else Err kind.Range

-- the word of a number from -2^31 to 2^32 - 1
abbrev pub word_in : Number → Result ℕ AsmKind
word_in n = in_range (fits_word n) (word_of_number n)

-- the upper half of a word plus its bit 15, which goes with a signed lower half
abbrev pub high_adjusted : ℕ → ℕ
high_adjusted word = (word / 2 ^ 16 + word / 2 ^ 15 % 2) % 2 ^ 16

-- what an immediate takes of a number
abbrev pub part_of : Part → Number → Result Number AsmKind
part_of Whole n = Ok n
part_of Low n = word_in n >= λ word. Ok (plain (word % 2 ^ 16))
part_of High n = word_in n >= λ word. Ok (plain (word / 2 ^ 16))
part_of HighAdjusted n = word_in n >= λ word. Ok (plain (high_adjusted word))

unfoldable pub immediate_value : Names → Immediate → Result Number AsmKind
immediate_value names i = value_of names i.value >= λ n. part_of i.part n

-- ---- fields

-- the immediates that are sign-extended
abbrev pub imm_field : ImmOp → Field
imm_field Addi = Signed
imm_field Muli = Signed
imm_field Andi = Unsigned
imm_field Ori = Unsigned
imm_field Xori = Unsigned
imm_field Andhi = Unsigned
imm_field Orhi = Unsigned
imm_field Xorhi = Unsigned
imm_field Cmpgei = Signed
imm_field Cmplti = Signed
imm_field Cmpnei = Signed
imm_field Cmpeqi = Signed
imm_field Cmpgeui = Unsigned
imm_field Cmpltui = Unsigned

-- the field of an instruction's immediate
abbrev pub field_of : Insn → Field
field_of (Jump op target) = Target
field_of (Imm op a b imm) = imm_field op
field_of (Br imm) = Offset
field_of (Branch op a b imm) = Offset
field_of (Shift op a c by) = Five
field_of (Trap imm) = Five
field_of (Break imm) = Five
field_of _ = Signed

-- the lower 16 bits that %lo takes fit every field of 16 bits
abbrev pub is_low : Part → Bool
is_low Low = true
is_low _ = false

abbrev pub signed_bits : Number → Result ℕ AsmKind
signed_bits n =
    if n.negative then in_range (nat_le n.size (2 ^ 15)) ((2 ^ 16 - n.size) % 2 ^ 16)
    else in_range (nat_lt n.size (2 ^ 15)) n.size

abbrev pub below : ℕ → Number → Result ℕ AsmKind
below limit n = in_range (not n.negative && nat_lt n.size limit) n.size

-- a branch from here to a place: the bytes between what follows the branch and the place
abbrev pub offset_bits : ℕ → ℕ → Result ℕ AsmKind
offset_bits here place =
    if nat_le (here + 4) place then in_range (nat_lt (place - (here + 4)) (2 ^ 15)) (place - (here + 4))
    else in_range (nat_le (here + 4 - place) (2 ^ 15)) ((2 ^ 16 - (here + 4 - place)) % 2 ^ 16)

-- a jump from here to a place: its word, where bits 31 to 28 are those of here
abbrev pub target_bits : ℕ → ℕ → Result ℕ AsmKind
target_bits here place = in_range (place % 4 == 0 && place / 2 ^ 28 == here / 2 ^ 28) (place / 4 % 2 ^ 26)

abbrev pub branch_bits : ℕ → Number → Result ℕ AsmKind
branch_bits here n = below (2 ^ 32) n >= λ place. offset_bits here place

abbrev pub jump_bits : ℕ → Number → Result ℕ AsmKind
jump_bits here n = below (2 ^ 32) n >= λ place. target_bits here place

abbrev pub half_bits : Part → Number → Result ℕ AsmKind
half_bits part n = if is_low part then Ok (n.size % 2 ^ 16) else signed_bits n

-- the bits of a field, for a part of a number and an instruction here
unfoldable pub field_bits : Field → ℕ → Part → Number → Result ℕ AsmKind
field_bits Signed here part n = half_bits part n
field_bits Unsigned here part n = below (2 ^ 16) n
field_bits Five here part n = below 32 n
field_bits Offset here part n = branch_bits here n
field_bits Target here part n = jump_bits here n

-- how many values a field has
abbrev pub field_size : Field → ℕ
field_size Signed = 2 ^ 16
field_size Unsigned = 2 ^ 16
field_size Five = 32
field_size Offset = 2 ^ 16
field_size Target = 2 ^ 26

-- an instruction with these bits for its immediate
abbrev pub filled : Insn → ℕ → Insn
filled (Jump op target) bits = Jump op bits
filled (Imm op a b imm) bits = Imm op a b bits
filled (Br imm) bits = Br bits
filled (Branch op a b imm) bits = Branch op a b bits
filled (Load op io a b imm) bits = Load op io a b bits
filled (Store width io a b imm) bits = Store width io a b bits
filled (Data op a imm) bits = Data op a bits
filled (Shift op a c by) bits = Shift op a c bits
filled (Trap imm) bits = Trap bits
filled (Break imm) bits = Break bits
filled insn bits = insn

-- ---- statements

-- a number with the other sign
abbrev pub negated : Number → Number
negated n = record { negative = not n.negative && not (n.size == 0); size = n.size }

-- an instruction whose immediate is given
unfoldable pub filled_insn : Names → ℕ → Insn → Immediate → Result Insn AsmKind
filled_insn names here insn i = immediate_value names i >= λ n. field_bits (field_of insn) here i.part n >= λ bits. Ok (filled insn bits)

abbrev pub filled_word : Names → ℕ → Insn → Immediate → Result ℕ AsmKind
filled_word names here insn i = filled_insn names here insn i >= λ whole. Ok (word_of whole)

-- `subi rB, rA, imm`: an `addi` with the other sign
unfoldable pub negated_word : Names → ℕ → ℕ → Immediate → Result ℕ AsmKind
negated_word names a b i = immediate_value names i >= λ n. signed_bits (negated n) >= λ bits. Ok (word_of (Imm Addi a b bits))

-- the two instructions that give a register an address
abbrev pub upper_insn : ℕ → ℕ → Insn
upper_insn b word = Imm Orhi 0 b (high_adjusted word)

abbrev pub lower_insn : ℕ → ℕ → Insn
lower_insn b word = Imm Addi b b (word % 2 ^ 16)

unfoldable pub address_in : Names → Expression → Result ℕ AsmKind
address_in names value = value_of names value >= λ n. word_in n

-- 1, 2, 4, 8, 16 or 32
abbrev pub is_alignment : Number → Bool
is_alignment n = not n.negative && (n.size == 1 || n.size == 2 || n.size == 4 || n.size == 8 || n.size == 16 || n.size == 32)

-- how many bytes there are from here to a multiple of a number
abbrev pub padding : ℕ → ℕ → ℕ
padding here to = (to - here % to) % to

abbrev pub address_words : Names → ℕ → Expression → Result Content AsmKind
address_words names b value = address_in names value >= λ word. Ok (content.Pair (word_of (upper_insn b word)) (word_of (lower_insn b word)))

abbrev pub opening : Bool → Number → Result Content AsmKind
opening exec at = below (2 ^ 32) at >= λ address. Ok (content.Open exec address)

abbrev pub words_content : List Number → Result Content AsmKind
words_content numbers = if list_all fits_word numbers then Ok (content.Words numbers) else Err kind.Range

abbrev pub bytes_content : List Number → Result Content AsmKind
bytes_content numbers = if list_all fits_byte numbers then Ok (content.Bytes numbers) else Err kind.Range

abbrev pub space : Number → Result Content AsmKind
space count = below (2 ^ 32) count >= λ n. Ok (content.Zeros n)

abbrev pub padding_to : ℕ → Number → Option ℕ
padding_to here to = if is_alignment to then Some (padding here to.size) else None

abbrev pub aligned : ℕ → Number → Result Content AsmKind
aligned here to = or_fault kind.Range (padding_to here to) >= λ n. Ok (content.Zeros n)

abbrev pub constant : Number → Result Content AsmKind
constant n = if fits_word n then Ok content.Nothing else Err kind.Range

-- what a statement here puts
unfoldable pub content_of : Names → ℕ → Statement → Result Content AsmKind
content_of names here (statement.Fixed insn) = Ok (content.Word (word_of insn))
content_of names here (statement.Filled insn i) = filled_word names here insn i >= λ word. Ok (content.Word word)
content_of names here (statement.Negated a b i) = negated_word names a b i >= λ word. Ok (content.Word word)
content_of names here (statement.Address b value) = address_words names b value
content_of names here (statement.Segment exec at) = opening exec at
content_of names here (statement.Words numbers) = words_content numbers
content_of names here (statement.Bytes numbers) = bytes_content numbers
content_of names here (statement.Space count) = space count
content_of names here (statement.Align to) = aligned here to
content_of names here (statement.Text text) = Ok (content.Text text)
content_of names here (statement.Constant name n) = constant n

-- the words that a content is
abbrev pub words_in : Content → List ℕ
words_in (content.Word word) = word ∷ []
words_in (content.Pair upper lower) = upper ∷ lower ∷ []
words_in _ = []

-- a row without a statement puts nothing
abbrev pub content_of_row : Names → ℕ → Option Statement → Result Content AsmKind
content_of_row names here None = Ok content.Nothing
content_of_row names here (Some s) = content_of names here s

-- the words of an instruction or a shorthand that stands in a row at an address; the first fault of
-- the row else
unfoldable pub statement_words : Names → ℕ → List ℕ → Result (List ℕ) AsmKind
statement_words names here row = statement_of row >= λ o. content_of_row names here o >= λ c. Ok (words_in c)

-- the bytes of a content
abbrev pub bytes_in : Content → List ℕ
bytes_in content.Nothing = []
bytes_in (content.Open exec at) = []
bytes_in (content.Word word) = bytes_of word
bytes_in (content.Pair upper lower) = bytes_of upper ++ bytes_of lower
bytes_in (content.Words numbers) = words_bytes numbers
bytes_in (content.Bytes numbers) = bytes_bytes numbers
bytes_in (content.Zeros n) = replicate n 0
bytes_in (content.Text text) = text ++ 0 ∷ []
