-- The statement of a row.
use Rattle.std.specs.Prelude.{ℕ, zero, suc, ◌+◌, List, [], ◌∷◌, length, Bool, true, false, not, Option, Some, None, Result, Ok, Err, option_map, nat_lt, ◌==◌, ◌&&◌, ◌||◌, if◌then◌else◌}
use Rattle.std.specs.List.{list_all}
use Rattle.n2_insn.specs.declared.Insn.{Insn}
use Rattle.n2_insn.specs.declared.Insn.TheVariants as insn
use Rattle.n2_insn.specs.declared.ImmOp.TheVariants.{Addi, Ori}
use Rattle.n2_insn.specs.declared.RegOp.TheVariants.{Add}
use Rattle.n2_insn.specs.Table.{is_valid}
use Rattle.n2_statement.specs.declared.faults.AsmKind.{AsmKind}
use Rattle.n2_statement.specs.declared.faults.AsmKind.TheVariants as kind
use Rattle.n2_source.specs.declared.numbers.Number.{Number}
use Rattle.n2_source.specs.declared.operands.Expression.TheVariants as expression
use Rattle.n2_source.specs.declared.operands.Immediate.{Immediate}
use Rattle.n2_source.specs.declared.operands.Part.TheVariants as part
use Rattle.n2_source.specs.declared.mnemonics.Mnemonic.{Mnemonic}
use Rattle.n2_source.specs.declared.mnemonics.Mnemonic.TheVariants as name
use Rattle.n2_statement.specs.declared.statements.Statement.{Statement}
use Rattle.n2_statement.specs.declared.statements.Statement.TheVariants as statement
use Rattle.n2_source.specs.Cursors.{◌>>=◌, skip, word_at, past, is_end, starts_blank}
use Rattle.n2_source.specs.Numbers.{plain, number_at, register_at, name_at}
use Rattle.n2_source.specs.Operands.{immediate, expression_at, whole_at, two_registers_at, three_registers_at, register_immediate_at, register_expression_at, two_registers_immediate_at, two_registers_place_at, base_at, register_base_at, register_control_at, control_register_at, name_number_at}
use Rattle.n2_source.specs.Lists.{choose, list_of, quoted_at}
use Rattle.n2_source.specs.Mnemonics.{instruction_named, directive_named}

-- ---- operands by name: what is read of the instruction table has 0 for its immediate

abbrev pub with_insn : {A : Type 0} → (A → Insn) → Option (A × List ℕ) → Option (Statement × List ℕ)
with_insn make o = option_map (λ x. (statement.Fixed (make x.0), x.1)) o

abbrev pub Read : Type 0
Read = Option (Statement × List ℕ)

-- an immediate that is a number
abbrev pub whole : Number → Immediate
whole n = immediate part.Whole (expression.Number n)

-- `trap` and `break` may have a number
abbrev pub numbered_at : Insn → List ℕ → Read
numbered_at i bs =
    if is_end bs then Some (statement.Filled i (whole (plain 0)), bs)
    else (if starts_blank bs then option_map (λ x. (statement.Filled i (whole x.0), x.1)) (number_at bs) else None)

-- a list up to the end of the row
abbrev pub listed : (List Number → Statement) → List ℕ → Read
listed make bs = option_map (λ ns. (make ns, [])) (list_of bs)

unfoldable pub operands_at : Mnemonic → List ℕ → Read
operands_at (name.Jump op) bs = option_map (λ x. (statement.Filled (insn.Jump op 0) x.0, x.1)) (whole_at bs)
operands_at (name.Imm op) bs = option_map (λ x. (statement.Filled (insn.Imm op x.0.1 x.0.0 0) x.0.2, x.1)) (two_registers_immediate_at bs)
operands_at name.Br bs = option_map (λ x. (statement.Filled (insn.Br 0) x.0, x.1)) (whole_at bs)
operands_at (name.Branch op) bs = option_map (λ x. (statement.Filled (insn.Branch op x.0.0 x.0.1 0) x.0.2, x.1)) (two_registers_place_at bs)
operands_at (name.Load op io) bs = option_map (λ x. (statement.Filled (insn.Load op io x.0.0 x.0.1 0) x.0.2, x.1)) (register_base_at bs)
operands_at (name.Store width io) bs = option_map (λ x. (statement.Filled (insn.Store width io x.0.0 x.0.1 0) x.0.2, x.1)) (register_base_at bs)
operands_at (name.Data op) bs = option_map (λ x. (statement.Filled (insn.Data op x.0.0 0) x.0.1, x.1)) (base_at bs)
operands_at (name.Code op) bs = with_insn (λ a. insn.Code op a) (register_at bs)
operands_at (name.Reg op) bs = with_insn (λ x. insn.Reg op x.1 x.2 x.0) (three_registers_at bs)
operands_at (name.Shift op) bs = option_map (λ x. (statement.Filled (insn.Shift op x.0.1 x.0.0 0) x.0.2, x.1)) (two_registers_immediate_at bs)
operands_at name.Jmp bs = with_insn (λ a. insn.Jmp a) (register_at bs)
operands_at name.Callr bs = with_insn (λ a. insn.Callr a) (register_at bs)
operands_at name.Ret bs = Some (statement.Fixed insn.Ret, bs)
operands_at name.Eret bs = Some (statement.Fixed insn.Eret, bs)
operands_at name.Nextpc bs = with_insn (λ c. insn.Nextpc c) (register_at bs)
operands_at name.Rdctl bs = with_insn (λ x. insn.Rdctl x.0 x.1) (register_control_at bs)
operands_at name.Wrctl bs = with_insn (λ x. insn.Wrctl x.0 x.1) (control_register_at bs)
operands_at name.Trap bs = numbered_at (insn.Trap 0) bs
operands_at name.Break bs = numbered_at (insn.Break 0) bs
operands_at name.Flushp bs = Some (statement.Fixed insn.Flushp, bs)
operands_at name.Sync bs = Some (statement.Fixed insn.Sync, bs)
operands_at name.Nop bs = Some (statement.Fixed (insn.Reg Add 0 0 0), bs)
operands_at name.Mov bs = with_insn (λ x. insn.Reg Add x.1 0 x.0) (two_registers_at bs)
operands_at name.Movi bs = option_map (λ x. (statement.Filled (insn.Imm Addi 0 x.0.0 0) x.0.1, x.1)) (register_immediate_at bs)
operands_at name.Movui bs = option_map (λ x. (statement.Filled (insn.Imm Ori 0 x.0.0 0) x.0.1, x.1)) (register_immediate_at bs)
operands_at name.Subi bs = option_map (λ x. (statement.Negated x.0.1 x.0.0 x.0.2, x.1)) (two_registers_immediate_at bs)
operands_at name.Movia bs = option_map (λ x. (statement.Address x.0.0 x.0.1, x.1)) (register_expression_at bs)
operands_at (name.Segment exec) bs = option_map (λ x. (statement.Segment exec x.0, x.1)) (number_at bs)
operands_at name.Word bs = listed (λ ns. statement.Words ns) bs
operands_at name.Byte bs = listed (λ ns. statement.Bytes ns) bs
operands_at name.Space bs = option_map (λ x. (statement.Space x.0, x.1)) (number_at bs)
operands_at name.Align bs = option_map (λ x. (statement.Align x.0, x.1)) (number_at bs)
operands_at name.Asciz bs = option_map (λ x. (statement.Text x.0, x.1)) (quoted_at bs)
operands_at name.Equ bs = option_map (λ x. (statement.Constant x.0.0 x.0.1, x.1)) (name_number_at bs)

-- a name whose statement may end behind it
abbrev pub may_stand_alone : Mnemonic → Bool
may_stand_alone name.Ret = true
may_stand_alone name.Eret = true
may_stand_alone name.Trap = true
may_stand_alone name.Break = true
may_stand_alone name.Flushp = true
may_stand_alone name.Sync = true
may_stand_alone name.Nop = true
may_stand_alone _ = false

-- the statement behind its name: a blank before its first operand, and nothing but a comment behind
-- its last
unfoldable pub statement_behind : Mnemonic → List ℕ → Option Statement
statement_behind m bs = do
  x ← (if may_stand_alone m || starts_blank bs then operands_at m bs else None)
  if is_end x.1 then Some x.0 else None

-- the name of a statement, with a dot in front of a directive's
abbrev pub instruction_at : List ℕ → Option Mnemonic × List ℕ
instruction_at bs = (instruction_named (word_at bs).0, (word_at bs).1)

abbrev pub directive_at : List ℕ → Option Mnemonic × List ℕ
directive_at bs = (directive_named (word_at bs).0, (word_at bs).1)

unfoldable pub mnemonic_at : List ℕ → Option Mnemonic × List ℕ
mnemonic_at bs = choose (past 46 bs) directive_at (instruction_at bs)

abbrev pub or_fault : {A : Type 0} → AsmKind → Option A → Result A AsmKind
or_fault fault (Some x) = Ok x
or_fault fault None = Err fault

infixl 10 ◌>=◌
abbrev pub ◌>=◌ : {A B : Type 0} → Result A AsmKind → (A → Result B AsmKind) → Result B AsmKind
(Ok x) >= f = f x
(Err fault) >= f = Err fault

unfoldable pub named_statement : List ℕ → Result Statement AsmKind
named_statement bs = or_fault kind.Unknown (mnemonic_at bs).0 >= λ m. or_fault kind.Operands (statement_behind m (mnemonic_at bs).1)

-- ---- a row

-- a label in front: a name and a colon directly behind it
unfoldable pub label_at : List ℕ → Option (List ℕ × List ℕ)
label_at bs = do
  x ← name_at bs
  rest ← past 58 x.1
  Some (x.0, rest)

-- the labels in front of a row of at most n bytes, and what stands behind them
unfoldable pub labels_within : ℕ → List ℕ → List (List ℕ)
labels_within zero bs = []
labels_within (suc n) bs = choose (label_at bs) (λ x. x.0 ∷ labels_within n x.1) []

unfoldable pub behind_labels_within : ℕ → List ℕ → List ℕ
behind_labels_within zero bs = bs
behind_labels_within (suc n) bs = choose (label_at bs) (λ x. behind_labels_within n x.1) bs

unfoldable pub labels_of : List ℕ → List (List ℕ)
labels_of row = labels_within (length row) row

unfoldable pub behind_labels : List ℕ → List ℕ
behind_labels row = behind_labels_within (length row) row

abbrev pub is_ascii : List ℕ → Bool
is_ascii bs = list_all (λ c. nat_lt c 128) bs

-- the statement of a row, where it has one
unfoldable pub statement_of : List ℕ → Result (Option Statement) AsmKind
statement_of row =
    if is_ascii row then
    (if is_end (behind_labels row) then Ok None else (named_statement (skip (behind_labels row)) >= λ s. Ok (Some s)))
    else Err kind.NotAscii

-- the registers of a statement's instruction are below 32
abbrev pub is_valid_statement : Statement → Bool
is_valid_statement (statement.Fixed i) = is_valid i
is_valid_statement (statement.Filled i value) = is_valid i
is_valid_statement (statement.Negated a b value) = nat_lt a 32 && nat_lt b 32
is_valid_statement (statement.Address b value) = nat_lt b 32
is_valid_statement _ = true
