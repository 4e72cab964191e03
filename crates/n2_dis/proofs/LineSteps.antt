-- The text of each instruction, read as the instruction.
use Rattle.std.proofs.Common.{◌≡◌, ℕ, ◌+◌, ◌-◌, ◌*◌, ◌/◌, ◌%◌, ◌^◌, ◌<◌, ◌≤◌, Bool, true, false, cond, ltb, List, [], ◌∷◌, ◌++◌, Option, Some, None, Result, Ok, Err, IsTrue, IfSome, refl, sym, ap, subst, ◌∙◌, inl, inr, arith}
use Rattle.std.specs.Prelude.{◌&&◌, ◌⊎◌, decimal, codes}
use Rattle.std.proofs.lemmas.Bool.{cases_Bool, cond-true, cond-false}
use Rattle.n2_word.specs.declared.Width.{Width}
use Rattle.n2_text.specs.Fields.{word_text}
use Rattle.n2_insn.specs.declared.Insn.{Insn}
use Rattle.n2_insn.specs.declared.Insn.TheVariants as insn
use Rattle.n2_insn.specs.declared.JumpOp.{JumpOp}
use Rattle.n2_insn.specs.declared.ImmOp.{ImmOp}
use Rattle.n2_insn.specs.declared.BranchOp.{BranchOp}
use Rattle.n2_insn.specs.declared.LoadOp.{LoadOp}
use Rattle.n2_insn.specs.declared.DataOp.{DataOp}
use Rattle.n2_insn.specs.declared.ShiftOp.{ShiftOp}
use Rattle.n2_insn.specs.declared.RegOp.{RegOp}
use Rattle.n2_insn.specs.declared.CodeLineOp.{CodeLineOp}
use Rattle.n2_insn.specs.Table.{word_of, table_insn, is_valid, has_half}
use Rattle.n2_insn.proofs.Bounds.{below, first, second}
use Rattle.n2_insn.proofs.Fits.{valid_found, half_found}
use Rattle.n2_source.specs.declared.numbers.Number as numbers
use Rattle.n2_source.specs.declared.operands.Part.TheVariants as part
use Rattle.n2_source.specs.Cursors.{mark_at, skip, is_over}
use Rattle.n2_source.specs.Numbers.{plain, number_at, register_at, control_at}
use Rattle.n2_source.specs.Operands.{whole_at, immediate_at, two_registers_at, three_registers_at, two_registers_immediate_at, two_registers_place_at, base_at, register_base_at, register_control_at, control_register_at}
use Rattle.n2_source.specs.declared.mnemonics.Mnemonic.TheVariants as name
use Rattle.n2_statement.specs.declared.statements.Statement.{Statement}
use Rattle.n2_statement.specs.declared.statements.Statement.TheVariants as statement
use Rattle.n2_statement.specs.declared.values.Field.{Field}
use Rattle.n2_statement.specs.declared.values.Field.TheVariants as field
use Rattle.n2_statement.specs.Statements.{whole, operands_at, statement_behind, is_ascii}
use Rattle.n2_statement.specs.Values.{Names, imm_field, field_of, field_bits, filled, statement_words}
use Rattle.n2_dis.specs.declared.operands.Operand.{Operand}
use Rattle.n2_dis.specs.declared.operands.Operand.TheVariants.{Register, Control, Signed, Number, Place, Based}
use Rattle.n2_dis.specs.declared.operands.Operands.{Operands}
use Rattle.n2_dis.specs.declared.operands.Operands.TheVariants.{Zero, One, Two, Three}
use Rattle.n2_dis.specs.Texts.{signed_text, register_text, operand_text, operands_text, mnemonic_of, operands_of, branch_place, jump_place, place_of, insn_text, line_of, text_or_word}
use Rattle.n2_dis.specs.Texts as texts
use Rattle.n2_dis.proofs.NameSteps.{named}
use Rattle.n2_dis.proofs.WordSteps.{ends, mono, decimal_digits, hex_word_chars}
use Rattle.n2_dis.proofs.OperandSteps.{register_read, register_bare, register_last, control_read, control_last, signed_number, signed_read, signed_last, number_last, count_last, place_last}
use Rattle.n2_dis.proofs.FieldSteps.{signed_field, unsigned_field, five_field, offset_field, target_field, fixed_words, filled_words, half_kind}
use Rattle.n2_dis.proofs.StatementSteps.{digit_ascii, ascii_append, ascii_word, decimal_not_over, AreOperands, statement_read}

-- ---- bytes of operands

decimal_ascii : (n : ℕ) → n < 2 ^ 17 → is_ascii (decimal n) ≡ true
decimal_ascii n lt = mono _ (λ c. ltb c 128) digit_ascii (decimal n) (decimal_digits n (omega arith))

signed_ascii : (imm : ℕ) → imm < 2 ^ 16 → is_ascii (signed_text imm) ≡ true
signed_ascii imm lt =
    elim (cases_Bool (ltb imm (2 ^ 15))) [
      | inl low ↦ rw low (decimal_ascii imm (omega arith))
      | inr high ↦ rw high (decimal_ascii (2 ^ 16 - imm) (omega arith))
    ]

abbrev Fits : Operand → Type 0
Fits (Register n) = n < 32
Fits (Control n) = n < 32
Fits (Signed imm) = imm < 2 ^ 16
Fits (Number n) = n < 2 ^ 16
Fits (Place at) = Unit {0}
Fits (Based imm a) = (imm < 2 ^ 16) × (a < 32)

operand_ascii : (x : Operand) → Fits x → is_ascii (operand_text x) ≡ true
operand_ascii (Register n) h = decimal_ascii n (omega arith)
operand_ascii (Control n) h = decimal_ascii n (omega arith)
operand_ascii (Signed imm) h = signed_ascii imm h
operand_ascii (Number n) h = decimal_ascii n (omega arith)
operand_ascii (Place at) h = ascii_word (word_text at) (hex_word_chars at)
operand_ascii (Based imm a) h = ascii_append (signed_text imm) (40 ∷ 114 ∷ (decimal a ++ 41 ∷ [])) (signed_ascii imm h.0) (ascii_append (decimal a) (41 ∷ []) (decimal_ascii a (omega arith)) refl)

abbrev AllFit : Operands → Type 0
AllFit Zero = Unit {0}
AllFit (One x) = Fits x
AllFit (Two x y) = Fits x × Fits y
AllFit (Three x y z) = Fits x × Fits y × Fits z

operands_ascii : (os : Operands) → AllFit os → is_ascii (operands_text os) ≡ true
operands_ascii Zero h = refl
operands_ascii (One x) h = operand_ascii x h
operands_ascii (Two x y) h = ascii_append (operand_text x) (codes ", " ++ operand_text y) (operand_ascii x h.0) (operand_ascii y h.1)
operands_ascii (Three x y z) h =
    ascii_append (operand_text x) (codes ", " ++ (operand_text y ++ (codes ", " ++ operand_text z))) (operand_ascii x h.0)
    (ascii_append (operand_text y) (codes ", " ++ operand_text z) (operand_ascii y h.1) (operand_ascii z h.2))

are_operands : (os : Operands) → AllFit os → AreOperands (operands_text os)
are_operands Zero h = record { ends = refl; colon = refl; ascii = refl }
are_operands (One x) h = record { ends = refl; colon = refl; ascii = operands_ascii (One x) h }
are_operands (Two x y) h = record { ends = refl; colon = refl; ascii = operands_ascii (Two x y) h }
are_operands (Three x y z) h = record { ends = refl; colon = refl; ascii = operands_ascii (Three x y z) h }

-- ---- operands by form

two_read : (x y : ℕ) (t : List ℕ) → x < 32 → y < 32 → ends t ≡ true → two_registers_at (32 ∷ 114 ∷ (decimal x ++ (44 ∷ 32 ∷ 114 ∷ (decimal y ++ t)))) ≡ Some ((x, y), t)
unfolding two_registers_at mark_at
two_read x y t hx hy e = rw (register_read x (44 ∷ 32 ∷ 114 ∷ (decimal y ++ t)) hx refl, register_read y t hy e) refl

three_read : (x y z : ℕ) → x < 32 → y < 32 → z < 32 → three_registers_at (operands_text (Three (Register x) (Register y) (Register z))) ≡ Some ((x, y, z), [])
unfolding three_registers_at mark_at
three_read x y z hx hy hz = rw (two_read x y (44 ∷ 32 ∷ 114 ∷ decimal z) hx hy refl, register_last z hz) refl

two_signed_read : (x y imm : ℕ) → x < 32 → y < 32 → imm < 2 ^ 16 → two_registers_immediate_at (operands_text (Three (Register x) (Register y) (Signed imm))) ≡ Some ((x, y, whole (signed_number imm)), [])
unfolding two_registers_immediate_at mark_at
two_signed_read x y imm hx hy h = rw (two_read x y (44 ∷ 32 ∷ signed_text imm) hx hy refl, signed_last imm h) refl

two_number_read : (x y n : ℕ) → x < 32 → y < 32 → n < 2 ^ 16 → two_registers_immediate_at (operands_text (Three (Register x) (Register y) (Number n))) ≡ Some ((x, y, whole (plain n)), [])
unfolding two_registers_immediate_at mark_at
two_number_read x y n hx hy h = rw (two_read x y (44 ∷ 32 ∷ decimal n) hx hy refl, number_last n h) refl

two_place_read : (x y at : ℕ) → x < 32 → y < 32 → at < 2 ^ 32 → two_registers_place_at (operands_text (Three (Register x) (Register y) (Place at))) ≡ Some ((x, y, whole (plain at)), [])
unfolding two_registers_place_at mark_at
two_place_read x y at hx hy h = rw (two_read x y (44 ∷ 32 ∷ 48 ∷ 120 ∷ word_text at) hx hy refl, place_last at h) refl

base_read : (imm a : ℕ) → imm < 2 ^ 16 → a < 32 → base_at (32 ∷ (signed_text imm ++ (40 ∷ 114 ∷ (decimal a ++ 41 ∷ [])))) ≡ Some ((a, whole (signed_number imm)), [])
unfolding base_at mark_at
base_read imm a h ha = rw (signed_read imm (40 ∷ 114 ∷ (decimal a ++ 41 ∷ [])) h refl, register_bare a (41 ∷ []) ha refl) refl

register_base_read : (b imm a : ℕ) → b < 32 → imm < 2 ^ 16 → a < 32 → register_base_at (operands_text (Two (Register b) (Based imm a))) ≡ Some ((a, b, whole (signed_number imm)), [])
unfolding register_base_at mark_at
register_base_read b imm a hb h ha = rw (register_read b (44 ∷ 32 ∷ (signed_text imm ++ (40 ∷ 114 ∷ (decimal a ++ 41 ∷ [])))) hb refl, base_read imm a h ha) refl

register_control_read : (c n : ℕ) → c < 32 → n < 32 → register_control_at (operands_text (Two (Register c) (Control n))) ≡ Some ((c, n), [])
unfolding register_control_at mark_at
register_control_read c n hc hn = rw (register_read c (44 ∷ 32 ∷ 99 ∷ 116 ∷ 108 ∷ decimal n) hc refl, control_last n hn) refl

control_register_read : (n a : ℕ) → n < 32 → a < 32 → control_register_at (operands_text (Two (Control n) (Register a))) ≡ Some ((n, a), [])
unfolding control_register_at mark_at
control_register_read n a hn ha = rw (control_read n (44 ∷ 32 ∷ 114 ∷ decimal a) hn refl, register_last a ha) refl

-- ---- instructions

abbrev IsRead : Names → ℕ → Insn → Type 0
IsRead names here i = statement_words names here (insn_text here i) ≡ Ok (word_of i ∷ [])

fixed_line : (names : Names) (here : ℕ) (i : Insn) → AllFit (operands_of here i) → statement_behind (mnemonic_of i) (operands_text (operands_of here i)) ≡ Some (statement.Fixed i) → IsRead names here i
unfolding insn_text
fixed_line names here i fit e = fixed_words names here _ i (statement_read (mnemonic_of i) (operands_text (operands_of here i)) (statement.Fixed i) (named i) (are_operands (operands_of here i) fit) e)

filled_line : (names : Names) (here : ℕ) (i j : Insn) (n : numbers.Number) (bits : ℕ) → AllFit (operands_of here i) → statement_behind (mnemonic_of i) (operands_text (operands_of here i)) ≡ Some (statement.Filled j (whole n))
    → field_bits (field_of j) here part.Whole n ≡ Ok bits → filled j bits ≡ i → IsRead names here i
unfolding insn_text
filled_line names here i j n bits fit e f same =
    filled_words names here _ j n bits (statement_read (mnemonic_of i) (operands_text (operands_of here i)) (statement.Filled j (whole n)) (named i) (are_operands (operands_of here i) fit) e) f
    ∙ ap (λ (k : Insn). Ok (word_of k ∷ [])) same

jump_behind : (op : JumpOp) (at : ℕ) → at < 2 ^ 32 → statement_behind (name.Jump op) (operands_text (One (Place at))) ≡ Some (statement.Filled (insn.Jump op 0) (whole (plain at)))
unfolding statement_behind operands_at
jump_behind op at h = rw (place_last at h) refl

br_behind : (at : ℕ) → at < 2 ^ 32 → statement_behind name.Br (operands_text (One (Place at))) ≡ Some (statement.Filled (insn.Br 0) (whole (plain at)))
unfolding statement_behind operands_at
br_behind at h = rw (place_last at h) refl

branch_behind : (op : BranchOp) (a b at : ℕ) → a < 32 → b < 32 → at < 2 ^ 32 → statement_behind (name.Branch op) (operands_text (Three (Register a) (Register b) (Place at))) ≡ Some (statement.Filled (insn.Branch op a b 0) (whole (plain at)))
unfolding statement_behind operands_at
branch_behind op a b at ha hb h = rw (two_place_read a b at ha hb h) refl

signed_behind : (op : ImmOp) (a b imm : ℕ) → a < 32 → b < 32 → imm < 2 ^ 16 → statement_behind (name.Imm op) (operands_text (Three (Register b) (Register a) (Signed imm))) ≡ Some (statement.Filled (insn.Imm op a b 0) (whole (signed_number imm)))
unfolding statement_behind operands_at
signed_behind op a b imm ha hb h = rw (two_signed_read b a imm hb ha h) refl

unsigned_behind : (op : ImmOp) (a b imm : ℕ) → a < 32 → b < 32 → imm < 2 ^ 16 → statement_behind (name.Imm op) (operands_text (Three (Register b) (Register a) (Number imm))) ≡ Some (statement.Filled (insn.Imm op a b 0) (whole (plain imm)))
unfolding statement_behind operands_at
unsigned_behind op a b imm ha hb h = rw (two_number_read b a imm hb ha h) refl

load_behind : (op : LoadOp) (io : Bool) (a b imm : ℕ) → a < 32 → b < 32 → imm < 2 ^ 16 → statement_behind (name.Load op io) (operands_text (Two (Register b) (Based imm a))) ≡ Some (statement.Filled (insn.Load op io a b 0) (whole (signed_number imm)))
unfolding statement_behind operands_at
load_behind op io a b imm ha hb h = rw (register_base_read b imm a hb h ha) refl

store_behind : (w : Width) (io : Bool) (a b imm : ℕ) → a < 32 → b < 32 → imm < 2 ^ 16 → statement_behind (name.Store w io) (operands_text (Two (Register b) (Based imm a))) ≡ Some (statement.Filled (insn.Store w io a b 0) (whole (signed_number imm)))
unfolding statement_behind operands_at
store_behind w io a b imm ha hb h = rw (register_base_read b imm a hb h ha) refl

data_behind : (op : DataOp) (a imm : ℕ) → a < 32 → imm < 2 ^ 16 → statement_behind (name.Data op) (operands_text (One (Based imm a))) ≡ Some (statement.Filled (insn.Data op a 0) (whole (signed_number imm)))
unfolding statement_behind operands_at
data_behind op a imm ha h = rw (base_read imm a h ha) refl

code_behind : (op : CodeLineOp) (a : ℕ) → a < 32 → statement_behind (name.Code op) (operands_text (One (Register a))) ≡ Some (statement.Fixed (insn.Code op a))
unfolding statement_behind operands_at
code_behind op a ha = rw (register_last a ha) refl

reg_behind : (op : RegOp) (a b c : ℕ) → a < 32 → b < 32 → c < 32 → statement_behind (name.Reg op) (operands_text (Three (Register c) (Register a) (Register b))) ≡ Some (statement.Fixed (insn.Reg op a b c))
unfolding statement_behind operands_at
reg_behind op a b c ha hb hc = rw (three_read c a b hc ha hb) refl

shift_behind : (op : ShiftOp) (a c by : ℕ) → a < 32 → c < 32 → by < 32 → statement_behind (name.Shift op) (operands_text (Three (Register c) (Register a) (Number by))) ≡ Some (statement.Filled (insn.Shift op a c 0) (whole (plain by)))
unfolding statement_behind operands_at
shift_behind op a c by ha hc h = rw (two_number_read c a by hc ha (omega arith)) refl

jmp_behind : (a : ℕ) → a < 32 → statement_behind name.Jmp (operands_text (One (Register a))) ≡ Some (statement.Fixed (insn.Jmp a))
unfolding statement_behind operands_at
jmp_behind a ha = rw (register_last a ha) refl

callr_behind : (a : ℕ) → a < 32 → statement_behind name.Callr (operands_text (One (Register a))) ≡ Some (statement.Fixed (insn.Callr a))
unfolding statement_behind operands_at
callr_behind a ha = rw (register_last a ha) refl

nextpc_behind : (c : ℕ) → c < 32 → statement_behind name.Nextpc (operands_text (One (Register c))) ≡ Some (statement.Fixed (insn.Nextpc c))
unfolding statement_behind operands_at
nextpc_behind c hc = rw (register_last c hc) refl

rdctl_behind : (c n : ℕ) → c < 32 → n < 32 → statement_behind name.Rdctl (operands_text (Two (Register c) (Control n))) ≡ Some (statement.Fixed (insn.Rdctl c n))
unfolding statement_behind operands_at
rdctl_behind c n hc hn = rw (register_control_read c n hc hn) refl

wrctl_behind : (n a : ℕ) → n < 32 → a < 32 → statement_behind name.Wrctl (operands_text (Two (Control n) (Register a))) ≡ Some (statement.Fixed (insn.Wrctl n a))
unfolding statement_behind operands_at
wrctl_behind n a hn ha = rw (control_register_read n a hn ha) refl

trap_behind : (n : ℕ) → n < 32 → statement_behind name.Trap (operands_text (One (Number n))) ≡ Some (statement.Filled (insn.Trap 0) (whole (plain n)))
unfolding statement_behind operands_at
trap_behind n h = rw (decimal_not_over n (omega arith), count_last n (omega arith)) refl

break_behind : (n : ℕ) → n < 32 → statement_behind name.Break (operands_text (One (Number n))) ≡ Some (statement.Filled (insn.Break 0) (whole (plain n)))
unfolding statement_behind operands_at
break_behind n h = rw (decimal_not_over n (omega arith), count_last n (omega arith)) refl

ret_behind : statement_behind name.Ret [] ≡ Some (statement.Fixed insn.Ret)
unfolding statement_behind operands_at
ret_behind = refl

eret_behind : statement_behind name.Eret [] ≡ Some (statement.Fixed insn.Eret)
unfolding statement_behind operands_at
eret_behind = refl

flushp_behind : statement_behind name.Flushp [] ≡ Some (statement.Fixed insn.Flushp)
unfolding statement_behind operands_at
flushp_behind = refl

sync_behind : statement_behind name.Sync [] ≡ Some (statement.Fixed insn.Sync)
unfolding statement_behind operands_at
sync_behind = refl

-- an immediate of 16 bits, sign-extended or not
imm_read : (names : Names) (here : ℕ) (op : ImmOp) (a b imm : ℕ) (f : Field) → imm_field op ≡ f → (f ≡ field.Signed) ⊎ (f ≡ field.Unsigned) → a < 32 → b < 32 → imm < 2 ^ 16 → IsRead names here (insn.Imm op a b imm)
imm_read names here op a b imm f is (inl e) ha hb h =
    let signed : imm_field op ≡ field.Signed = is ∙ e in
    filled_line names here (insn.Imm op a b imm) (insn.Imm op a b 0) (signed_number imm) imm
    (subst (λ k. AllFit (Three (Register b) (Register a) (texts.immediate k imm))) (sym signed) (hb, ha, h))
    (subst (λ k. statement_behind (name.Imm op) (operands_text (Three (Register b) (Register a) (texts.immediate k imm))) ≡ Some (statement.Filled (insn.Imm op a b 0) (whole (signed_number imm)))) (sym signed) (signed_behind op a b imm ha hb h))
    (subst (λ k. field_bits k here part.Whole (signed_number imm) ≡ Ok imm) (sym signed) (signed_field here imm h)) refl
imm_read names here op a b imm f is (inr e) ha hb h =
    let unsigned : imm_field op ≡ field.Unsigned = is ∙ e in
    filled_line names here (insn.Imm op a b imm) (insn.Imm op a b 0) (plain imm) imm
    (subst (λ k. AllFit (Three (Register b) (Register a) (texts.immediate k imm))) (sym unsigned) (hb, ha, h))
    (subst (λ k. statement_behind (name.Imm op) (operands_text (Three (Register b) (Register a) (texts.immediate k imm))) ≡ Some (statement.Filled (insn.Imm op a b 0) (whole (plain imm)))) (sym unsigned) (unsigned_behind op a b imm ha hb h))
    (subst (λ k. field_bits k here part.Whole (plain imm) ≡ Ok imm) (sym unsigned) (unsigned_field here imm h)) refl

two : (a b : ℕ) → IsTrue (ltb a 32 && ltb b 32) → (a < 32) × (b < 32)
two a b v = (below a 32 (first _ _ v), below b 32 (second _ _ v))

three : (a b c : ℕ) → IsTrue (ltb a 32 && ltb b 32 && ltb c 32) → (a < 32) × (b < 32) × (c < 32)
three a b c v = let ab = two a b (first _ _ v) in (ab.0, ab.1, below c 32 (second _ _ v))

jump_small : (here target : ℕ) → here < 2 ^ 31 → target < 2 ^ 26 → jump_place here target < 2 ^ 32
jump_small here target near h = omega arith

insn_read : (names : Names) (here : ℕ) (i : Insn) → here < 2 ^ 31 → IsTrue (is_valid i) → IsTrue (has_half i) → IfSome (place_of here i) (λ place. place < 2 ^ 31) → IsRead names here i
insn_read names here (insn.Jump op target) near v h low =
    let fits : target < 2 ^ 26 = below target (2 ^ 26) v in
    filled_line names here (insn.Jump op target) (insn.Jump op 0) (plain (jump_place here target)) target tt (jump_behind op (jump_place here target) (jump_small here target near fits)) (target_field here target near fits) refl
insn_read names here (insn.Imm op a b imm) near v h low =
    let ab = two a b v in imm_read names here op a b imm (imm_field op) refl (half_kind op) ab.0 ab.1 (below imm (2 ^ 16) h)
insn_read names here (insn.Br imm) near v h low =
    let half : imm < 2 ^ 16 = below imm (2 ^ 16) h in
    let place : branch_place here imm < 2 ^ 31 = low in
    filled_line names here (insn.Br imm) (insn.Br 0) (plain (branch_place here imm)) imm tt (br_behind (branch_place here imm) (omega arith)) (offset_field here imm near half place) refl
insn_read names here (insn.Branch op a b imm) near v h low =
    let ab = two a b v in
    let half : imm < 2 ^ 16 = below imm (2 ^ 16) h in
    let place : branch_place here imm < 2 ^ 31 = low in
    filled_line names here (insn.Branch op a b imm) (insn.Branch op a b 0) (plain (branch_place here imm)) imm (ab.0, ab.1, tt) (branch_behind op a b (branch_place here imm) ab.0 ab.1 (omega arith)) (offset_field here imm near half place) refl
insn_read names here (insn.Load op io a b imm) near v h low =
    let ab = two a b v in
    let half : imm < 2 ^ 16 = below imm (2 ^ 16) h in
    filled_line names here (insn.Load op io a b imm) (insn.Load op io a b 0) (signed_number imm) imm (ab.1, (half, ab.0)) (load_behind op io a b imm ab.0 ab.1 half) (signed_field here imm half) refl
insn_read names here (insn.Store w io a b imm) near v h low =
    let ab = two a b v in
    let half : imm < 2 ^ 16 = below imm (2 ^ 16) h in
    filled_line names here (insn.Store w io a b imm) (insn.Store w io a b 0) (signed_number imm) imm (ab.1, (half, ab.0)) (store_behind w io a b imm ab.0 ab.1 half) (signed_field here imm half) refl
insn_read names here (insn.Data op a imm) near v h low =
    let ha : a < 32 = below a 32 v in
    let half : imm < 2 ^ 16 = below imm (2 ^ 16) h in
    filled_line names here (insn.Data op a imm) (insn.Data op a 0) (signed_number imm) imm (half, ha) (data_behind op a imm ha half) (signed_field here imm half) refl
insn_read names here (insn.Code op a) near v h low = let ha = below a 32 v in fixed_line names here (insn.Code op a) ha (code_behind op a ha)
insn_read names here (insn.Reg op a b c) near v h low =
    let abc = three a b c v in fixed_line names here (insn.Reg op a b c) (abc.2, abc.0, abc.1) (reg_behind op a b c abc.0 abc.1 abc.2)
insn_read names here (insn.Shift op a c by) near v h low =
    let abc = three a c by v in
    let five : by < 32 = abc.2 in
    let half : by < 2 ^ 16 = omega arith in
    filled_line names here (insn.Shift op a c by) (insn.Shift op a c 0) (plain by) by (abc.1, abc.0, half) (shift_behind op a c by abc.0 abc.1 five) (five_field here by five) refl
insn_read names here (insn.Jmp a) near v h low = let ha = below a 32 v in fixed_line names here (insn.Jmp a) ha (jmp_behind a ha)
insn_read names here (insn.Callr a) near v h low = let ha = below a 32 v in fixed_line names here (insn.Callr a) ha (callr_behind a ha)
insn_read names here insn.Ret near v h low = fixed_line names here insn.Ret tt ret_behind
insn_read names here insn.Eret near v h low = fixed_line names here insn.Eret tt eret_behind
insn_read names here (insn.Nextpc c) near v h low = let hc = below c 32 v in fixed_line names here (insn.Nextpc c) hc (nextpc_behind c hc)
insn_read names here (insn.Rdctl c n) near v h low = let cn = two c n v in fixed_line names here (insn.Rdctl c n) (cn.0, cn.1) (rdctl_behind c n cn.0 cn.1)
insn_read names here (insn.Wrctl n a) near v h low = let na = two n a v in fixed_line names here (insn.Wrctl n a) (na.0, na.1) (wrctl_behind n a na.0 na.1)
insn_read names here (insn.Trap imm) near v h low =
    let five : imm < 32 = below imm 32 v in
    let half : imm < 2 ^ 16 = omega arith in
    filled_line names here (insn.Trap imm) (insn.Trap 0) (plain imm) imm half (trap_behind imm five) (five_field here imm five) refl
insn_read names here (insn.Break imm) near v h low =
    let five : imm < 32 = below imm 32 v in
    let half : imm < 2 ^ 16 = omega arith in
    filled_line names here (insn.Break imm) (insn.Break 0) (plain imm) imm half (break_behind imm five) (five_field here imm five) refl
insn_read names here insn.Flushp near v h low = fixed_line names here insn.Flushp tt flushp_behind
insn_read names here insn.Sync near v h low = fixed_line names here insn.Sync tt sync_behind

-- the text of a word of the table, read again
pub line_read : (names : Names) (word here : ℕ) (i : Insn) → word < 2 ^ 32 → here < 2 ^ 31 → table_insn word ≡ Some i → IfSome (place_of here i) (λ place. place < 2 ^ 31) → statement_words names here (line_of word here) ≡ Ok (word_of i ∷ [])
unfolding line_of
line_read names word here i small near e low =
    ap (λ (o : Option Insn). statement_words names here (text_or_word word here o)) e
    ∙ insn_read names here i near (valid_found word i small e) (half_found word i e) low
