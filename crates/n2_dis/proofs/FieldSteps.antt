-- The bits of fields, from the numbers that were written.
use Rattle.std.proofs.Common.{◌≡◌, ℕ, zero, suc, ◌+◌, ◌-◌, ◌*◌, ◌/◌, ◌%◌, ◌^◌, ◌<◌, ◌≤◌, Bool, true, false, cond, eqb, leb, ltb, List, [], ◌∷◌, Option, Some, None, Result, Ok, Err, refl, sym, ap, subst, ◌∙◌, inl, inr, arith}
use Rattle.std.specs.Prelude.{◌&&◌, ◌⊎◌, not}
use Rattle.std.proofs.lemmas.Bool.{cases_Bool, cond-true, cond-false, le-leb, lt-ltb, le-ltb, lt-leb, ltb-true, ltb-false, ne_eqb, eq-eqb}
use Rattle.n2_word.specs.Words.{signed_half}
use Rattle.n2_insn.specs.declared.Insn.{Insn}
use Rattle.n2_insn.specs.declared.ImmOp.{ImmOp}
use Rattle.n2_insn.specs.declared.ImmOp.TheVariants.{Addi, Muli, Andi, Ori, Xori, Andhi, Orhi, Xorhi, Cmpgei, Cmplti, Cmpnei, Cmpeqi, Cmpgeui, Cmpltui}
use Rattle.n2_insn.specs.Table.{word_of}
use Rattle.n2_source.specs.declared.numbers.Number.{Number}
use Rattle.n2_source.specs.declared.operands.Part.TheVariants as part
use Rattle.n2_source.specs.Numbers.{plain, minus}
use Rattle.n2_statement.specs.declared.faults.AsmKind.{AsmKind}
use Rattle.n2_statement.specs.declared.faults.AsmKind.TheVariants as kind
use Rattle.n2_statement.specs.declared.statements.Statement.{Statement}
use Rattle.n2_statement.specs.declared.statements.Statement.TheVariants as statement
use Rattle.n2_statement.specs.declared.values.Field.{Field}
use Rattle.n2_statement.specs.declared.values.Field.TheVariants as field
use Rattle.n2_statement.specs.Statements.{◌>=◌, whole, statement_of}
use Rattle.n2_statement.specs.Values.{Names, in_range, immediate_value, imm_field, field_of, signed_bits, offset_bits, target_bits, field_bits, filled, filled_insn, content_of, statement_words}
use Rattle.n2_dis.specs.Texts.{branch_place, jump_place}
use Rattle.n2_dis.proofs.OperandSteps.{signed_number}

-- ---- numbers

low_bits : (imm : ℕ) → imm < 2 ^ 15 → signed_bits (plain imm) ≡ Ok imm
low_bits imm lt = cond-true (ltb imm (2 ^ 15)) (Ok imm) (Err kind.Range) (lt-ltb imm (2 ^ 15) lt)

high_size : (size imm : ℕ) → size ≡ 2 ^ 16 - imm → 2 ^ 15 ≤ imm → imm < 2 ^ 16 → signed_bits (minus size) ≡ Ok imm
high_size size imm is low high =
    let some : eqb size 0 ≡ false = ne_eqb size 0 (λ e. omega arith) in
    let few : leb size (2 ^ 15) ≡ true = le-leb size (2 ^ 15) (omega arith) in
    let same : (2 ^ 16 - size) % 2 ^ 16 ≡ imm = omega arith in
    rw (some, few, same) refl

pub signed_field : (here imm : ℕ) → imm < 2 ^ 16 → field_bits field.Signed here part.Whole (signed_number imm) ≡ Ok imm
unfolding field_bits
signed_field here imm lt =
    elim (cases_Bool (ltb imm (2 ^ 15))) [
      | inl low ↦ ap signed_bits (cond-true (ltb imm (2 ^ 15)) (plain imm) (minus (2 ^ 16 - imm)) low) ∙ low_bits imm (ltb-true imm (2 ^ 15) low)
      | inr high ↦ ap signed_bits (cond-false (ltb imm (2 ^ 15)) (plain imm) (minus (2 ^ 16 - imm)) high) ∙ high_size (2 ^ 16 - imm) imm refl (ltb-false imm (2 ^ 15) high) lt
    ]

pub unsigned_field : (here n : ℕ) → n < 2 ^ 16 → field_bits field.Unsigned here part.Whole (plain n) ≡ Ok n
unfolding field_bits
unsigned_field here n lt = cond-true (ltb n (2 ^ 16)) (Ok n) (Err kind.Range) (lt-ltb n (2 ^ 16) lt)

pub five_field : (here n : ℕ) → n < 32 → field_bits field.Five here part.Whole (plain n) ≡ Ok n
unfolding field_bits
five_field here n lt = cond-true (ltb n 32) (Ok n) (Err kind.Range) (lt-ltb n 32 lt)

-- ---- places

ahead : (here place imm : ℕ) → place ≡ here + 4 + imm → imm < 2 ^ 15 → offset_bits here place ≡ Ok imm
ahead here place imm is lt =
    let after : leb (here + 4) place ≡ true = le-leb (here + 4) place (omega arith) in
    let far : place - (here + 4) ≡ imm = omega arith in
    let near : ltb imm (2 ^ 15) ≡ true = lt-ltb imm (2 ^ 15) lt in
    rw (after, far, near) refl

back : (here place imm : ℕ) → place + 2 ^ 16 ≡ here + 4 + imm → 2 ^ 15 ≤ imm → imm < 2 ^ 16 → offset_bits here place ≡ Ok imm
back here place imm is low high =
    let after : leb (here + 4) place ≡ false = lt-leb (here + 4) place (omega arith) in
    let far : here + 4 - place ≡ 2 ^ 16 - imm = omega arith in
    let near : leb (2 ^ 16 - imm) (2 ^ 15) ≡ true = le-leb (2 ^ 16 - imm) (2 ^ 15) (omega arith) in
    let same : (2 ^ 16 - (2 ^ 16 - imm)) % 2 ^ 16 ≡ imm = omega arith in
    rw (after, far, near, same) refl

straight : (here imm place half : ℕ) → here < 2 ^ 31 → imm < 2 ^ 15 → half ≡ imm → place ≡ (here + 4 + half) % 2 ^ 32 → place ≡ here + 4 + imm
straight here imm place half near few h is = omega arith

round : (here imm place half : ℕ) → here < 2 ^ 31 → 2 ^ 15 ≤ imm → imm < 2 ^ 16 → half ≡ imm + (2 ^ 32 - 2 ^ 16) → place ≡ (here + 4 + half) % 2 ^ 32 → place < 2 ^ 31 → place + 2 ^ 16 ≡ here + 4 + imm
round here imm place half near many lt h is low = omega arith

place_offset : (here place imm : ℕ) → place < 2 ^ 31 → offset_bits here place ≡ Ok imm → field_bits field.Offset here part.Whole (plain place) ≡ Ok imm
unfolding field_bits
place_offset here place imm lt e = let fits : ltb place (2 ^ 32) ≡ true = lt-ltb place (2 ^ 32) (omega arith) in rw fits e

place_target : (here place target : ℕ) → place < 2 ^ 32 → target_bits here place ≡ Ok target → field_bits field.Target here part.Whole (plain place) ≡ Ok target
unfolding field_bits
place_target here place target lt e = let fits : ltb place (2 ^ 32) ≡ true = lt-ltb place (2 ^ 32) lt in rw fits e

branch_offset : (here imm place : ℕ) → here < 2 ^ 31 → imm < 2 ^ 16 → place ≡ branch_place here imm → place < 2 ^ 31 → offset_bits here place ≡ Ok imm
branch_offset here imm place near lt is low =
    elim (cases_Bool (ltb imm (2 ^ 15))) [
      | inl small ↦
          let few : imm < 2 ^ 15 = ltb-true imm (2 ^ 15) small in
          let half : signed_half imm ≡ imm = cond-true (ltb imm (2 ^ 15)) imm (imm + (2 ^ 32 - 2 ^ 16)) small in
          ahead here place imm (straight here imm place (signed_half imm) near few half is) few
      | inr large ↦
          let many : 2 ^ 15 ≤ imm = ltb-false imm (2 ^ 15) large in
          let half : signed_half imm ≡ imm + (2 ^ 32 - 2 ^ 16) = cond-false (ltb imm (2 ^ 15)) imm (imm + (2 ^ 32 - 2 ^ 16)) large in
          back here place imm (round here imm place (signed_half imm) near many lt half is low) many lt
    ]

pub offset_field : (here imm : ℕ) → here < 2 ^ 31 → imm < 2 ^ 16 → branch_place here imm < 2 ^ 31 → field_bits field.Offset here part.Whole (plain (branch_place here imm)) ≡ Ok imm
offset_field here imm near lt low = place_offset here (branch_place here imm) imm low (branch_offset here imm (branch_place here imm) near lt refl low)

target_here : (here target place : ℕ) → here < 2 ^ 31 → target < 2 ^ 26 → place ≡ jump_place here target → target_bits here place ≡ Ok target
target_here here target place near lt is =
    let even : place % 4 ≡ 0 = omega arith in
    let block : place / 2 ^ 28 ≡ here / 2 ^ 28 = omega arith in
    let word : place / 4 % 2 ^ 26 ≡ target = omega arith in
    let first : eqb (place % 4) 0 ≡ true = eq-eqb (place % 4) 0 even in
    let second : eqb (place / 2 ^ 28) (here / 2 ^ 28) ≡ true = eq-eqb (place / 2 ^ 28) (here / 2 ^ 28) block in
    rw (first, second, word) refl

pub target_field : (here target : ℕ) → here < 2 ^ 31 → target < 2 ^ 26 → field_bits field.Target here part.Whole (plain (jump_place here target)) ≡ Ok target
target_field here target near lt = place_target here (jump_place here target) target (omega arith) (target_here here target (jump_place here target) near lt refl)

-- ---- words

pub fixed_words : (names : Names) (here : ℕ) (row : List ℕ) (i : Insn) → statement_of row ≡ Ok (Some (statement.Fixed i)) → statement_words names here row ≡ Ok (word_of i ∷ [])
unfolding statement_words content_of
fixed_words names here row i e = rw e refl

filled_with : (names : Names) (here : ℕ) (i : Insn) (n : Number) (bits : ℕ) → field_bits (field_of i) here part.Whole n ≡ Ok bits → filled_insn names here i (whole n) ≡ Ok (filled i bits)
unfolding filled_insn immediate_value
filled_with names here i n bits e = rw e refl

pub filled_words : (names : Names) (here : ℕ) (row : List ℕ) (i : Insn) (n : Number) (bits : ℕ) → statement_of row ≡ Ok (Some (statement.Filled i (whole n)))
    → field_bits (field_of i) here part.Whole n ≡ Ok bits → statement_words names here row ≡ Ok (word_of (filled i bits) ∷ [])
unfolding statement_words content_of
filled_words names here row i n bits e f = rw (e, filled_with names here i n bits f) refl

-- the immediates of 16 bits are sign-extended or not
pub half_kind : (op : ImmOp) → (imm_field op ≡ field.Signed) ⊎ (imm_field op ≡ field.Unsigned)
half_kind Addi = inl refl
half_kind Muli = inl refl
half_kind Andi = inr refl
half_kind Ori = inr refl
half_kind Xori = inr refl
half_kind Andhi = inr refl
half_kind Orhi = inr refl
half_kind Xorhi = inr refl
half_kind Cmpgei = inl refl
half_kind Cmplti = inl refl
half_kind Cmpnei = inl refl
half_kind Cmpeqi = inl refl
half_kind Cmpgeui = inr refl
half_kind Cmpltui = inr refl
