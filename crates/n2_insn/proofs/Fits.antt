-- What a word of the table stands for is valid.
use Rattle.std.proofs.Common.{◌≡◌, ◌^◌, ◌<◌, ℕ, true, Option, Some, None, IfSome, nat_lt, IsTrue, refl, sym, arith}
use Rattle.std.proofs.lemmas.Bool.Decides.{nat_tests}
use Rattle.std.specs.List.{list_all}
use Rattle.n2_insn.specs.declared.Insn.{Insn}
use Rattle.n2_insn.specs.Fields.{a_of, b_of, c_of, imm5_of, imm16_of, imm26_of}
use Rattle.n2_insn.specs.Table.{row, has_number, instructions, table_insn, is_valid, has_half}
use Rattle.n2_insn.proofs.Found.{find-passes, find-all}

tested : (m n : ℕ) → m < n → nat_lt m n ≡ true
tested m n h = grind (arith, nat_tests)

all_valid : (word : ℕ) → word < 2 ^ 32 → list_all is_valid (instructions word) ≡ true
all_valid word small =
    let a : nat_lt (a_of word) 32 ≡ true = tested _ _ (omega arith) in
    let b : nat_lt (b_of word) 32 ≡ true = tested _ _ (omega arith) in
    let c : nat_lt (c_of word) 32 ≡ true = tested _ _ (omega arith) in
    let by : nat_lt (imm5_of word) 32 ≡ true = tested _ _ (omega arith) in
    let target : nat_lt (imm26_of word) (2 ^ 26) ≡ true = tested _ _ (omega arith) in
    rw (target, a, b, c, by) refl

all_half : (word : ℕ) → list_all has_half (instructions word) ≡ true
all_half word = let imm : nat_lt (imm16_of word) (2 ^ 16) ≡ true = tested _ _ (omega arith) in rw imm refl

pub number_found : (word : ℕ) (insn : Insn) → table_insn word ≡ Some insn → IsTrue (has_number word (row insn))
unfolding table_insn
number_found word insn e = find-passes (λ insn. has_number word (row insn)) (instructions word) insn e

pub valid_found : (word : ℕ) (insn : Insn) → word < 2 ^ 32 → table_insn word ≡ Some insn → IsTrue (is_valid insn)
unfolding table_insn
valid_found word insn small e =
    find-all (λ insn. has_number word (row insn)) is_valid (instructions word) insn (all_valid word small) e

pub half_found : (word : ℕ) (insn : Insn) → table_insn word ≡ Some insn → IsTrue (has_half insn)
unfolding table_insn
half_found word insn e =
    find-all (λ insn. has_number word (row insn)) has_half (instructions word) insn (all_half word) e

pub found_valid : (word : ℕ) (found : Option Insn) → word < 2 ^ 32 → found ≡ table_insn word → IfSome found (λ insn. IsTrue (is_valid insn))
found_valid word None small e = tt
found_valid word (Some insn) small e = valid_found word insn small (sym e)
