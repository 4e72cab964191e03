-- What holds of every instruction holds of every word.
use Rattle.std.proofs.Common.{◌≡◌, ℕ, ◌^◌, ◌<◌, Option, Some, None, refl, ap}
use Rattle.n2_insn.specs.declared.Insn.{Insn}
use Rattle.n2_insn.specs.Table.{table_insn}
use Rattle.n2_insn.proofs.Fits.{valid_found, half_found}
use Rattle.n2_exec.specs.declared.registers.Regs.{Regs}
use Rattle.n2_exec.specs.declared.Cause.TheVariants.{Illegal}
use Rattle.n2_exec.specs.declared.Outcome.TheVariants.{Raise}
use Rattle.n2_exec.specs.Registers.{AreWords}
use Rattle.n2_exec.specs.Outcomes.{regs_of, asked_of, IsProper, HasAddress}
use Rattle.n2_exec.specs.Effect.{effect_of, effect_found, effect_of_word}
use Rattle.n2_exec.specs.Follow.{Follows, HasBits}
use Rattle.n2_exec.proofs.Proper.{proper, same-follows, follows}
use Rattle.n2_exec.proofs.Bits.{bits}
use Rattle.n2_exec.proofs.Words.{words, addresses}

pub outside : (regs : Regs) (word : ℕ) → table_insn word ≡ None → effect_of_word regs word ≡ Raise Illegal
unfolding effect_of_word
outside regs word e = ap (effect_found regs) e

pub inside : (regs : Regs) (word : ℕ) (insn : Insn) → table_insn word ≡ Some insn → effect_of_word regs word ≡ effect_of regs insn
unfolding effect_of_word
inside regs word insn e = ap (effect_found regs) e

found-proper : (regs : Regs) (word : ℕ) (found : Option Insn) → word < 2 ^ 32 → table_insn word ≡ found → IsProper (asked_of (effect_found regs found))
found-proper regs word None lt e = tt
found-proper regs word (Some insn) lt e = proper regs insn (valid_found word insn lt e)

pub word-proper : (regs : Regs) (word : ℕ) → word < 2 ^ 32 → IsProper (asked_of (effect_of_word regs word))
unfolding effect_of_word
word-proper regs word lt = found-proper regs word (table_insn word) lt refl

found-follows : (regs : Regs) (found : Option Insn) → Follows regs (regs_of regs (effect_found regs found))
found-follows regs None = same-follows regs
found-follows regs (Some insn) = follows regs insn

pub word-follows : (regs : Regs) (word : ℕ) → Follows regs (regs_of regs (effect_of_word regs word))
unfolding effect_of_word
word-follows regs word = found-follows regs (table_insn word)

found-bits : (regs : Regs) (found : Option Insn) → HasBits regs → HasBits (regs_of regs (effect_found regs found))
found-bits regs None h = h
found-bits regs (Some insn) h = bits regs insn h

pub word-bits : (regs : Regs) (word : ℕ) → HasBits regs → HasBits (regs_of regs (effect_of_word regs word))
unfolding effect_of_word
word-bits regs word h = found-bits regs (table_insn word) h

found-words : (regs : Regs) (word : ℕ) (found : Option Insn) → AreWords regs → word < 2 ^ 32 → table_insn word ≡ found → AreWords (regs_of regs (effect_found regs found))
found-words regs word None w lt e = w
found-words regs word (Some insn) w lt e = words regs insn w (valid_found word insn lt e) (half_found word insn e)

pub word-words : (regs : Regs) (word : ℕ) → AreWords regs → word < 2 ^ 32 → AreWords (regs_of regs (effect_of_word regs word))
unfolding effect_of_word
word-words regs word w lt = found-words regs word (table_insn word) w lt refl

found-address : (regs : Regs) (word : ℕ) (found : Option Insn) → AreWords regs → word < 2 ^ 32 → table_insn word ≡ found → HasAddress (asked_of (effect_found regs found))
found-address regs word None w lt e = tt
found-address regs word (Some insn) w lt e = addresses regs insn w (valid_found word insn lt e)

pub word-address : (regs : Regs) (word : ℕ) → AreWords regs → word < 2 ^ 32 → HasAddress (asked_of (effect_of_word regs word))
unfolding effect_of_word
word-address regs word w lt = found-address regs word (table_insn word) w lt refl
