-- A word is ASCII.
use Rattle.std.proofs.Common.{◌≡◌, ℕ, zero, suc, ◌<◌, ◌≤◌, Bool, true, false, cond, List, [], ◌∷◌, refl, arith, inl, inr}
use Rattle.std.specs.Str.{IsAscii, IsUtf8}
use Rattle.std.proofs.lemmas.Str.{IsUtf8-from_ascii}
use Rattle.std.proofs.lemmas.Str.Ascii.{IsAscii-nil}
use Rattle.std.proofs.lemmas.Bool.{cases_Bool}
use Rattle.std.proofs.lemmas.Bool.Decides.{nat_tests}
use Rattle.n2_source.specs.Cursors.{is_word, word_at}

ascii_cons : (c : ℕ) (cs : List ℕ) → c < 128 → IsAscii cs → IsAscii (c ∷ cs)
ascii_cons c cs lt h zero = lt
ascii_cons c cs lt h (suc i) = h i

word_small : (c : ℕ) → is_word c ≡ true → c < 128
word_small c h = grind (arith, nat_tests)

ascii_word : (bs : List ℕ) → IsAscii (word_at bs).0
ascii_word [] = IsAscii-nil
ascii_word (c ∷ cs) =
    elim (cases_Bool (is_word c)) [
      | inl word ↦ rw word (ascii_cons c (word_at cs).0 (word_small c word) (ascii_word cs))
      | inr other ↦ rw other IsAscii-nil
    ]

-- a word is text
pub IsUtf8-word : (bs : List ℕ) → IsUtf8 (word_at bs).0
IsUtf8-word bs = IsUtf8-from_ascii (word_at bs).0 (ascii_word bs)
