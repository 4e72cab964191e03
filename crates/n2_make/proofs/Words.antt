-- The words of a generator, one after another.
use Rattle.std.proofs.Common.{◌≡◌, ℕ, suc, ◌+◌, ◌-◌, ◌<◌, [], ◌++◌, List, ap, arith, sym, ◌∙◌}
use Rattle.std.proofs.lemmas.List.{append_assoc}
use Rattle.rand_pcg.specs.Lcg.{Lcg}
use Rattle.rand_pcg.specs.Pcg.{pcg32}
use Rattle.n2_order.specs.Choices.{words_of}
use Rattle.n2_make.specs.Programs.{behind, section, sections}

one_left : (n i : ℕ) → i < n → n - i ≡ suc (n - (i + 1))
one_left n i below = omega arith

next_sections : (n i : ℕ) (g : Lcg) → i < n → sections (words_of (n - i) g) ≡ section (pcg32 g).0 ++ sections (words_of (n - (i + 1)) (pcg32 g).1)
next_sections n i g below = ap (λ left. sections (words_of left g)) (one_left n i below)

-- one more section: a text with the sections that are left is as it was
pub next_text : (n i : ℕ) (g after : Lcg) (word : ℕ) (out longer all : List ℕ)
    → i < n → (word, after) ≡ pcg32 g → longer ≡ out ++ section word → out ++ sections (words_of (n - i) g) ≡ all
    → longer ++ sections (words_of (n - (i + 1)) after) ≡ all
next_text n i g after word out longer all below drawn put held =
    ap (λ text. text ++ sections (words_of (n - (i + 1)) after)) put
    ∙ append_assoc out (section word) (sections (words_of (n - (i + 1)) after))
    ∙ ap (λ (pair : ℕ × Lcg). out ++ (section pair.0 ++ sections (words_of (n - (i + 1)) pair.1))) drawn
    ∙ ap (λ text. out ++ text) (sym (next_sections n i g below))
    ∙ held

-- the generator behind the words that are left is as it was
pub next_behind : (n i : ℕ) (g after last : Lcg) (word : ℕ)
    → i < n → (word, after) ≡ pcg32 g → behind (n - i) g ≡ last → behind (n - (i + 1)) after ≡ last
next_behind n i g after last word below drawn held =
    ap (λ (pair : ℕ × Lcg). behind (n - (i + 1)) pair.1) drawn ∙ sym (ap (λ left. behind left g) (one_left n i below)) ∙ held

none_left : (n : ℕ) → n - n ≡ 0
none_left n = omega arith

pub no_sections : (n : ℕ) (g : Lcg) → sections (words_of (n - n) g) ≡ []
no_sections n g = ap (λ left. sections (words_of left g)) (none_left n)

pub behind_none : (n : ℕ) (g : Lcg) → behind (n - n) g ≡ g
behind_none n g = ap (λ left. behind left g) (none_left n)
