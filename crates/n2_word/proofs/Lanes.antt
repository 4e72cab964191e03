-- The bytes of a merged word.
use Rattle.std.proofs.lemmas.Bool.{false≢true}
use Rattle.std.proofs.lemmas.Bool.Decides.{nat_tests}
use Rattle.std.proofs.Common.{◌≡◌, ◌≢◌, ℕ, zero, suc, ◌+◌, ◌*◌, ◌/◌, ◌%◌, ◌^◌, ◌<◌, ◌≤◌, ◌⊎◌, inl, inr, List, [], ◌∷◌, length, take, drop, IsTrue, refl, sym, ap, ◌∙◌, arith}
use Rattle.n2_word.proofs.Places.{read_there, read_in_front, read_behind}
use Rattle.n2_word.specs.declared.Width.{Width}
use Rattle.n2_word.specs.declared.Width.TheVariants.{Byte, Half, Word}
use Rattle.n2_word.specs.Words.{size, is_aligned, lane_of, bytes_of, number_of, put_at, extracted, merged, low_bits}

pub upper_lane : (lane : ℕ) → lane ≢ 0 → lane < 4 → IsTrue (is_aligned lane Half) → lane ≡ 2
upper_lane zero other lt h = absurd (other refl)
upper_lane (suc zero) other lt h = absurd (false≢true h)
upper_lane (suc (suc zero)) other lt h = refl
upper_lane (suc (suc (suc zero))) other lt h = absurd (false≢true h)
upper_lane (suc (suc (suc (suc n)))) other lt h = absurd (omega arith)

-- four bytes are those of their number
pub bytes_of-number_of : (a b c d : ℕ) → a < 2 ^ 8 → b < 2 ^ 8 → c < 2 ^ 8 → d < 2 ^ 8 → bytes_of (number_of (a ∷ b ∷ c ∷ d ∷ [])) ≡ a ∷ b ∷ c ∷ d ∷ []
bytes_of-number_of a b c d ha hb hc hd =
    let n : ℕ = number_of (a ∷ b ∷ c ∷ d ∷ []) in
    let e0 : n % 2 ^ 8 ≡ a = omega arith in
    let e1 : n / 2 ^ 8 % 2 ^ 8 ≡ b = omega arith in
    let e2 : n / 2 ^ 16 % 2 ^ 8 ≡ c = omega arith in
    let e3 : n / 2 ^ 24 % 2 ^ 8 ≡ d = omega arith in
    rw (e0, e1, e2, e3) refl

pub number_of-bytes_of : (word : ℕ) → word < 2 ^ 32 → number_of (bytes_of word) ≡ word
number_of-bytes_of word lt = omega arith

pub bytes_of-merged : (word lane : ℕ) (width : Width) (value : ℕ) → lane < 4 → IsTrue (is_aligned lane width) → bytes_of (merged word lane width value) ≡ put_at (bytes_of word) lane (take (size width) (bytes_of value))
bytes_of-merged word zero Byte value lt h = bytes_of-number_of _ _ _ _ (omega arith) (omega arith) (omega arith) (omega arith)
bytes_of-merged word (suc zero) Byte value lt h = bytes_of-number_of _ _ _ _ (omega arith) (omega arith) (omega arith) (omega arith)
bytes_of-merged word (suc (suc zero)) Byte value lt h = bytes_of-number_of _ _ _ _ (omega arith) (omega arith) (omega arith) (omega arith)
bytes_of-merged word (suc (suc (suc zero))) Byte value lt h = bytes_of-number_of _ _ _ _ (omega arith) (omega arith) (omega arith) (omega arith)
bytes_of-merged word zero Half value lt h = bytes_of-number_of _ _ _ _ (omega arith) (omega arith) (omega arith) (omega arith)
bytes_of-merged word (suc zero) Half value lt h = absurd (false≢true h)
bytes_of-merged word (suc (suc zero)) Half value lt h = bytes_of-number_of _ _ _ _ (omega arith) (omega arith) (omega arith) (omega arith)
bytes_of-merged word (suc (suc (suc zero))) Half value lt h = absurd (false≢true h)
bytes_of-merged word zero Word value lt h = bytes_of-number_of _ _ _ _ (omega arith) (omega arith) (omega arith) (omega arith)
bytes_of-merged word (suc zero) Word value lt h = absurd (false≢true h)
bytes_of-merged word (suc (suc zero)) Word value lt h = absurd (false≢true h)
bytes_of-merged word (suc (suc (suc zero))) Word value lt h = absurd (false≢true h)
bytes_of-merged word (suc (suc (suc (suc n)))) width value lt h = absurd (omega arith)

-- the low bytes of a value are its low bits
pub number_of-low : (width : Width) (value : ℕ) → number_of (take (size width) (bytes_of value)) ≡ low_bits width value
number_of-low Byte value = omega arith
number_of-low Half value = omega arith
number_of-low Word value = omega arith

pub length-low : (width : Width) (value : ℕ) → length (take (size width) (bytes_of value)) ≡ size width
length-low Byte value = refl
length-low Half value = refl
length-low Word value = refl

-- an aligned access stays in its word
pub fits_in_word : (lane : ℕ) (width : Width) → lane < 4 → IsTrue (is_aligned lane width) → lane + size width ≤ 4
fits_in_word lane Byte lt h = omega arith
fits_in_word zero Half lt h = omega arith
fits_in_word (suc zero) Half lt h = absurd (false≢true h)
fits_in_word (suc (suc zero)) Half lt h = omega arith
fits_in_word (suc (suc (suc zero))) Half lt h = absurd (false≢true h)
fits_in_word (suc (suc (suc (suc n)))) Half lt h = absurd (omega arith)
fits_in_word zero Word lt h = omega arith
fits_in_word (suc zero) Word lt h = absurd (false≢true h)
fits_in_word (suc (suc zero)) Word lt h = absurd (false≢true h)
fits_in_word (suc (suc (suc zero))) Word lt h = absurd (false≢true h)
fits_in_word (suc (suc (suc (suc n)))) Word lt h = absurd (omega arith)

-- any bytes of a word are below the next power
pub number_of-four : (a b c d : ℕ) → a < 2 ^ 8 → b < 2 ^ 8 → c < 2 ^ 8 → d < 2 ^ 8 → number_of (a ∷ b ∷ c ∷ d ∷ []) < 2 ^ 32
number_of-four a b c d ha hb hc hd = omega arith

pub merged-small : (word lane : ℕ) (width : Width) (value : ℕ) → lane < 4 → IsTrue (is_aligned lane width) → merged word lane width value < 2 ^ 32
merged-small word zero Byte value lt h = number_of-four _ _ _ _ (omega arith) (omega arith) (omega arith) (omega arith)
merged-small word (suc zero) Byte value lt h = number_of-four _ _ _ _ (omega arith) (omega arith) (omega arith) (omega arith)
merged-small word (suc (suc zero)) Byte value lt h = number_of-four _ _ _ _ (omega arith) (omega arith) (omega arith) (omega arith)
merged-small word (suc (suc (suc zero))) Byte value lt h = number_of-four _ _ _ _ (omega arith) (omega arith) (omega arith) (omega arith)
merged-small word zero Half value lt h = number_of-four _ _ _ _ (omega arith) (omega arith) (omega arith) (omega arith)
merged-small word (suc zero) Half value lt h = absurd (false≢true h)
merged-small word (suc (suc zero)) Half value lt h = number_of-four _ _ _ _ (omega arith) (omega arith) (omega arith) (omega arith)
merged-small word (suc (suc (suc zero))) Half value lt h = absurd (false≢true h)
merged-small word zero Word value lt h = number_of-four _ _ _ _ (omega arith) (omega arith) (omega arith) (omega arith)
merged-small word (suc zero) Word value lt h = absurd (false≢true h)
merged-small word (suc (suc zero)) Word value lt h = absurd (false≢true h)
merged-small word (suc (suc (suc zero))) Word value lt h = absurd (false≢true h)
merged-small word (suc (suc (suc (suc n)))) width value lt h = absurd (omega arith)

pub extracted-small : (word lane : ℕ) (width : Width) → lane < 4 → IsTrue (is_aligned lane width) → extracted word lane width < 2 ^ (8 * size width)
extracted-small word zero Byte lt h = omega arith
extracted-small word (suc zero) Byte lt h = omega arith
extracted-small word (suc (suc zero)) Byte lt h = omega arith
extracted-small word (suc (suc (suc zero))) Byte lt h = omega arith
extracted-small word zero Half lt h = omega arith
extracted-small word (suc zero) Half lt h = absurd (false≢true h)
extracted-small word (suc (suc zero)) Half lt h = omega arith
extracted-small word (suc (suc (suc zero))) Half lt h = absurd (false≢true h)
extracted-small word zero Word lt h = omega arith
extracted-small word (suc zero) Word lt h = absurd (false≢true h)
extracted-small word (suc (suc zero)) Word lt h = absurd (false≢true h)
extracted-small word (suc (suc (suc zero))) Word lt h = absurd (false≢true h)
extracted-small word (suc (suc (suc (suc n)))) width lt h = absurd (omega arith)

pub extracted-merged : (word lane : ℕ) (width : Width) (value : ℕ) → lane < 4 → IsTrue (is_aligned lane width) → extracted (merged word lane width value) lane width ≡ low_bits width value
extracted-merged word lane width value lt h =
    let low : List ℕ = take (size width) (bytes_of value) in
    ap (λ (bytes : List ℕ). number_of (take (size width) (drop lane bytes))) (bytes_of-merged word lane width value lt h)
    ∙ ap (λ n. number_of (take n (drop lane (put_at (bytes_of word) lane low)))) (sym (length-low width value))
    ∙ ap number_of (read_there (bytes_of word) lane low (omega arith))
    ∙ number_of-low width value

pub extracted-beside : (word lane : ℕ) (width : Width) (value lane' : ℕ) (width' : Width) → lane < 4 → IsTrue (is_aligned lane width) → (lane' + size width' ≤ lane) ⊎ (lane + size width ≤ lane') → extracted (merged word lane width value) lane' width' ≡ extracted word lane' width'
extracted-beside word lane width value lane' width' lt h apart =
    let low : List ℕ = take (size width) (bytes_of value) in
    let long : length low ≡ size width = length-low width value in
    ap (λ (bytes : List ℕ). number_of (take (size width') (drop lane' bytes))) (bytes_of-merged word lane width value lt h)
    ∙ ap number_of (elim apart [
      | inl before ↦ read_in_front (bytes_of word) lane low lane' (size width') (omega arith) before
      | inr after ↦ read_behind (bytes_of word) lane low lane' (size width') (omega arith) (omega (arith, long))
    ])

pub aligned_lane : (address : ℕ) (width : Width) → IsTrue (is_aligned address width) → IsTrue (is_aligned (lane_of address) width)
aligned_lane address Byte h = grind (arith, nat_tests)
aligned_lane address Half h = grind (arith, nat_tests)
aligned_lane address Word h = grind (arith, nat_tests)

-- four bytes merged one by one make their word
pub merged-four : (word a b c d : ℕ) → a < 2 ^ 8 → b < 2 ^ 8 → c < 2 ^ 8 → d < 2 ^ 8 → merged (merged (merged (merged word 0 Byte a) 1 Byte b) 2 Byte c) 3 Byte d ≡ number_of (a ∷ b ∷ c ∷ d ∷ [])
merged-four word a b c d ha hb hc hd =
    let e0 = bytes_of-merged word 0 Byte a (omega arith) refl in
    let e1 = bytes_of-merged (merged word 0 Byte a) 1 Byte b (omega arith) refl ∙ ap (λ (bytes : List ℕ). put_at bytes 1 (take 1 (bytes_of b))) e0 in
    let e2 = bytes_of-merged (merged (merged word 0 Byte a) 1 Byte b) 2 Byte c (omega arith) refl ∙ ap (λ (bytes : List ℕ). put_at bytes 2 (take 1 (bytes_of c))) e1 in
    ap (λ (bytes : List ℕ). number_of (put_at bytes 3 (take 1 (bytes_of d)))) e2 ∙ omega arith
