-- The words of a line among all words.
use Rattle.std.proofs.Common.{◌≡◌, ℕ, ◌+◌, ◌*◌, ◌/◌, ◌%◌, ◌<◌, ◌≤◌, List, ◌++◌, length, take, drop, get_or, slice_index, slice_set, ap, sym, subst, ◌∙◌, append_assoc, arith, length-take, length-drop, get_or-take, get_or-drop}
use Rattle.std.proofs.lemmas.List.{get_or_read, take-append-drop, drop-drop, take-set-le, drop-set-lt, drop-set-add}
use Rattle.std.proofs.Math.ListN.{length-set}
use Rattle.std.proofs.Math.Seq.{take-set-lt}
use Rattle.n2_word.specs.declared.Width.{Width}
use Rattle.n2_word.specs.Words.{put_at, extracted, merged}
use Rattle.n2_word.specs.Lines.{line}
use Rattle.n2_parts.specs.MemoryLines.{HasLine, line_place}
use Rattle.n2_memory.specs.Memories.{Contents, IsFull, first_word, read_at, written_at}

-- a line's words are among all words
pub line_within : (m : Contents) (l : ℕ) → IsFull m → HasLine m.memories l → first_word m l + 8 ≤ length m.words
line_within m l full here = omega (arith, full.0, here)

pub length-eight : (xs : List ℕ) (n : ℕ) → n + 8 ≤ length xs → length (take 8 (drop n xs)) ≡ 8
length-eight xs n fits = simp (length-take, length-drop) (omega arith)

pub word_of_eight : (xs : List ℕ) (n i : ℕ) → i < 8 → slice_index (take 8 (drop n xs)) i ≡ slice_index xs (n + i)
word_of_eight xs n i h = get_or-take 8 (drop n xs) i 0 h ∙ get_or-drop n xs i 0

-- one word of eight is put by putting the eight
put_in_eight : (xs : List ℕ) (n i v : ℕ) → i < 8 → n + 8 ≤ length xs → put_at xs n (slice_set (take 8 (drop n xs)) i v) ≡ slice_set xs (n + i) v
put_in_eight xs n i v h fits =
    let ys : List ℕ = drop n xs in
    let new : List ℕ = slice_set (take 8 ys) i v in
    let long : length new ≡ 8 = length-set (take 8 ys) i v ∙ length-eight xs n fits in
    let behind : drop (n + length new) xs ≡ drop 8 ys = ap (λ k. drop (n + k) xs) long ∙ sym (drop-drop 8 n xs) in
    let inner : new ++ drop 8 ys ≡ slice_set ys i v =
    ap (λ (a : List ℕ). a ++ drop 8 ys) (sym (take-set-lt 8 ys i v h))
    ∙ ap (λ (b : List ℕ). take 8 (slice_set ys i v) ++ b) (sym (drop-set-lt 8 ys i v h))
    ∙ take-append-drop 8 (slice_set ys i v)
    in
    append_assoc (take n xs) new (drop (n + length new) xs)
    ∙ ap (λ (z : List ℕ). take n xs ++ (new ++ z)) behind
    ∙ ap (λ (z : List ℕ). take n xs ++ z) (inner ∙ sym (drop-set-add n xs i v))
    ∙ ap (λ (a : List ℕ). a ++ drop n (slice_set xs (n + i) v)) (sym (take-set-le n xs (n + i) v (omega arith)))
    ∙ take-append-drop n (slice_set xs (n + i) v)

-- the place of an address's word
abbrev pub word_place : Contents → ℕ → ℕ
word_place m address = first_word m (line address) + address % 32 / 4

pub word_within : (m : Contents) (address : ℕ) → IsFull m → HasLine m.memories (line address) → word_place m address < length m.words
word_within m address full here = let fits = line_within m (line address) full here in omega arith

-- a load reads one word
pub read_word : (m : Contents) (address : ℕ) (width : Width) → extracted (slice_index m.words (word_place m address)) (address % 4) width ≡ read_at m address width
read_word m address width = ap (λ w. extracted w (address % 4) width) (sym (word_of_eight m.words (first_word m (line address)) (address % 32 / 4) (omega arith)))

abbrev pub with_words : Contents → List ℕ → Contents
with_words m words = record { memories = m.memories; words = words }

-- a store puts one word
pub write_word : (m : Contents) (address : ℕ) (width : Width) (value : ℕ) → IsFull m → HasLine m.memories (line address) → with_words m (slice_set m.words (word_place m address) (merged (slice_index m.words (word_place m address)) (address % 4) width value)) ≡ written_at m address width value
write_word m address width value full here =
    let first : ℕ = first_word m (line address) in
    let at : ℕ = address % 32 / 4 in
    let word : slice_index (take 8 (drop first m.words)) at ≡ slice_index m.words (first + at) = word_of_eight m.words first at (omega arith) in
    ap (with_words m) (
    ap (λ w. slice_set m.words (first + at) (merged w (address % 4) width value)) (sym word)
    ∙ sym (put_in_eight m.words first at (merged (slice_index (take 8 (drop first m.words)) at) (address % 4) width value) (omega arith) (line_within m (line address) full here))
    )

-- what the code reads, and what it writes
pub read_is : (m s : Contents) (p word address result : ℕ) (width : Width) → m ≡ s → IsFull m → HasLine s.memories (line address)
    → p ≡ line_place m.memories (line address) → word ≡ get_or m.words (8 * p + address % 32 / 4) word → result ≡ extracted word (address % 4) width
    → result ≡ read_at s address width
read_is m s p word address result width same full there found read is =
    let here : HasLine m.memories (line address) = subst (λ (x : Contents). HasLine x.memories (line address)) (sym same) there in
    let at : 8 * p + address % 32 / 4 ≡ word_place m address = omega (arith, found) in
    let within : 8 * p + address % 32 / 4 < length m.words = omega (arith, word_within m address full here) in
    let same_word : word ≡ slice_index m.words (word_place m address) = get_or_read m.words (8 * p + address % 32 / 4) word within read 0 ∙ ap (slice_index m.words) at in
    is ∙ ap (λ w. extracted w (address % 4) width) same_word ∙ read_word m address width ∙ ap (λ (x : Contents). read_at x address width) same

pub written_is : (m s : Contents) (p word address value result : ℕ) (width : Width) → m ≡ s → IsFull m → HasLine s.memories (line address)
    → p ≡ line_place m.memories (line address) → word ≡ get_or m.words (8 * p + address % 32 / 4) word → result ≡ merged word (address % 4) width value
    → with_words m (slice_set m.words (8 * p + address % 32 / 4) result) ≡ written_at s address width value
written_is m s p word address value result width same full there found read is =
    let here : HasLine m.memories (line address) = subst (λ (x : Contents). HasLine x.memories (line address)) (sym same) there in
    let at : 8 * p + address % 32 / 4 ≡ word_place m address = omega (arith, found) in
    let within : 8 * p + address % 32 / 4 < length m.words = omega (arith, word_within m address full here) in
    let same_word : word ≡ slice_index m.words (word_place m address) = get_or_read m.words (8 * p + address % 32 / 4) word within read 0 ∙ ap (slice_index m.words) at in
    ap (λ k. with_words m (slice_set m.words k result)) at
    ∙ ap (λ r. with_words m (slice_set m.words (word_place m address) r)) (is ∙ ap (λ w. merged w (address % 4) width value) same_word)
    ∙ write_word m address width value full here
    ∙ ap (λ (x : Contents). written_at x address width value) same
