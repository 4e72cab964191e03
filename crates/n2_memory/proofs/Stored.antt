-- Bytes of a segment, stored one by one or as words.
use Rattle.std.proofs.Common.{◌≡◌, ℕ, zero, suc, ◌+◌, ◌-◌, ◌*◌, ◌/◌, ◌%◌, ◌^◌, ◌<◌, ◌≤◌, inl, inr, List, [], ◌∷◌, ◌++◌, length, take, drop, get_or, slice_index, slice_set, replicate, refl, ap, sym, subst, ◌∙◌, drop-cons, length-append, arith}
use Rattle.std.proofs.lemmas.List.{drop_more, drop_all, get_or-replicate, get_or_past, get_or-set_same, set-set, set-get_or, length-replicate}
use Rattle.std.proofs.lemmas.Bool.{cases_lt}
use Rattle.std.proofs.Math.ListN.{length-set}
use Rattle.n2_word.specs.declared.Width.TheVariants.{Byte, Word}
use Rattle.n2_word.specs.Words.{bytes_of, number_of, merged}
use Rattle.n2_word.specs.Lines.{line}
use Rattle.n2_word.proofs.Lanes.{merged-four, number_of-bytes_of}
use Rattle.n2_elf.specs.declared.image.Segment.{Segment}
use Rattle.n2_elf.specs.declared.image.Image.{Image}
use Rattle.n2_elf.specs.Reading.{HoldsItsBytes}
use Rattle.n2_parts.specs.declared.board.MemoryRow.{MemoryRow}
use Rattle.n2_parts.specs.MemoryLines.{AreWholeLines, HasLine, line_place}
use Rattle.n2_parts.proofs.LinePlaces.{inside_address, inside_end}
use Rattle.n2_memory.specs.Memories.{Contents, IsFull, written_at}
use Rattle.n2_memory.specs.Start.{stored, bytes_of_segment, loaded, segments_of, IsInside}
use Rattle.n2_memory.proofs.Lines.{word_place, word_within, with_words, write_word}

-- ---- zeros behind bytes

pub length-bytes : (s : Segment) → HoldsItsBytes s → length (bytes_of_segment s) ≡ s.size
unfolding bytes_of_segment
length-bytes s holds = length-append s.bytes (replicate (s.size - length s.bytes) 0) ∙ ap (λ n. length s.bytes + n) (length-replicate (s.size - length s.bytes) 0) ∙ omega arith

pub zeros-get : (k i : ℕ) → ◌≡◌ {A = ℕ} (get_or (replicate k 0) i 0) 0
zeros-get k i = elim (cases_lt i k) [ inl lt ↦ get_or-replicate k i 0 0 lt | inr ge ↦ get_or_past (replicate k 0) i 0 (omega (arith, length-replicate {A = ℕ} k 0)) ]

padded-get : (bytes : List ℕ) (k i : ℕ) → get_or (bytes ++ replicate k 0) i 0 ≡ get_or bytes i 0
padded-get [] k i = zeros-get k i
padded-get (b ∷ bytes) k zero = refl
padded-get (b ∷ bytes) k (suc i) = padded-get bytes k i

-- a byte of a segment
pub byte_of_segment : (s : Segment) (i : ℕ) → get_or (bytes_of_segment s) i 0 ≡ get_or s.bytes i 0
unfolding bytes_of_segment
byte_of_segment s i = padded-get s.bytes (s.size - length s.bytes) i

pub nothing : (i n : ℕ) → number_of (take n (drop i [])) ≡ 0
nothing zero zero = refl
nothing zero (suc n) = refl
nothing (suc i) zero = refl
nothing (suc i) (suc n) = refl

next_number : (bytes : List ℕ) (i n : ℕ) → number_of (take (suc n) (drop i bytes)) ≡ get_or bytes i 0 + 2 ^ 8 * number_of (take n (drop (suc i) bytes))
next_number [] i n = omega (arith, nothing i (suc n), nothing (suc i) n)
next_number (b ∷ bytes) zero n = refl
next_number (b ∷ bytes) (suc i) n = next_number bytes i n

same_numbers : (xs ys : List ℕ) → ((i : ℕ) → get_or xs i 0 ≡ get_or ys i 0) → (n i : ℕ) → number_of (take n (drop i xs)) ≡ number_of (take n (drop i ys))
same_numbers xs ys same zero i = refl
same_numbers xs ys same (suc n) i =
    next_number xs i n ∙ ap (λ b. b + 2 ^ 8 * number_of (take n (drop (suc i) xs))) (same i)
    ∙ ap (λ k. get_or ys i 0 + 2 ^ 8 * k) (same_numbers xs ys same n (suc i)) ∙ sym (next_number ys i n)

-- a word of a segment
pub word_of_segment : (s : Segment) (i : ℕ) → number_of (take 4 (drop i (bytes_of_segment s))) ≡ number_of (take 4 (drop i s.bytes))
word_of_segment s i = same_numbers (bytes_of_segment s) s.bytes (byte_of_segment s) 4 i

-- ---- one byte

pub stored_byte : (m : Contents) (a i : ℕ) (bytes : List ℕ) → i < length bytes → stored m (a + i) (drop i bytes) ≡ stored (written_at m (a + i) Byte (get_or bytes i 0)) (a + (i + 1)) (drop (i + 1) bytes)
unfolding stored
stored_byte m a i bytes lt =
    let k : i + 1 ≡ suc i = omega arith in
    let next : a + i + 1 ≡ a + (i + 1) = omega arith in
    ap (stored m (a + i)) (drop-cons bytes i 0 lt)
    ∙ ap (λ n. stored (written_at m (a + i) Byte (get_or bytes i 0)) n (drop (suc i) bytes)) next
    ∙ ap (λ n. stored (written_at m (a + i) Byte (get_or bytes i 0)) (a + (i + 1)) (drop n bytes)) (sym k)

-- ---- four bytes

-- the memories with another word at an address
abbrev at_word : Contents → ℕ → ℕ → Contents
at_word m a word = with_words m (slice_set m.words (word_place m a) word)

full-at_word : (m : Contents) (a word : ℕ) → IsFull m → IsFull (at_word m a word)
full-at_word m a word full = (length-set m.words (word_place m a) word ∙ full.0, full.1)

same_line : (a j : ℕ) → a % 4 ≡ 0 → j < 4 → line (a + j) ≡ line a
same_line a j aligned lt = omega arith

-- one byte of a word
merge_byte : (m : Contents) (a word j byte : ℕ) → IsFull m → HasLine m.memories (line a) → a % 4 ≡ 0 → j < 4 → written_at (at_word m a word) (a + j) Byte byte ≡ at_word m a (merged word j Byte byte)
merge_byte m a word j byte full here aligned lt =
    let n : Contents = at_word m a word in
    let there : HasLine m.memories (line (a + j)) = subst (HasLine m.memories) (sym (same_line a j aligned lt)) here in
    let place : word_place m (a + j) ≡ word_place m a = ap (λ l. 8 * line_place m.memories l + (a + j) % 32 / 4) (same_line a j aligned lt) ∙ ap (λ k. 8 * line_place m.memories (line a) + k) (omega arith) in
    let lane : (a + j) % 4 ≡ j = omega arith in
    let within : word_place m a < length m.words = word_within m a full here in
    sym (write_word n (a + j) Byte byte (full-at_word m a word full) there)
    ∙ ap (λ p. with_words m (slice_set n.words p (merged (slice_index n.words p) ((a + j) % 4) Byte byte))) place
    ∙ ap (λ k. with_words m (slice_set n.words (word_place m a) (merged (slice_index n.words (word_place m a)) k Byte byte))) lane
    ∙ ap (λ w. with_words m (slice_set n.words (word_place m a) (merged w j Byte byte))) (get_or-set_same m.words (word_place m a) word 0 within)
    ∙ ap (with_words m) (set-set m.words (word_place m a) word (merged word j Byte byte))

-- a whole word
merge_word : (m : Contents) (a value : ℕ) → IsFull m → HasLine m.memories (line a) → a % 4 ≡ 0 → value < 2 ^ 32 → written_at m a Word value ≡ at_word m a value
merge_word m a value full here aligned small =
    let lane : a % 4 ≡ 0 = aligned in
    let whole : number_of (bytes_of value) ≡ value = number_of-bytes_of value small in
    sym (write_word m a Word value full here)
    ∙ ap (λ k. with_words m (slice_set m.words (word_place m a) (merged (slice_index m.words (word_place m a)) k Word value))) lane
    ∙ ap (at_word m a) whole

-- four bytes stored one by one are their word
four_bytes : (m : Contents) (a b0 b1 b2 b3 : ℕ) → IsFull m → HasLine m.memories (line a) → a % 4 ≡ 0 → b0 < 2 ^ 8 → b1 < 2 ^ 8 → b2 < 2 ^ 8 → b3 < 2 ^ 8
    → written_at (written_at (written_at (written_at m a Byte b0) (a + 1) Byte b1) (a + 1 + 1) Byte b2) (a + 1 + 1 + 1) Byte b3 ≡ written_at m a Word (number_of (b0 ∷ b1 ∷ b2 ∷ b3 ∷ []))
four_bytes m a b0 b1 b2 b3 full here aligned h0 h1 h2 h3 =
    let w : ℕ = slice_index m.words (word_place m a) in
    let w0 : ℕ = merged w 0 Byte b0 in
    let w1 : ℕ = merged w0 1 Byte b1 in
    let w2 : ℕ = merged w1 2 Byte b2 in
    let as_is : m ≡ at_word m a w = ap (with_words m) (sym (set-get_or m.words (word_place m a) 0)) in
    let e0 : written_at m a Byte b0 ≡ at_word m a w0 = ap (λ (x : Contents). written_at x a Byte b0) as_is ∙ ap (λ k. written_at (at_word m a w) k Byte b0) (omega arith) ∙ merge_byte m a w 0 b0 full here aligned (omega arith) in
    let e1 : written_at (written_at m a Byte b0) (a + 1) Byte b1 ≡ at_word m a w1 = ap (λ (x : Contents). written_at x (a + 1) Byte b1) e0 ∙ merge_byte m a w0 1 b1 full here aligned (omega arith) in
    let e2 : written_at (written_at (written_at m a Byte b0) (a + 1) Byte b1) (a + 1 + 1) Byte b2 ≡ at_word m a w2 = ap (λ (x : Contents). written_at x (a + 1 + 1) Byte b2) e1 ∙ ap (λ k. written_at (at_word m a w1) k Byte b2) (omega arith) ∙ merge_byte m a w1 2 b2 full here aligned (omega arith) in
    ap (λ (x : Contents). written_at x (a + 1 + 1 + 1) Byte b3) e2 ∙ ap (λ k. written_at (at_word m a w2) k Byte b3) (omega arith) ∙ merge_byte m a w2 3 b3 full here aligned (omega arith)
    ∙ ap (at_word m a) (merged-four w b0 b1 b2 b3 h0 h1 h2 h3)
    ∙ sym (merge_word m a (number_of (b0 ∷ b1 ∷ b2 ∷ b3 ∷ [])) full here aligned (omega arith))

four_cons : (bytes : List ℕ) (i : ℕ) → i + 4 ≤ length bytes → drop i bytes ≡ get_or bytes i 0 ∷ get_or bytes (i + 1) 0 ∷ get_or bytes (i + 2) 0 ∷ get_or bytes (i + 3) 0 ∷ drop (i + 4) bytes
four_cons bytes i fits =
    let e2 : i + 1 + 1 ≡ i + 2 = omega arith in
    let e3 : i + 2 + 1 ≡ i + 3 = omega arith in
    let e4 : i + 3 + 1 ≡ i + 4 = omega arith in
    let c3 : drop (i + 3) bytes ≡ get_or bytes (i + 3) 0 ∷ drop (i + 4) bytes = drop_more bytes (i + 3) 0 (omega arith) ∙ ap (λ k. get_or bytes (i + 3) 0 ∷ drop k bytes) e4 in
    let c2 : drop (i + 2) bytes ≡ get_or bytes (i + 2) 0 ∷ drop (i + 3) bytes = drop_more bytes (i + 2) 0 (omega arith) ∙ ap (λ k. get_or bytes (i + 2) 0 ∷ drop k bytes) e3 in
    let c1 : drop (i + 1) bytes ≡ get_or bytes (i + 1) 0 ∷ drop (i + 2) bytes = drop_more bytes (i + 1) 0 (omega arith) ∙ ap (λ k. get_or bytes (i + 1) 0 ∷ drop k bytes) e2 in
    drop_more bytes i 0 (omega arith)
    ∙ ap (λ (r : List ℕ). get_or bytes i 0 ∷ r) (c1 ∙ ap (λ (r : List ℕ). get_or bytes (i + 1) 0 ∷ r) (c2 ∙ ap (λ (r : List ℕ). get_or bytes (i + 2) 0 ∷ r) c3))

pub stored_word : (m : Contents) (a i : ℕ) (bytes : List ℕ) → IsFull m → HasLine m.memories (line (a + i)) → (a + i) % 4 ≡ 0 → i + 4 ≤ length bytes → ((k : ℕ) → get_or bytes k 0 < 2 ^ 8)
    → stored m (a + i) (drop i bytes) ≡ stored (written_at m (a + i) Word (number_of (take 4 (drop i bytes)))) (a + (i + 4)) (drop (i + 4) bytes)
unfolding stored
stored_word m a i bytes full here aligned fits small =
    let cut = four_cons bytes i fits in
    let rest : List ℕ = drop (i + 4) bytes in
    let next : a + i + 1 + 1 + 1 + 1 ≡ a + (i + 4) = omega arith in
    ap (stored m (a + i)) cut
    ∙ ap (λ (x : Contents). stored x (a + i + 1 + 1 + 1 + 1) rest) (four_bytes m (a + i) (get_or bytes i 0) (get_or bytes (i + 1) 0) (get_or bytes (i + 2) 0) (get_or bytes (i + 3) 0) full here aligned (small i) (small (i + 1)) (small (i + 2)) (small (i + 3)))
    ∙ ap (λ n. stored (written_at m (a + i) Word (number_of (get_or bytes i 0 ∷ get_or bytes (i + 1) 0 ∷ get_or bytes (i + 2) 0 ∷ get_or bytes (i + 3) 0 ∷ []))) n rest) next
    ∙ ap (λ (bs : List ℕ). stored (written_at m (a + i) Word (number_of (take 4 bs))) (a + (i + 4)) rest) (sym cut)

-- ---- the code's steps

pub byte_step : (m new : Contents) (s : Segment) (i byte : ℕ) → HoldsItsBytes s → i < s.size → byte ≡ get_or s.bytes i 0 → new ≡ written_at m (s.at + i) Byte byte
    → stored new (s.at + (i + 1)) (drop (i + 1) (bytes_of_segment s)) ≡ stored m (s.at + i) (drop i (bytes_of_segment s))
byte_step m new s i byte holds lt is wrote =
    let bytes : List ℕ = bytes_of_segment s in
    ap (λ (x : Contents). stored x (s.at + (i + 1)) (drop (i + 1) bytes)) (wrote ∙ ap (written_at m (s.at + i) Byte) (is ∙ sym (byte_of_segment s i)))
    ∙ sym (stored_byte m s.at i bytes (omega (arith, length-bytes s holds)))

pub word_step : (m new : Contents) (s : Segment) (i j word : ℕ) → j ≡ i + 4 → IsFull m → HasLine m.memories (line (s.at + i)) → (s.at + i) % 4 ≡ 0 → HoldsItsBytes s → i + 4 ≤ s.size → ((k : ℕ) → get_or s.bytes k 0 < 2 ^ 8)
    → word ≡ number_of (take 4 (drop i s.bytes)) → new ≡ written_at m (s.at + i) Word word
    → stored new (s.at + j) (drop j (bytes_of_segment s)) ≡ stored m (s.at + i) (drop i (bytes_of_segment s))
word_step m new s i j word next full here aligned holds within small is wrote =
    let bytes : List ℕ = bytes_of_segment s in
    let bytes_small : (k : ℕ) → get_or bytes k 0 < 2 ^ 8 = λ k. rw (byte_of_segment s k) (small k) in
    ap (λ n. stored new (s.at + n) (drop n bytes)) next
    ∙ ap (λ (x : Contents). stored x (s.at + (i + 4)) (drop (i + 4) bytes)) (wrote ∙ ap (written_at m (s.at + i) Word) (is ∙ sym (word_of_segment s i)))
    ∙ sym (stored_word m s.at i bytes full here aligned (omega (arith, length-bytes s holds)) bytes_small)

-- nothing of a segment is left
pub all_stored : (m : Contents) (s : Segment) → HoldsItsBytes s → stored m (s.at + s.size) (drop s.size (bytes_of_segment s)) ≡ m
unfolding stored
all_stored m s holds = ap (stored m (s.at + s.size)) (drop_all s.size (bytes_of_segment s) (omega (arith, length-bytes s holds)))

-- memories have so many bytes from an address on
abbrev pub AreThere : List MemoryRow → ℕ → ℕ → Type 0
AreThere memories a n = (a + n ≤ 2 ^ 31) × ((i : ℕ) → i < n → HasLine memories (line (a + i)))

pub inside_there : (memories : List MemoryRow) (s : Segment) → AreWholeLines memories → IsInside memories s → AreThere memories s.at s.size
inside_there memories s whole inside = (inside_end memories s.at s.size whole inside, λ i lt. inside_address memories s.at s.size i whole inside lt)

-- a byte of a segment is in memories that are the same
pub inside_here : (old new : List MemoryRow) (s : Segment) (i : ℕ) → new ≡ old → AreWholeLines old → IsInside old s → i < s.size → HasLine new (line (s.at + i))
inside_here old new s i same whole inside lt = subst (λ (rows : List MemoryRow). HasLine rows (line (s.at + i))) (sym same) (inside_address old s.at s.size i whole inside lt)

-- ---- one image after another

loaded-append : (m : Contents) (xs ys : List Segment) → loaded m (xs ++ ys) ≡ loaded (loaded m xs) ys
unfolding loaded
loaded-append m [] ys = refl
loaded-append m (s ∷ xs) ys = loaded-append (stored m s.at (bytes_of_segment s)) xs ys

pub image_step : (m new : Contents) (images : List Image) (i : ℕ) (image : Image) → i < length images → image ≡ get_or images i image → new ≡ loaded m image.segments
    → loaded new (segments_of (drop (i + 1) images)) ≡ loaded m (segments_of (drop i images))
unfolding segments_of
image_step m new images i image lt here is =
    ap (λ (x : Contents). loaded x (segments_of (drop (i + 1) images))) is
    ∙ sym (loaded-append m image.segments (segments_of (drop (i + 1) images)))
    ∙ ap (λ (x : Image). loaded m (x.segments ++ segments_of (drop (i + 1) images))) here
    ∙ ap (λ (xs : List Image). loaded m (segments_of xs)) (sym (drop_more images i image lt))
