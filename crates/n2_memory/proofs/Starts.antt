-- The bytes of the memories at the start.
use Rattle.std.proofs.Common.{◌≡◌, ◌≢◌, ℕ, zero, suc, ◌+◌, ◌-◌, ◌*◌, ◌%◌, ◌^◌, ◌<◌, ◌≤◌, ◌⊎◌, inl, inr, Bool, true, false, cond, List, [], ◌∷◌, ◌++◌, length, take, drop, get_or, replicate, Option, Some, None, IsTrue, refl, ap, sym, subst, ◌∙◌, arith}
use Rattle.std.specs.Prelude.{◌&&◌, nat_le, nat_lt, unwrap_or}
use Rattle.std.specs.List.{AllByRecursion}
use Rattle.std.specs.Option.{option_or}
use Rattle.std.proofs.lemmas.Bool.{cases_order, cases_lt, cond-true, cond-false}
use Rattle.std.proofs.lemmas.Bool.Decides.{nat_tests}
use Rattle.std.proofs.lemmas.List.{length-replicate}
use Rattle.n2_word.specs.declared.Width.TheVariants.{Byte}
use Rattle.n2_word.specs.Words.{is_aligned, number_of, extracted, lane_of}
use Rattle.n2_word.specs.Lines.{without_bypass, line, place_in_line}
use Rattle.n2_elf.specs.declared.image.Segment.{Segment}
use Rattle.n2_elf.specs.declared.image.Image.{Image}
use Rattle.n2_elf.specs.Reading.{HoldsItsBytes, IsSized}
use Rattle.n2_parts.specs.declared.board.MemoryRow.{MemoryRow}
use Rattle.n2_parts.specs.MemoryLines.{AreWholeLines, HasLine, line_count}
use Rattle.n2_memory.specs.Memories.{Contents, IsFull, first_word, read_at, written_at}
use Rattle.n2_memory.specs.Start.{stored, bytes_of_segment, loaded, segments_of, zeros, start, IsInside, AreInside, segment_byte, last_byte, start_byte}
use Rattle.n2_memory.proofs.Lines.{word_of_eight}
use Rattle.n2_memory.proofs.Writes.{full-written_at, read_same, read_beside}
use Rattle.n2_memory.proofs.Stored.{length-bytes, nothing, byte_of_segment, zeros-get, AreThere, inside_there}

-- the first byte is there, and those behind it
first_there : (memories : List MemoryRow) (at n : ℕ) → AreThere memories at (suc n) → HasLine memories (line at)
first_there memories at n there = ap-free (there.1 0 (omega arith))
  where
    ap-free : HasLine memories (line (at + 0)) → HasLine memories (line at)
    ap-free h = let e : at + 0 ≡ at = omega arith in subst (λ a. HasLine memories (line a)) e h

rest_there : (memories : List MemoryRow) (at n : ℕ) → AreThere memories at (suc n) → AreThere memories (at + 1) n
rest_there memories at n there = (omega (arith, there.0), λ i lt. let e : at + suc i ≡ at + 1 + i = omega arith in subst (λ a. HasLine memories (line a)) e (there.1 (suc i) (omega arith)))

-- stores keep the memories whole
pub stored_full : (m : Contents) (at : ℕ) (bytes : List ℕ) → IsFull m → AreThere m.memories at (length bytes) → IsFull (stored m at bytes)
unfolding stored
stored_full m at [] full there = full
stored_full m at (b ∷ bytes) full there =
    stored_full (written_at m at Byte b) (at + 1) bytes (full-written_at m at Byte b full (first_there m.memories at (length bytes) there)) (rest_there m.memories at (length bytes) there)

pub stored_memories : (m : Contents) (at : ℕ) (bytes : List ℕ) → (stored m at bytes).memories ≡ m.memories
unfolding stored
stored_memories m at [] = refl
stored_memories m at (b ∷ bytes) = stored_memories (written_at m at Byte b) (at + 1) bytes

-- ---- by bytes

-- so many bytes from one on cover another
abbrev covers : ℕ → ℕ → ℕ → Bool
covers at n a = nat_le at a && nat_lt a (at + n)

is_covered : (at n a : ℕ) → at ≤ a → a < at + n → covers at n a ≡ true
is_covered at n a low high = grind (arith, nat_tests)

is_before : (at n a : ℕ) → a < at → covers at n a ≡ false
is_before at n a low = grind (arith, nat_tests)

is_behind : (at n a : ℕ) → at + n ≤ a → covers at n a ≡ false
is_behind at n a high = grind (arith, nat_tests)

none_covered : (at a : ℕ) → covers at 0 a ≡ false
none_covered at a = elim (cases_lt a at) [ inl less ↦ is_before at 0 a less | inr more ↦ is_behind at 0 a (omega arith) ]

bytes_aligned : (a : ℕ) → IsTrue (is_aligned a Byte)
bytes_aligned a = grind (arith, nat_tests)

two_bytes : (a at : ℕ) → a < 2 ^ 31 → at < 2 ^ 31 → a ≢ at → (without_bypass a + 1 ≤ without_bypass at) ⊎ (without_bypass at + 1 ≤ without_bypass a)
two_bytes a at lt low ne = elim (cases_order a at) [ inl e ↦ absurd (ne e) | inr apart ↦ elim apart [ inl less ↦ inl (omega arith) | inr more ↦ inr (omega arith) ] ]

-- what is read after one byte
other_byte : (m : Contents) (at b a : ℕ) → IsFull m → at < 2 ^ 31 → HasLine m.memories (line at) → a < 2 ^ 31 → HasLine m.memories (line a) → a ≢ at → read_at (written_at m at Byte b) a Byte ≡ read_at m a Byte
other_byte m at b a full low here lt there ne = read_beside m at Byte b a Byte full here there (bytes_aligned at) (two_bytes a at lt low ne)

-- what is read after bytes
pub stored_read : (m : Contents) (at : ℕ) (bytes : List ℕ) (a : ℕ) → IsFull m → AreThere m.memories at (length bytes) → a < 2 ^ 31 → HasLine m.memories (line a)
    → read_at (stored m at bytes) a Byte ≡ cond (covers at (length bytes) a) (get_or bytes (a - at) 0 % 2 ^ 8) (read_at m a Byte)
unfolding stored
stored_read m at [] a full there lt here = sym (cond-false (covers at 0 a) (get_or [] (a - at) 0 % 2 ^ 8) (read_at m a Byte) (none_covered at a))
stored_read m at (b ∷ bytes) a full there lt here =
    let n : ℕ = length bytes in
    let first = first_there m.memories at n there in
    let next : Contents = written_at m at Byte b in
    let low : at < 2 ^ 31 = omega (arith, there.0) in
    let byte : ℕ = get_or bytes (a - (at + 1)) 0 % 2 ^ 8 in
    let byte' : ℕ = get_or (b ∷ bytes) (a - at) 0 % 2 ^ 8 in
    let so_far : read_at (stored next (at + 1) bytes) a Byte ≡ cond (covers (at + 1) n a) byte (read_at next a Byte) =
    stored_read next (at + 1) bytes a (full-written_at m at Byte b full first) (rest_there m.memories at n there) lt here
    in
    elim (cases_order a at) [
      | inl e ↦
          let none : a - at ≡ 0 = omega arith in
          so_far ∙ cond-false (covers (at + 1) n a) byte (read_at next a Byte) (is_before (at + 1) n a (omega arith))
          ∙ ap (λ x. read_at next x Byte) e ∙ read_same m at Byte b full first (bytes_aligned at)
          ∙ sym (cond-true (covers at (suc n) a) byte' (read_at m a Byte) (is_covered at (suc n) a (omega arith) (omega arith)) ∙ ap (λ k. get_or (b ∷ bytes) k 0 % 2 ^ 8) none)
      | inr apart ↦
          let ne : a ≢ at = elim apart [ inl less ↦ λ e. omega arith | inr more ↦ λ e. omega arith ] in
          let kept : read_at next a Byte ≡ read_at m a Byte = other_byte m at b a full low first lt here ne in
          elim apart [
            | inl less ↦
                so_far ∙ cond-false (covers (at + 1) n a) byte (read_at next a Byte) (is_before (at + 1) n a (omega arith))
                ∙ kept ∙ sym (cond-false (covers at (suc n) a) byte' (read_at m a Byte) (is_before at (suc n) a less))
            | inr more ↦
                let same : a - at ≡ suc (a - (at + 1)) = omega arith in
                elim (cases_lt a (at + suc n)) [
                  | inl within ↦
                      so_far ∙ cond-true (covers (at + 1) n a) byte (read_at next a Byte) (is_covered (at + 1) n a (omega arith) (omega arith))
                      ∙ sym (cond-true (covers at (suc n) a) byte' (read_at m a Byte) (is_covered at (suc n) a (omega arith) within) ∙ ap (λ k. get_or (b ∷ bytes) k 0 % 2 ^ 8) same)
                  | inr past ↦
                      so_far ∙ cond-false (covers (at + 1) n a) byte (read_at next a Byte) (is_behind (at + 1) n a (omega arith))
                      ∙ kept ∙ sym (cond-false (covers at (suc n) a) byte' (read_at m a Byte) (is_behind at (suc n) a past))
                ]
          ]
    ]

-- ---- by segments

or_rest : (b : Bool) (x r : ℕ) → cond b x r ≡ unwrap_or (cond b (Some x) None) r
or_rest true x r = refl
or_rest false x r = refl

segment_read : (m : Contents) (s : Segment) (a : ℕ) → IsFull m → AreThere m.memories s.at s.size → HoldsItsBytes s → a < 2 ^ 31 → HasLine m.memories (line a)
    → read_at (stored m s.at (bytes_of_segment s)) a Byte ≡ unwrap_or (segment_byte s a) (read_at m a Byte)
unfolding segment_byte
segment_read m s a full there holds lt here =
    let bytes : List ℕ = bytes_of_segment s in
    let long : length bytes ≡ s.size = length-bytes s holds in
    stored_read m s.at bytes a full (subst (AreThere m.memories s.at) (sym long) there) lt here
    ∙ ap (λ n. cond (covers s.at n a) (get_or bytes (a - s.at) 0 % 2 ^ 8) (read_at m a Byte)) long
    ∙ ap (λ b. cond (covers s.at s.size a) (b % 2 ^ 8) (read_at m a Byte)) (byte_of_segment s (a - s.at))
    ∙ or_rest (covers s.at s.size a) (get_or s.bytes (a - s.at) 0 % 2 ^ 8) (read_at m a Byte)

or_either : (o p : Option ℕ) (r : ℕ) → unwrap_or o (unwrap_or p r) ≡ unwrap_or (option_or o p) r
or_either None p r = refl
or_either (Some x) p r = refl

loaded_read : (m : Contents) (segments : List Segment) (a : ℕ) → IsFull m → AreWholeLines m.memories → AllByRecursion (λ s. IsInside m.memories s) segments → AllByRecursion HoldsItsBytes segments → a < 2 ^ 31 → HasLine m.memories (line a)
    → read_at (loaded m segments) a Byte ≡ unwrap_or (last_byte segments a) (read_at m a Byte)
unfolding loaded last_byte
loaded_read m [] a full whole inside hold lt here = refl
loaded_read m (s ∷ segments) a full whole inside hold lt here =
    let bytes : List ℕ = bytes_of_segment s in
    let next : Contents = stored m s.at bytes in
    let there : AreThere m.memories s.at s.size = inside_there m.memories s whole inside.0 in
    let long : length bytes ≡ s.size = length-bytes s hold.0 in
    let same : m.memories ≡ next.memories = sym (stored_memories m s.at bytes) in
    loaded_read next segments a
    (stored_full m s.at bytes full (subst (AreThere m.memories s.at) (sym long) there))
    (subst AreWholeLines same whole)
    (subst (λ (rows : List MemoryRow). AllByRecursion (λ t. IsInside rows t) segments) same inside.1) hold.1
    lt
    (subst (λ (rows : List MemoryRow). HasLine rows (line a)) same here)
    ∙ ap (unwrap_or (last_byte segments a)) (segment_read m s a full there hold.0 lt here)
    ∙ or_either (last_byte segments a) (segment_byte s a) (read_at m a Byte)

loaded_full : (m : Contents) (segments : List Segment) → IsFull m → AreWholeLines m.memories → AllByRecursion (λ s. IsInside m.memories s) segments → AllByRecursion HoldsItsBytes segments → IsFull (loaded m segments)
unfolding loaded
loaded_full m [] full whole inside hold = full
loaded_full m (s ∷ segments) full whole inside hold =
    let bytes : List ℕ = bytes_of_segment s in
    let there : AreThere m.memories s.at s.size = inside_there m.memories s whole inside.0 in
    let long : length bytes ≡ s.size = length-bytes s hold.0 in
    let same : m.memories ≡ (stored m s.at bytes).memories = sym (stored_memories m s.at bytes) in
    loaded_full (stored m s.at bytes) segments
    (stored_full m s.at bytes full (subst (AreThere m.memories s.at) (sym long) there))
    (subst AreWholeLines same whole)
    (subst (λ (rows : List MemoryRow). AllByRecursion (λ t. IsInside rows t) segments) same inside.1) hold.1

-- ---- from zeros

both_all : (P : Segment → Type 0) (xs ys : List Segment) → AllByRecursion P xs → AllByRecursion P ys → AllByRecursion P (xs ++ ys)
both_all P [] ys h g = g
both_all P (x ∷ xs) ys h g = (h.0, both_all P xs ys h.1 g)

all_segments : (P : Segment → Type 0) (images : List Image) → AllByRecursion (λ image. AllByRecursion P image.segments) images → AllByRecursion P (segments_of images)
unfolding segments_of
all_segments P [] h = tt
all_segments P (image ∷ images) h = both_all P image.segments (segments_of images) h.0 (all_segments P images h.1)

zero_byte : (lane : ℕ) → number_of (take 1 (drop lane (0 ∷ 0 ∷ 0 ∷ 0 ∷ []))) ≡ 0
zero_byte zero = refl
zero_byte (suc zero) = refl
zero_byte (suc (suc zero)) = refl
zero_byte (suc (suc (suc zero))) = refl
zero_byte (suc (suc (suc (suc lane)))) = nothing lane 1

zeros_read : (memories : List MemoryRow) (a : ℕ) → read_at (zeros memories) a Byte ≡ 0
unfolding zeros
zeros_read memories a =
    let n : ℕ = 8 * line_count memories in
    ap (λ w. extracted w (lane_of a) Byte) (word_of_eight (replicate n 0) (first_word (zeros memories) (line a)) (place_in_line a) (omega arith) ∙ zeros-get n (first_word (zeros memories) (line a) + place_in_line a))
    ∙ zero_byte (lane_of a)

pub zeros_full : (memories : List MemoryRow) → line_count memories ≤ 2 ^ 23 → IsFull (zeros memories)
unfolding zeros
zeros_full memories few = (length-replicate {A = ℕ} (8 * line_count memories) 0, few)

-- the byte at an address at the start
pub start_read : (memories : List MemoryRow) (images : List Image) (a : ℕ) → AreWholeLines memories → line_count memories ≤ 2 ^ 23 → AreInside memories images → AllByRecursion IsSized images → a < 2 ^ 31 → HasLine memories (line a)
    → read_at (start memories images) a Byte ≡ start_byte images a
unfolding start start_byte zeros
start_read memories images a whole few inside sized lt here =
    loaded_read (zeros memories) (segments_of images) a (zeros_full memories few) whole (all_segments (IsInside memories) images inside) (all_segments HoldsItsBytes images sized) lt here
    ∙ ap (unwrap_or (last_byte (segments_of images) a)) (zeros_read memories a)

pub start_full : (memories : List MemoryRow) (images : List Image) → AreWholeLines memories → line_count memories ≤ 2 ^ 23 → AreInside memories images → AllByRecursion IsSized images → IsFull (start memories images)
unfolding start zeros
start_full memories images whole few inside sized = loaded_full (zeros memories) (segments_of images) (zeros_full memories few) whole (all_segments (IsInside memories) images inside) (all_segments HoldsItsBytes images sized)
