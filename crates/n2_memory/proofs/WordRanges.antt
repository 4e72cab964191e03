-- What memories hold, and what is read from them, are words.
use Rattle.std.proofs.Common.{◌≡◌, ℕ, ◌+◌, ◌*◌, ◌%◌, ◌^◌, ◌<◌, List, [], ◌∷◌, ◌++◌, length, take, drop, get_or, IsTrue, refl, ◌∙◌, arith}
use Rattle.std.proofs.lemmas.Bool.Decides.{nat_tests}
use Rattle.std.specs.List.{All}
use Rattle.std.proofs.lemmas.List.Elements.{All-append, All-take, All-drop, All-set, All-replicate}
use Rattle.n2_word.specs.declared.Width.{Width}
use Rattle.n2_word.specs.declared.Width.TheVariants.{Byte}
use Rattle.n2_word.specs.Words.{size, is_aligned, lane_of, merged}
use Rattle.n2_word.specs.Lines.{line, place_in_line, written_in_line}
use Rattle.n2_word.proofs.Lanes.{merged-small, extracted-small, aligned_lane}
use Rattle.n2_elf.specs.declared.image.Segment.{Segment}
use Rattle.n2_elf.specs.declared.image.Image.{Image}
use Rattle.n2_parts.specs.declared.board.MemoryRow.{MemoryRow}
use Rattle.n2_parts.specs.MemoryLines.{line_count}
use Rattle.n2_memory.specs.Memories.{Contents, AreWords, first_word, line_at, with_line, read_at, written_at}
use Rattle.n2_memory.specs.Start.{stored, bytes_of_segment, loaded, segments_of, zeros, start}
use Rattle.n2_memory.proofs.Starts.{stored_memories}

abbrev IsWord : ℕ → Type 0
IsWord n = n < 2 ^ 32

pub line_words : (m : Contents) (l : ℕ) → AreWords m.words → AreWords (line_at m l)
line_words m l all = All-take IsWord 8 (drop (first_word m l) m.words) (All-drop IsWord (first_word m l) m.words all)

pub read_below : (m : Contents) (address : ℕ) (width : Width) → IsTrue (is_aligned address width) → read_at m address width < 2 ^ (8 * size width)
read_below m address width aligned =
    extracted-small (get_or (line_at m (line address)) (place_in_line address) 0) (lane_of address) width (omega arith) (aligned_lane address width aligned)

pub put_words : (m : Contents) (l : ℕ) (words : List ℕ) → AreWords m.words → AreWords words → AreWords (with_line m l words).words
put_words m l words all new =
    let at : ℕ = first_word m l in
    let front : List ℕ = take at m.words in
    let back : List ℕ = drop (at + length words) m.words in
    All-append IsWord (front ++ words) back (All-append IsWord front words (All-take IsWord at m.words all) new) (All-drop IsWord (at + length words) m.words all)

pub stored_word : (m : Contents) (address : ℕ) (width : Width) (value : ℕ) → AreWords m.words → IsTrue (is_aligned address width) → AreWords (written_at m address width value).words
stored_word m address width value all aligned =
    let words : List ℕ = line_at m (line address) in
    let here : ℕ = get_or words (place_in_line address) 0 in
    put_words m (line address) (written_in_line words address width value) all
    (All-set IsWord words (place_in_line address) (merged here (lane_of address) width value) (merged-small here (lane_of address) width value (omega arith) (aligned_lane address width aligned)) (line_words m (line address) all))

-- ---- the start

byte_aligned : (address : ℕ) → IsTrue (is_aligned address Byte)
byte_aligned address = grind (arith, nat_tests)

stored_words : (m : Contents) (at : ℕ) (bytes : List ℕ) → AreWords m.words → AreWords (stored m at bytes).words
unfolding stored
stored_words m at [] all = all
stored_words m at (byte ∷ bytes) all = stored_words (written_at m at Byte byte) (at + 1) bytes (stored_word m at Byte byte all (byte_aligned at))

loaded_words : (m : Contents) (segments : List Segment) → AreWords m.words → AreWords (loaded m segments).words
unfolding loaded
loaded_words m [] all = all
loaded_words m (s ∷ segments) all = loaded_words (stored m s.at (bytes_of_segment s)) segments (stored_words m s.at (bytes_of_segment s) all)

loaded_memories : (m : Contents) (segments : List Segment) → (loaded m segments).memories ≡ m.memories
unfolding loaded
loaded_memories m [] = refl
loaded_memories m (s ∷ segments) = loaded_memories (stored m s.at (bytes_of_segment s)) segments ∙ stored_memories m s.at (bytes_of_segment s)

pub start_words : (memories : List MemoryRow) (images : List Image) → AreWords (start memories images).words
unfolding start zeros
start_words memories images = loaded_words (zeros memories) (segments_of images) (All-replicate IsWord (8 * line_count memories) 0 (omega arith))

pub start_memories : (memories : List MemoryRow) (images : List Image) → (start memories images).memories ≡ memories
unfolding start zeros
start_memories memories images = loaded_memories (zeros memories) (segments_of images)
