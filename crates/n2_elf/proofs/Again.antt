-- The file of an image is read as that image.
use Rattle.std.proofs.Common.{◌≡◌, ℕ, ◌+◌, ◌*◌, ◌/◌, ◌%◌, ◌^◌, ◌<◌, ◌≤◌, true, false, cond, eqb, leb, ltb, List, [], ◌∷◌, ◌++◌, length, take, drop, None, Ok, refl, sym, ap, subst, ◌∙◌, append_assoc, length-append, arith}
use Rattle.std.specs.List.{All, AllByRecursion}
use Rattle.std.proofs.lemmas.Bool.{ne_eqb, le-leb, le-ltb}
use Rattle.std.proofs.lemmas.List.Elements.{All-tail}
use Rattle.std.proofs.lemmas.List.{take_at, drop_at, drop-drop}
use Rattle.n2_word.specs.Words.{bytes_of, number_of}
use Rattle.n2_word.proofs.Lanes.{number_of-bytes_of}
use Rattle.n2_elf.specs.declared.image.Segment.{Segment}
use Rattle.n2_elf.specs.declared.image.Image.{Image}
use Rattle.n2_elf.specs.Fields.{word_at}
use Rattle.n2_elf.specs.Reading.{table_of, entry_of, count_of, place_of, type_at, offset_at, paddr_at, filesz_at, memsz_at, flags_at, is_loaded, program_fault, programs_fault, segment_at, segments_from, header_fault, fault_of, elf}
use Rattle.n2_elf.specs.Writing.{header_bytes, flags_of, program_bytes, programs_bytes, contents, contents_len, file_of, HasRoom, IsWritable}

-- a field of a piece of the file
word_again : (file pre xs : List ℕ) (place j k n : ℕ) → file ≡ pre ++ xs → length pre ≡ place → j ≡ place + k → n < 2 ^ 32 → take 4 (drop k xs) ≡ bytes_of n → word_at file j ≡ n
word_again file pre xs place j k n parts len there small field =
    let behind : drop j file ≡ drop k xs = ap (λ i. drop i file) there ∙ sym (drop-drop k place file) ∙ ap (λ (f : List ℕ). drop k (drop place f)) parts ∙ ap (drop k) (drop_at pre xs place len) in
    ap (λ (ws : List ℕ). number_of (take 4 ws)) behind ∙ ap number_of field ∙ number_of-bytes_of n small

-- the fields of a program header that stands in a file
record Stands (file : List ℕ) (place from : ℕ) (s : Segment) : Type 0 where
  kind : type_at file place ≡ 1
  offset : offset_at file place ≡ from
  at : paddr_at file place ≡ s.at
  filesz : filesz_at file place ≡ length s.bytes
  memsz : memsz_at file place ≡ s.size
  flags : flags_at file place ≡ flags_of s

flags-small : (s : Segment) → flags_of s < 8
flags-small s = grind arith

stands : (file pre rest : List ℕ) (place offset : ℕ) (s : Segment) → file ≡ pre ++ (program_bytes offset s ++ rest) → length pre ≡ place
    → offset < 2 ^ 32 → length s.bytes < 2 ^ 32 → s.at < 2 ^ 32 → s.size < 2 ^ 32 → Stands file place offset s
unfolding program_bytes
stands file pre rest place offset s parts len h1 h2 h3 h4 = record {
  kind = word_again file pre (program_bytes offset s ++ rest) place place 0 1 parts len (omega arith) (omega arith) refl;
  offset = word_again file pre (program_bytes offset s ++ rest) place (place + 4) 4 offset parts len refl h1 refl;
  at = word_again file pre (program_bytes offset s ++ rest) place (place + 12) 12 s.at parts len refl h3 refl;
  filesz = word_again file pre (program_bytes offset s ++ rest) place (place + 16) 16 (length s.bytes) parts len refl h2 refl;
  memsz = word_again file pre (program_bytes offset s ++ rest) place (place + 20) 20 s.size parts len refl h4 refl;
  flags = word_again file pre (program_bytes offset s ++ rest) place (place + 24) 24 (flags_of s) parts len refl (omega (arith, flags-small s)) refl;
}

program_len : (offset : ℕ) (s : Segment) → length (program_bytes offset s) ≡ 32
unfolding program_bytes
program_len offset s = refl

loads : (file : List ℕ) (place offset : ℕ) (s : Segment) → Stands file place offset s → 1 ≤ s.size → is_loaded file place ≡ true
loads file place offset s h some =
    let n : eqb s.size 0 ≡ false = ne_eqb s.size 0 (λ e. omega arith) in
    rw (h.kind, h.memsz, n) refl

no_fault : (file : List ℕ) (i place offset : ℕ) (s : Segment) → Stands file place offset s → HasRoom s → place + 32 ≤ length file → offset + length s.bytes ≤ length file → program_fault file i place ≡ None
unfolding program_fault
no_fault file i place offset s h room long held =
    let fits : ltb (length file) (place + 32) ≡ false = le-ltb _ _ long in
    let sizes : leb (length s.bytes) s.size ≡ true = le-leb _ _ room.bytes in
    let within : leb (offset + length s.bytes) (length file) ≡ true = le-leb _ _ held in
    let some : cond (eqb (length s.bytes) 0) true (leb (offset + length s.bytes) (length file)) ≡ true =
    elim (eqb (length s.bytes) 0) as (λ b. cond b true (leb (offset + length s.bytes) (length file)) ≡ true) [ true ↦ refl | false ↦ within ]
    in
    rw (fits, loads file place offset s h room.some, h.filesz, h.memsz, h.offset, sizes, some) refl

exec-again : (s : Segment) → eqb (flags_of s % 2) 1 ≡ s.exec
exec-again s = grind arith

write-again : (s : Segment) → eqb (flags_of s / 2 % 2) 1 ≡ s.write
write-again s = grind arith

bytes-again : (file front rest : List ℕ) (offset : ℕ) (s : Segment) → file ≡ front ++ (s.bytes ++ rest) → length front ≡ offset → take (length s.bytes) (drop offset file) ≡ s.bytes
bytes-again file front rest offset s parts len = rw (parts, drop_at front (s.bytes ++ rest) offset len) (take_at s.bytes rest (length s.bytes) refl)

segment-again : (file front rest : List ℕ) (place offset : ℕ) (s : Segment) → Stands file place offset s → file ≡ front ++ (s.bytes ++ rest) → length front ≡ offset → segment_at file place ≡ s
unfolding segment_at
segment-again file front rest place offset s h parts len =
    rw (h.at, h.filesz, h.offset, h.memsz, h.flags, bytes-again file front rest offset s parts len, exec-again s, write-again s) refl

-- a segment's numbers are words
abbrev pub HasWords : Segment → Type 0
HasWords s = (s.at < 2 ^ 32) × (s.size < 2 ^ 32)

pub programs-again : (file pre rest front : List ℕ) (offset i : ℕ) (segments : List Segment) → table_of file ≡ 52
    → file ≡ pre ++ (programs_bytes offset segments ++ rest) → length pre ≡ 52 + 32 * i
    → file ≡ front ++ contents segments → length front ≡ offset → offset + contents_len segments < 2 ^ 32
    → AllByRecursion HasRoom segments → All HasWords segments
    → (programs_fault file i (length segments) ≡ None) × (segments_from file i (length segments) ≡ segments)
unfolding programs_bytes contents contents_len programs_fault segments_from
programs-again file pre rest front offset i [] table parts len held so_far small room words = (refl, refl)
programs-again file pre rest front offset i (s ∷ segments) table parts len held so_far small room words =
    let place : ℕ = place_of file i in
    let first : HasWords s = words 0 s (omega arith) in
    let at-place : length pre ≡ place = omega arith in
    let others : List ℕ = programs_bytes (offset + length s.bytes) segments in
    let parts' : file ≡ pre ++ (program_bytes offset s ++ (others ++ rest)) = parts ∙ ap (λ (x : List ℕ). pre ++ x) (append_assoc (program_bytes offset s) others rest) in
    let h : Stands file place offset s = stands file pre (others ++ rest) place offset s parts' at-place (omega arith) (omega arith) first.0 first.1 in
    let whole : length file ≡ length pre + (32 + length (others ++ rest)) =
    ap length parts' ∙ length-append pre (program_bytes offset s ++ (others ++ rest))
    ∙ ap (λ n. length pre + n) (length-append (program_bytes offset s) (others ++ rest) ∙ ap (λ n. n + length (others ++ rest)) (program_len offset s))
    in
    let behind : length file ≡ length front + (length s.bytes + length (contents segments)) =
    ap length held ∙ length-append front (s.bytes ++ contents segments) ∙ ap (λ n. length front + n) (length-append s.bytes (contents segments))
    in
    let none : program_fault file i place ≡ None = no_fault file i place offset s h room.0 (omega arith) (omega arith) in
    let same : segment_at file place ≡ s = segment-again file front (contents segments) place offset s h held so_far in
    let next = programs-again file (pre ++ program_bytes offset s) rest (front ++ s.bytes) (offset + length s.bytes) (i + 1) segments table
    (parts' ∙ sym (append_assoc pre (program_bytes offset s) (others ++ rest)))
    (omega (arith, length-append pre (program_bytes offset s), program_len offset s))
    (held ∙ sym (append_assoc front s.bytes (contents segments)))
    (omega (arith, length-append front s.bytes))
    (omega arith) room.1 (All-tail HasWords s segments words)
    in
    (rw (none, next.0) refl, rw (loads file place offset s h room.0.some, same, next.1) refl)

header-again : (image : Image) (rest : List ℕ) (n : ℕ) → n < 2 ^ 16 → header_fault (header_bytes image.entry n ++ rest) ≡ None
unfolding header_fault header_bytes
header-again image rest n small =
    let bytes : List ℕ = header_bytes image.entry n ++ rest in
    let long : leb 52 (length bytes) ≡ true = le-leb _ _ (omega arith) in
    let size : cond (eqb (count_of bytes) 0) true true ≡ true = elim (eqb (count_of bytes) 0) as (λ b. cond b true true ≡ true) [ true ↦ refl | false ↦ refl ] in
    rw (long, size) refl

header_len : (entry n : ℕ) → length (header_bytes entry n) ≡ 52
unfolding header_bytes
header_len entry n = refl

-- the fields of the file's header
record Begins (file : List ℕ) (from n : ℕ) : Type 0 where
  entry : entry_of file ≡ from
  table : table_of file ≡ 52
  count : count_of file ≡ n

begins : (entry n : ℕ) (rest : List ℕ) → entry < 2 ^ 32 → n < 2 ^ 16 → Begins (header_bytes entry n ++ rest) entry n
unfolding header_bytes
begins entry n rest h1 h2 = record {
  entry = omega arith;
  table = refl;
  count = omega arith;
}

programs_len : (offset : ℕ) (segments : List Segment) → length (programs_bytes offset segments) ≡ 32 * length segments
unfolding programs_bytes
programs_len offset [] = refl
programs_len offset (s ∷ segments) = omega (arith, length-append (program_bytes offset s) (programs_bytes (offset + length s.bytes) segments), program_len offset s, programs_len (offset + length s.bytes) segments)

pub file-again : (image : Image) → IsWritable image → image.entry < 2 ^ 32 → All HasWords image.segments → elf (file_of image) ≡ Ok image
unfolding elf fault_of file_of
file-again image ok entry words =
    let n : ℕ = length image.segments in
    let programs : List ℕ = programs_bytes (52 + 32 * n) image.segments in
    let rest : List ℕ = programs ++ contents image.segments in
    let file : List ℕ = file_of image in
    let parts : file ≡ header_bytes image.entry n ++ rest = append_assoc (header_bytes image.entry n) programs (contents image.segments) in
    let no : header_fault file ≡ None = ap header_fault parts ∙ header-again image rest n (omega (arith, ok.few)) in
    let b : Begins file image.entry n = subst (λ (f : List ℕ). Begins f image.entry n) (sym parts) (begins image.entry n rest entry (omega (arith, ok.few))) in
    let both = programs-again file (header_bytes image.entry n) (contents image.segments) (header_bytes image.entry n ++ programs) (52 + 32 * n) 0 image.segments b.table parts
    (header_len image.entry n) refl
    (omega (arith, length-append (header_bytes image.entry n) programs, header_len image.entry n, programs_len (52 + 32 * n) image.segments))
    (omega (arith, ok.few, ok.small)) ok.room words
    in
    let some : eqb n 0 ≡ false = ne_eqb n 0 (λ e. omega (arith, ok.some)) in
    rw (no, b.count, both.0, both.1, some, b.entry) refl
