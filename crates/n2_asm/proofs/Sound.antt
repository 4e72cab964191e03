-- The image of a source can be written.
use Rattle.std.proofs.Common.{◌≡◌, ℕ, zero, suc, ◌+◌, ◌-◌, ◌*◌, ◌^◌, ◌<◌, ◌≤◌, Bool, true, false, cond, eqb, List, [], ◌∷◌, ◌++◌, length, replicate, Option, Some, None, Result, Ok, Err, refl, sym, ap, subst, ◌∙◌, inl, inr, length-append, arith}
use Rattle.std.specs.Prelude.{◌&&◌, not, codes, IfOk}
use Rattle.std.specs.List.{AllByRecursion}
use Rattle.std.proofs.lemmas.Bool.{cases_Bool, cond-true, cond-false, eqb-true, eqb-false, leb-true, ltb-true, false≢true}
use Rattle.std.proofs.lemmas.List.{length-replicate}
use Rattle.n2_elf.specs.declared.image.Image.{Image}
use Rattle.n2_elf.specs.declared.image.Segment.{Segment}
use Rattle.n2_elf.specs.Writing.{HasRoom, IsWritable, contents_len}
use Rattle.n2_word.specs.Words.{bytes_of}
use Rattle.n2_source.specs.declared.numbers.Number.{Number}
use Rattle.n2_source.specs.Lists.{words_bytes, bytes_bytes, word_of_number, byte_of_number}
use Rattle.n2_statement.specs.declared.faults.AsmKind.{AsmKind}
use Rattle.n2_statement.specs.declared.faults.AsmKind.TheVariants as kind
use Rattle.n2_statement.specs.declared.statements.Statement.{Statement}
use Rattle.n2_statement.specs.declared.values.Content.{Content}
use Rattle.n2_statement.specs.declared.values.Content.TheVariants as content
use Rattle.n2_statement.specs.Statements.{◌>=◌, statement_of, labels_of}
use Rattle.n2_statement.specs.Values.{bytes_in, content_of_row}
use Rattle.n2_asm.specs.declared.faults.AsmFault.{AsmFault}
use Rattle.n2_asm.specs.declared.objects.Object.{Object}
use Rattle.n2_asm.specs.Rows.{rows_of}
use Rattle.n2_asm.specs.Seen.{object_seen}
use Rattle.n2_asm.specs.Survey.{Surveyed, survey_of}
use Rattle.n2_asm.specs.Sources as spec
use Rattle.n2_asm.specs.Sources.{Output, Assembled, here_of, has_place, is_row, len_of, is_placed, are_placed, unless_fault, placed, content_at, segment_of, segments_of, opened_at, with_bytes, put, with_labels_here, at_row, row_put, rows_put, no_output, first_code, image_of, finished, output_of, assembled}

-- what holds of an output behind each row
record IsSound (out : Output) : Type 0 where
  opened : 1 ≤ length out.bytes → 1 ≤ out.opened
  few : length out.closed ≤ out.opened - 1
  most : out.opened ≤ 64
  room : AllByRecursion HasRoom out.closed
  small : contents_len out.closed + (length out.bytes + out.room) ≤ 2 ^ 24

-- ---- segments

appended : (a b : List Segment) → AllByRecursion HasRoom a → AllByRecursion HasRoom b → AllByRecursion HasRoom (a ++ b)
appended [] b h g = g
appended (s ∷ a) b h g = (h.0, appended a b h.1 g)

contents_more : (a : List Segment) (s : Segment) → contents_len (a ++ s ∷ []) ≡ contents_len a + length s.bytes
unfolding contents_len
contents_more [] s = omega arith
contents_more (t ∷ a) s = omega (arith, contents_more a s)

contents_none : contents_len [] ≡ 0
unfolding contents_len
contents_none = refl

-- the segments with the open one
record AreClosed (out : Output) (segments : List Segment) : Type 0 where
  few : length segments ≤ out.opened
  room : AllByRecursion HasRoom segments
  len : contents_len segments ≡ contents_len out.closed + length out.bytes

are_closed : (out : Output) → IsSound out → AreClosed out (segments_of out)
are_closed out h =
    elim (cases_Bool (eqb (length out.bytes) 0)) [
      | inl none ↦
          let zero : length out.bytes ≡ 0 = eqb-true (length out.bytes) 0 none in
          rw none (record { few = omega (arith, h.few); room = h.room; len = omega arith })
      | inr some ↦
          let positive : 1 ≤ length out.bytes = omega (arith, eqb-false (length out.bytes) 0 some) in
          let one : 1 ≤ out.opened = h.opened positive in
          rw some (record {
            few = omega (arith, h.few, length-append out.closed (segment_of out ∷ []));
            room = appended out.closed (segment_of out ∷ []) h.room (record { some = positive; bytes = omega arith }, tt);
            len = contents_more out.closed (segment_of out);
          })
    ]

-- ---- bytes

words_len : (ns : List Number) → length (words_bytes ns) ≡ 4 * length ns
words_len [] = refl
words_len (n ∷ ns) = omega (arith, length-append (bytes_of (word_of_number n)) (words_bytes ns), words_len ns)

bytes_len : (ns : List Number) → length (bytes_bytes ns) ≡ length ns
bytes_len [] = refl
bytes_len (n ∷ ns) = omega (arith, bytes_len ns)

content_len : (c : Content) → len_of c < 2 ^ 40 → length (bytes_in c) ≡ len_of c
content_len content.Nothing lt = refl
content_len (content.Open exec at) lt = refl
content_len (content.Word word) lt = refl
content_len (content.Pair upper lower) lt = refl
content_len (content.Words numbers) lt = omega (arith, words_len numbers)
content_len (content.Bytes numbers) lt = omega (arith, bytes_len numbers)
content_len (content.Zeros n) lt = length-replicate n 0
content_len (content.Text text) lt = omega (arith, length-append text (0 ∷ []))

both : (a b : Bool) → (a && b) ≡ true → (a ≡ true) × (b ≡ true)
both true b h = (refl, h)
both false b h = absurd (false≢true h)

has_room : (n : ℕ) (out : Output) → has_place n out ≡ true → (0 < out.opened) × (n ≤ out.room)
has_room n out h =
    let outer = both _ _ h in
    let inner = both _ _ outer.0 in
    let first = both _ _ inner.0 in
    (ltb-true 0 out.opened first.0, leb-true n out.room inner.1)

more_bytes : (c : Content) (out : Output) → has_place (len_of c) out ≡ true → IsSound out → IsSound (with_bytes c out)
more_bytes c out place h =
    let fits = has_room (len_of c) out place in
    let fits_room : len_of c ≤ out.room = fits.1 in
    let opened : 0 < out.opened = fits.0 in
    let small : contents_len out.closed + (length out.bytes + out.room) ≤ 2 ^ 24 = h.small in
    let len : length (bytes_in c) ≡ len_of c = content_len c (omega arith) in
    let all : length (out.bytes ++ bytes_in c) ≡ length out.bytes + length (bytes_in c) = length-append out.bytes (bytes_in c) in
    record {
      opened = λ some. omega arith;
      few = h.few;
      most = h.most;
      room = h.room;
      small = omega arith;
    }

opened_more : (exec : Bool) (at : ℕ) (out : Output) → out.opened < 64 → IsSound out → IsSound (opened_at exec at out)
opened_more exec at out lt h =
    let all = are_closed out h in
    record {
      opened = λ some. omega arith;
      few = omega (arith, all.few);
      most = omega arith;
      room = all.room;
      small = omega (arith, all.len, h.small);
    }

sound_put : (c : Content) (out : Output) → is_placed c out ≡ true → IsSound out → IsSound (put c out)
sound_put content.Nothing out place h = h
sound_put (content.Open exec at) out place h = opened_more exec at out (ltb-true out.opened 64 (both _ _ place).1) h
sound_put (content.Word word) out place h = more_bytes (content.Word word) out (both _ _ place).0 h
sound_put (content.Pair upper lower) out place h = more_bytes (content.Pair upper lower) out (both _ _ place).0 h
sound_put (content.Words numbers) out place h = more_bytes (content.Words numbers) out (both _ _ place).0 h
sound_put (content.Bytes numbers) out place h = more_bytes (content.Bytes numbers) out (both _ _ place).0 h
sound_put (content.Zeros n) out place h = more_bytes (content.Zeros n) out (both _ _ place).0 h
sound_put (content.Text text) out place h = more_bytes (content.Text text) out (both _ _ place).0 h

sound_labels : (names : List (List ℕ)) (out : Output) → IsSound out → IsSound (with_labels_here names out)
sound_labels names out h = record { opened = h.opened; few = h.few; most = h.most; room = h.room; small = h.small }

-- ---- rows

behind : {A B : Type 0} (P : B → Type 0) (r : Result A AsmKind) (f : A → Result B AsmKind) → ((x : A) (y : B) → f x ≡ Ok y → P y) → (y : B) → (r >= f) ≡ Ok y → P y
behind P (Ok x) f h y e = h x y e
behind P (Err fault) f h y e = absurd cc

unless_ok : {A : Type 0} (good : Bool) (fault : AsmKind) (x y : A) → unless_fault good fault x ≡ Ok y → (good ≡ true) × (x ≡ y)
unless_ok true fault x y e = (refl, cc)
unless_ok false fault x y e = absurd cc

placed_ok : (row : List ℕ) (out : Output) (c d : Content) → placed row out c ≡ Ok d → is_placed d out ≡ true
placed_ok row out c d e =
    let parts = unless_ok (are_placed row out && is_placed c out) _ c d e in
    subst (λ k. is_placed k out ≡ true) parts.1 (both _ _ parts.0).1

content_ok : (s : Surveyed) (n : ℕ) (row : List ℕ) (out : Output) (c : Content) → content_at s n row out ≡ Ok c → is_placed c out ≡ true
unfolding content_at
content_ok s n row out c e =
    let P = λ (k : Content). is_placed k out ≡ true in
    behind {A = Option Statement} P (statement_of row) _
    (λ st d g. behind {A = Option Statement} P (unless_fault (not (is_row n s.repeated)) kind.Label st) _
    (λ named d2 g2. behind {A = Content} P (content_of_row s.names (here_of out) named) (λ k. placed row out k) (λ k d3 g3. placed_ok row out k d3 g3) d2 g2) d g) c e

place_kept : (c : Content) (names : List (List ℕ)) (out : Output) → is_placed c out ≡ true → is_placed c (with_labels_here names out) ≡ true
place_kept content.Nothing names out h = h
place_kept (content.Open exec at) names out h = h
place_kept (content.Word word) names out h = h
place_kept (content.Pair upper lower) names out h = h
place_kept (content.Words numbers) names out h = h
place_kept (content.Bytes numbers) names out h = h
place_kept (content.Zeros n) names out h = h
place_kept (content.Text text) names out h = h

sound_after : (names : List (List ℕ)) (n : ℕ) (out : Output) (r : Result Content AsmKind) → ((c : Content) → r ≡ Ok c → is_placed c out ≡ true) → IsSound out
    → (next : Output) → spec.◌>>=◌ (at_row n r) (λ c. Ok (put c (with_labels_here names out))) ≡ Ok next → IsSound next
sound_after names n out (Ok c) place h next e =
    let same : put c (with_labels_here names out) ≡ next = cc in
    subst IsSound same (sound_put c (with_labels_here names out) (place_kept c names out (place c refl)) (sound_labels names out h))
sound_after names n out (Err fault) place h next e = absurd cc

sound_row : (s : Surveyed) (n : ℕ) (row : List ℕ) (out next : Output) → IsSound out → row_put s n row out ≡ Ok next → IsSound next
unfolding row_put
sound_row s n row out next h e = sound_after (labels_of row) n out (content_at s n row out) (content_ok s n row out) h next e

then_rows : {A B : Type 0} (P : B → Type 0) (r : Result A AsmFault) (f : A → Result B AsmFault) → ((x : A) → r ≡ Ok x → (y : B) → f x ≡ Ok y → P y) → (y : B) → spec.◌>>=◌ r f ≡ Ok y → P y
then_rows P (Ok x) f h y e = h x refl y e
then_rows P (Err fault) f h y e = absurd cc

sound_rows : (s : Surveyed) (n : ℕ) (rows : List (List ℕ)) (out last : Output) → IsSound out → rows_put s n rows out ≡ Ok last → IsSound last
sound_rows s n [] out last h e = let same : out ≡ last = cc in subst IsSound same h
sound_rows s n (row ∷ rows) out last h e =
    then_rows IsSound (row_put s n row out) (λ next. rows_put s (n + 1) rows next) (λ next g y k. sound_rows s (n + 1) rows next y (sound_row s n row out next h g) k) last e

nothing_put : IsSound no_output
nothing_put = record { opened = λ some. absurd (omega arith); few = omega arith; most = omega arith; room = tt; small = omega (arith, contents_none) }

-- ---- the image

some_segment : (segments : List Segment) (first : ℕ) → first_code segments ≡ Some first → 1 ≤ length segments
some_segment [] first e = absurd cc
some_segment (s ∷ segments) first e = omega arith

ap_image : (a b : Assembled) → ◌≡◌ {A = Result Assembled AsmFault} (Ok a) (Ok b) → a.image ≡ b.image
ap_image a b e = let same : a ≡ b = cc in ap (λ (x : Assembled). x.image) same

image_written : (start : Option Number) (first : Option ℕ) (segments : List Segment) (labels : List ℕ → Option ℕ) (a : Assembled)
    → first ≡ first_code segments → length segments ≤ 64 → AllByRecursion HasRoom segments → contents_len segments < 2 ^ 31 → image_of start first segments labels ≡ Ok a → IsWritable a.image
image_written start None segments labels a code few room small e = absurd cc
image_written start (Some first) segments labels a code few room small e =
    let image : Image = record { entry = spec.entry_of start first; segments = segments } in
    let same : image ≡ a.image = ap_image (record { image = image; labels = labels }) a e in
    subst IsWritable same (record { some = some_segment segments first (sym code); few = few; room = room; small = small })

finished_written : (s : Surveyed) (out : Output) (a : Assembled) → IsSound out → finished s out ≡ Ok a → IsWritable a.image
finished_written s out a h e =
    let all = are_closed out h in
    image_written (s.names (codes "_start")) (first_code (segments_of out)) (segments_of out) out.labels a refl (omega (arith, all.few, h.most)) all.room (omega (arith, all.len, h.small)) e

-- what is assembled can be written
pub writable : (source : List ℕ) (a : Assembled) → assembled source ≡ Ok a → IsWritable a.image
unfolding assembled output_of
writable source a e =
    let s = survey_of source in
    then_rows (λ (b : Assembled). IsWritable b.image) (output_of s source) (λ out. finished s out)
    (λ out g b k. finished_written s out b (sound_rows s 1 (rows_of source) no_output out nothing_put g) k) a e

pub object_writable : (source : List ℕ) (r : Result Object AsmFault) → IfOk r (λ o. assembled source ≡ Ok (object_seen o)) → IfOk r (λ o. IsWritable o.image)
object_writable source (Ok o) e = writable source (object_seen o) e
object_writable source (Err fault) e = tt
