-- The text of a journal is cut into its rows, and these into their fields.
use Rattle.std.proofs.Common.{◌≡◌, ℕ, ◌+◌, ◌^◌, ◌<◌, ◌≤◌, Bool, true, false, eqb, List, [], ◌∷◌, ◌++◌, length, refl, sym, ap, ◌∙◌, append_assoc, inl, inr, arith}
use Rattle.std.specs.Prelude.{codes, decimal, map, All, ◌||◌, ◌&&◌, not}
use Rattle.std.specs.List.{join_with_byte, list_all, AllByRecursion}
use Rattle.std.proofs.lemmas.Bool.{cases_Bool}
use Rattle.std.proofs.lemmas.Bool.Decides.{nat_tests}
use Rattle.std.proofs.lemmas.List.{append-nil}
use Rattle.std.proofs.lemmas.List.Elements.{All-nil, All-cons, All-append, All-weaker, recursion_from_All}
use Rattle.std.proofs.lemmas.List.Splits.{slice_split_at, join_with_byte-slice_split}
use Rattle.n2_word.specs.declared.Width.{Width}
use Rattle.n2_word.specs.declared.Width.TheVariants.{Byte, Half, Word}
use Rattle.n2_text.specs.Fields.{word_text, is_digit, is_hex_letter}
use Rattle.n2_text.proofs.Words.{digits-word_text}
use Rattle.n2_text.proofs.Decimals.{digits-decimal}
use Rattle.n2_bus.specs.declared.request.Request.{Request}
use Rattle.n2_bus.specs.declared.request.Request.TheVariants.{FillCode, FillData, WriteBack, Read, Write, Sample, Tick, Receive, Drain}
use Rattle.n2_bus.specs.declared.request.Reply.{Reply}
use Rattle.n2_journal.specs.declared.entry.Entry.{Entry}
use Rattle.n2_journal.specs.Journals.{Content, IsRequestWithin, IsEntryWithin, IsWithinLimits}
use Rattle.n2_journal.specs.Texts.{width_text, bit_text, words_fields, access_fields, body_fields, actor_text, row_of, head_row, entry_fields, entry_row, tail_row, tail_rows, end_row, journal_rows, rows_text, journal_text}
use Rattle.n2_journal.specs.Cursors.{parts_of, fields_of}
use Rattle.n2_journal.proofs.Steps.{Lacks, one_part, both_true}
use Rattle.n2_journal.proofs.Entries.{actor_le, local_le}

-- ---- fields without blanks and line feeds

-- neither a blank nor a line feed
abbrev pub plain_byte : ℕ → Bool
plain_byte c = not (eqb c 32) && not (eqb c 10)

-- a field as a record, so that it is found
pub record Plain (field : List ℕ) : Type 0 where
  pub bytes : All (λ c. plain_byte c ≡ true) field

plain_lacks : (c : ℕ) → plain_byte c ≡ true → (eqb c 32 ≡ false) × (eqb c 10 ≡ false)
plain_lacks c h = grind (arith, nat_tests)

lacks_blank : (field : List ℕ) → Plain field → Lacks 32 field
lacks_blank field p = All-weaker (λ c. plain_byte c ≡ true) (λ c. eqb c 32 ≡ false) (λ c h. (plain_lacks c h).0) field p.bytes

lacks_feed : (field : List ℕ) → Plain field → Lacks 10 field
lacks_feed field p = All-weaker (λ c. plain_byte c ≡ true) (λ c. eqb c 10 ≡ false) (λ c h. (plain_lacks c h).1) field p.bytes

digit_plain : (c : ℕ) → is_digit c ≡ true → plain_byte c ≡ true
digit_plain c h = grind (arith, nat_tests)

hex_plain : (c : ℕ) → (is_digit c || is_hex_letter c) ≡ true → plain_byte c ≡ true
hex_plain c h = grind (arith, nat_tests)

word_plain : (word : ℕ) → Plain (word_text word)
word_plain word = record { bytes = All-weaker (λ c. (is_digit c || is_hex_letter c) ≡ true) (λ c. plain_byte c ≡ true) hex_plain (word_text word) (digits-word_text word) }

decimal_plain : (n : ℕ) → n < 10 ^ 64 → Plain (decimal n)
decimal_plain n lt = record { bytes = All-weaker (λ c. is_digit c ≡ true) (λ c. plain_byte c ≡ true) digit_plain (decimal n) (digits-decimal n lt) }

negated : (b : Bool) → not b ≡ true → b ≡ false
negated true h = absurd cc
negated false h = refl

plain_all : (field : List ℕ) → list_all plain_byte field ≡ true → All (λ c. plain_byte c ≡ true) field
plain_all [] h = All-nil (λ c. plain_byte c ≡ true)
plain_all (c ∷ cs) h = let b = both_true (plain_byte c) (list_all plain_byte cs) h in All-cons (λ d. plain_byte d ≡ true) c cs b.0 (plain_all cs b.1)

-- bytes that compute
by_bytes : (field : List ℕ) → list_all plain_byte field ≡ true → Plain field
by_bytes field h = record { bytes = plain_all field h }

width_plain : (width : Width) → Plain (width_text width)
width_plain Byte = by_bytes (49 ∷ []) refl
width_plain Half = by_bytes (50 ∷ []) refl
width_plain Word = by_bytes (52 ∷ []) refl

bit_plain : (bit : Bool) → Plain (bit_text bit)
bit_plain true = by_bytes (49 ∷ []) refl
bit_plain false = by_bytes (48 ∷ []) refl

abbrev pub ArePlain : List (List ℕ) → Type 0
ArePlain fields = AllByRecursion Plain fields

words_plain : (words : List ℕ) → ArePlain (words_fields words)
words_plain [] = tt
words_plain (w ∷ ws) = (word_plain w, words_plain ws)

access_plain : (r : Reply) → ArePlain (access_fields r)
access_plain r = (word_plain r.lines, (bit_plain r.took, (word_plain r.pointer, tt)))

body_plain : (q : Request) (r : Reply) → IsRequestWithin q → ArePlain (body_fields q r)
unfolding body_fields
body_plain (FillCode line) r q = (by_bytes (codes "code") refl, (word_plain _, words_plain r.words))
body_plain (FillData line) r q = (by_bytes (codes "fill") refl, (word_plain _, words_plain r.words))
body_plain (WriteBack line words) r q = (by_bytes (codes "back") refl, (word_plain _, words_plain words))
body_plain (Read address width) r q = (by_bytes (codes "read") refl, (width_plain width, (word_plain address, (word_plain _, access_plain r))))
body_plain (Write address width value) r q = (by_bytes (codes "write") refl, (width_plain width, (word_plain address, (word_plain value, access_plain r))))
body_plain Sample r q = (by_bytes (codes "sample") refl, (word_plain r.lines, tt))
body_plain (Tick n) r q = (by_bytes (codes "tick") refl, (decimal_plain n (omega (arith, q.1)), tt))
body_plain (Receive uart) r q = (by_bytes (codes "receive") refl, (decimal_plain uart (omega (arith, q)), (bit_plain r.took, tt)))
body_plain (Drain uart) r q = (by_bytes (codes "drain") refl, (decimal_plain uart (omega (arith, q)), (bit_plain r.took, tt)))

actor_plain : (cores actor : ℕ) → actor ≤ 8 → Plain (actor_text cores actor)
actor_plain cores actor le =
    elim (cases_Bool (eqb actor cores)) [
      | inl same ↦ rw same (by_bytes (codes "d") refl)
      | inr other ↦ rw other (decimal_plain actor (omega arith))
    ]

entry_plain : (cores : ℕ) (e : Entry) → cores ≤ 8 → IsEntryWithin cores e → ArePlain (entry_fields cores e)
entry_plain cores e few within =
    let actor : e.actor ≤ cores = actor_le cores e within in
    let local : e.local ≤ 1000000000 = local_le cores e within in
    (actor_plain cores e.actor (omega arith), (decimal_plain e.local (omega arith), body_plain e.request e.reply within.request))

-- ---- rows are cut into their fields

pub fields_of-row_of : (first : List ℕ) (fields : List (List ℕ)) → ArePlain (first ∷ fields) → fields_of (row_of (first ∷ fields)) ≡ first ∷ fields
fields_of-row_of first [] plain = one_part 32 first (lacks_blank first plain.0)
fields_of-row_of first (next ∷ fields) plain =
    slice_split_at (λ c. eqb c 32) first 32 (row_of (next ∷ fields)) (lacks_blank first plain.0) refl
    ∙ ap (λ (r : List (List ℕ)). first ∷ r) (fields_of-row_of next fields plain.1)

pub row_of-fields_of : (row : List ℕ) → row_of (fields_of row) ≡ row
row_of-fields_of row = join_with_byte-slice_split 32 row

-- ---- and a text into its rows

blank_no_feed : eqb 32 10 ≡ false
blank_no_feed = refl

row_lacks : (first : List ℕ) (fields : List (List ℕ)) → ArePlain (first ∷ fields) → Lacks 10 (row_of (first ∷ fields))
row_lacks first [] plain = lacks_feed first plain.0
row_lacks first (next ∷ fields) plain =
    All-append (λ c. eqb c 10 ≡ false) first (32 ∷ row_of (next ∷ fields)) (lacks_feed first plain.0)
    (All-cons (λ c. eqb c 10 ≡ false) 32 (row_of (next ∷ fields)) blank_no_feed (row_lacks next fields plain.1))

abbrev pub AreRows : List (List ℕ) → Type 0
AreRows rows = AllByRecursion (λ row. Lacks 10 row) rows

pub parts_of-rows_text : (rows : List (List ℕ)) → AreRows rows → parts_of 10 (rows_text rows) ≡ rows ++ [] ∷ []
parts_of-rows_text [] h = refl
parts_of-rows_text (row ∷ rows) h =
    ap (parts_of 10) (append_assoc row (10 ∷ []) (rows_text rows))
    ∙ slice_split_at (λ c. eqb c 10) row 10 (rows_text rows) h.0 refl
    ∙ ap (λ (r : List (List ℕ)). row ∷ r) (parts_of-rows_text rows h.1)

-- rows with a last empty piece, joined by line feeds, are their text
pub join-rows : (rows : List (List ℕ)) → join_with_byte 10 (rows ++ [] ∷ []) ≡ rows_text rows
join-rows [] = refl
join-rows (row ∷ []) = sym (append-nil (row ++ 10 ∷ []))
join-rows (row ∷ next ∷ rows) =
    ap (λ (x : List ℕ). row ++ 10 ∷ x) (join-rows (next ∷ rows)) ∙ sym (append_assoc row (10 ∷ []) (rows_text (next ∷ rows)))

abbrev pub tail_fields : ℕ → ℕ → List (List ℕ)
tail_fields core tail = codes "tail" ∷ decimal core ∷ decimal tail ∷ []

tail_plain : (core tail : ℕ) → core ≤ 8 → tail ≤ 1000000000 → ArePlain (tail_fields core tail)
tail_plain core tail lt le = (by_bytes (codes "tail") refl, (decimal_plain core (omega arith), (decimal_plain tail (omega arith), tt)))

pub fields_of-entry_row : (cores : ℕ) (e : Entry) → cores ≤ 8 → IsEntryWithin cores e → fields_of (entry_row cores e) ≡ entry_fields cores e
fields_of-entry_row cores e few within = fields_of-row_of (actor_text cores e.actor) (decimal e.local ∷ body_fields e.request e.reply) (entry_plain cores e few within)

pub fields_of-tail_row : (core tail : ℕ) → core ≤ 8 → tail ≤ 1000000000 → fields_of (tail_row core tail) ≡ tail_fields core tail
fields_of-tail_row core tail lt le = fields_of-row_of (codes "tail") (decimal core ∷ decimal tail ∷ []) (tail_plain core tail lt le)

entry_rows : (cores : ℕ) (es : List Entry) (rest : List (List ℕ)) → cores ≤ 8 → AllByRecursion (IsEntryWithin cores) es → AreRows rest → AreRows (map (entry_row cores) es ++ rest)
entry_rows cores [] rest few within h = h
entry_rows cores (e ∷ es) rest few within h =
    (row_lacks (actor_text cores e.actor) (decimal e.local ∷ body_fields e.request e.reply) (entry_plain cores e few within.0), entry_rows cores es rest few within.1 h)

rows_of_tails : (core : ℕ) (ns : List ℕ) (rest : List (List ℕ)) → core + length ns ≤ 8 → AllByRecursion (λ n. n ≤ 1000000000) ns → AreRows rest → AreRows (tail_rows core ns ++ rest)
rows_of_tails core [] rest few within h = h
rows_of_tails core (n ∷ ns) rest few within h =
    (row_lacks (codes "tail") (decimal core ∷ decimal n ∷ []) (tail_plain core n (omega arith) within.0), rows_of_tails (core + 1) ns rest (omega arith) within.1 h)

lacking : (bytes : List ℕ) → list_all (λ c. not (eqb c 10)) bytes ≡ true → Lacks 10 bytes
lacking [] h = All-nil (λ c. eqb c 10 ≡ false)
lacking (c ∷ cs) h = let b = both_true (not (eqb c 10)) (list_all (λ d. not (eqb d 10)) cs) h in All-cons (λ d. eqb d 10 ≡ false) c cs (negated (eqb c 10) b.0) (lacking cs b.1)

head_lacks : Lacks 10 head_row
head_lacks = lacking head_row refl

end_lacks : Lacks 10 end_row
end_lacks = lacking end_row refl

pub journal_is_rows : (j : Content) → IsWithinLimits j → AreRows (journal_rows j)
journal_is_rows j within =
    let es = recursion_from_All (IsEntryWithin (length j.tails)) j.entries within.entries in
    let ns = recursion_from_All (λ tail. tail ≤ 1000000000) j.tails within.tails in
    (head_lacks, entry_rows (length j.tails) j.entries (tail_rows 0 j.tails ++ end_row ∷ []) within.few_cores es (rows_of_tails 0 j.tails (end_row ∷ []) (omega (arith, within.few_cores)) ns (end_lacks, tt)))

pub parts_of-journal_text : (j : Content) → IsWithinLimits j → parts_of 10 (journal_text j) ≡ journal_rows j ++ [] ∷ []
unfolding journal_text
parts_of-journal_text j within = parts_of-rows_text (journal_rows j) (journal_is_rows j within)

-- a text that is cut into the rows of a journal is its text
pub text_from_parts : (text : List ℕ) (j : Content) → parts_of 10 text ≡ journal_rows j ++ [] ∷ [] → text ≡ journal_text j
unfolding journal_text
text_from_parts text j e = sym (join_with_byte-slice_split 10 text) ∙ ap (join_with_byte 10) e ∙ join-rows (journal_rows j)
