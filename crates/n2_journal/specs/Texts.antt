-- The text of a journal: rows of fields, with one space between each two. A word is eight hexadecimal digits, and a number
-- is decimal.
use Rattle.std.specs.Prelude.{ℕ, ◌+◌, ◌*◌, List, [], ◌∷◌, ◌++◌, length, map, Bool, if◌then◌else◌, ◌==◌, codes, decimal}
use Rattle.std.specs.List.{flat_map, join_with_byte}
use Rattle.n2_word.specs.declared.Width.{Width}
use Rattle.n2_word.specs.Words.{size}
use Rattle.n2_text.specs.Fields.{word_text}
use Rattle.n2_bus.specs.declared.request.Request.{Request}
use Rattle.n2_bus.specs.declared.request.Request.TheVariants.{FillCode, FillData, WriteBack, Read, Write, Sample, Tick, Receive, Drain}
use Rattle.n2_bus.specs.declared.request.Reply.{Reply}
use Rattle.n2_journal.specs.declared.entry.Entry.{Entry}
use Rattle.n2_journal.specs.Journals.{Content, first_word}

-- ---- fields

-- how many bytes an access has
abbrev pub width_text : Width → List ℕ
width_text width = (48 + size width) ∷ []

abbrev pub bit_text : Bool → List ℕ
bit_text bit = (if bit then 49 else 48) ∷ []

-- the first address of a line
abbrev pub line_text : ℕ → List ℕ
line_text line = word_text (32 * line)

abbrev pub words_fields : List ℕ → List (List ℕ)
words_fields words = map word_text words

-- the interrupt lines, whether it was taken, and the Pointer of the message
abbrev pub access_fields : Reply → List (List ℕ)
access_fields r = word_text r.lines ∷ bit_text r.took ∷ word_text r.pointer ∷ []

-- what was asked for, and what was replied
unfoldable pub body_fields : Request → Reply → List (List ℕ)
body_fields (FillCode line) r = codes "code" ∷ line_text line ∷ words_fields r.words
body_fields (FillData line) r = codes "fill" ∷ line_text line ∷ words_fields r.words
body_fields (WriteBack line words) r = codes "back" ∷ line_text line ∷ words_fields words
body_fields (Read address width) r = codes "read" ∷ width_text width ∷ word_text address ∷ word_text (first_word r) ∷ access_fields r
body_fields (Write address width value) r = codes "write" ∷ width_text width ∷ word_text address ∷ word_text value ∷ access_fields r
body_fields Sample r = codes "sample" ∷ word_text r.lines ∷ []
body_fields (Tick n) r = codes "tick" ∷ decimal n ∷ []
body_fields (Receive uart) r = codes "receive" ∷ decimal uart ∷ bit_text r.took ∷ []
body_fields (Drain uart) r = codes "drain" ∷ decimal uart ∷ bit_text r.took ∷ []

-- a core's number, or `d` for the device actor, whose number is the number of cores
abbrev pub actor_text : ℕ → ℕ → List ℕ
actor_text cores actor = if actor == cores then codes "d" else decimal actor

-- ---- rows

abbrev pub row_of : List (List ℕ) → List ℕ
row_of fields = join_with_byte 32 fields

-- fields with a space in front of each
abbrev pub spaced : List (List ℕ) → List ℕ
spaced fields = flat_map (λ field. 32 ∷ field) fields

abbrev pub head_row : List ℕ
head_row = codes "nios2 journal 1"

abbrev pub entry_fields : ℕ → Entry → List (List ℕ)
entry_fields cores entry = actor_text cores entry.actor ∷ decimal entry.local ∷ body_fields entry.request entry.reply

abbrev pub entry_row : ℕ → Entry → List ℕ
entry_row cores entry = row_of (entry_fields cores entry)

abbrev pub tail_row : ℕ → ℕ → List ℕ
tail_row core tail = row_of (codes "tail" ∷ decimal core ∷ decimal tail ∷ [])

-- the tails from a core on
abbrev pub tail_rows : ℕ → List ℕ → List (List ℕ)
tail_rows core [] = []
tail_rows core (tail ∷ tails) = tail_row core tail ∷ tail_rows (core + 1) tails

abbrev pub end_row : List ℕ
end_row = codes "end"

abbrev pub journal_rows : Content → List (List ℕ)
journal_rows j = head_row ∷ (map (entry_row (length j.tails)) j.entries ++ (tail_rows 0 j.tails ++ end_row ∷ []))

-- rows, each with its line feed
abbrev pub rows_text : List (List ℕ) → List ℕ
rows_text rows = flat_map (λ row. row ++ 10 ∷ []) rows

unfoldable pub journal_text : Content → List ℕ
journal_text j = rows_text (journal_rows j)
