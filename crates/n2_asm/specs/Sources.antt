-- What a source is as an image.
use Rattle.std.specs.Prelude.{ℕ, zero, suc, ◌+◌, ◌-◌, ◌*◌, ◌/◌, ◌%◌, ◌^◌, List, [], ◌∷◌, ◌++◌, length, Bool, true, false, not, Option, Some, None, Result, Ok, Err, option_map, unwrap_or, codes, find, nat_lt, nat_le, ◌==◌, ◌&&◌, ◌||◌, if◌then◌else◌}
use Rattle.std.specs.Option.{is_some, option_or}
use Rattle.std.specs.List.{list_any}
use Rattle.n2_elf.specs.declared.image.Segment.{Segment}
use Rattle.n2_elf.specs.declared.image.Image.{Image}
use Rattle.n2_statement.specs.declared.faults.AsmKind.{AsmKind}
use Rattle.n2_statement.specs.declared.faults.AsmKind.TheVariants as kind
use Rattle.n2_asm.specs.declared.faults.AsmFault.{AsmFault}
use Rattle.n2_asm.specs.declared.faults.AsmFault.TheVariants.{Row}
use Rattle.n2_source.specs.declared.numbers.Number.{Number}
use Rattle.n2_statement.specs.declared.values.Content.{Content}
use Rattle.n2_statement.specs.declared.values.Content.TheVariants as content
use Rattle.n2_source.specs.Numbers.{capped}
use Rattle.n2_asm.specs.Rows.{rows_of}
use Rattle.n2_asm.specs.Survey.{Surveyed, survey_of}
use Rattle.n2_source.specs.Lists.{word_of_number}
use Rattle.n2_statement.specs.Names.{named}
use Rattle.n2_statement.specs.Statements.{◌>=◌, label_at, labels_of, statement_of}
use Rattle.n2_statement.specs.Values.{content_of_row, bytes_in}

-- the segments that were closed, without those that have no bytes; how many were opened; the open
-- one, which is meant where one was opened; how many bytes there is room for; and the addresses of
-- labels
pub record Output : Type 0 where
  pub closed : List Segment
  pub opened : ℕ
  pub at : ℕ
  pub exec : Bool
  pub bytes : List ℕ
  pub room : ℕ
  pub labels : List ℕ → Option ℕ

-- where the next byte goes
abbrev pub here_of : Output → ℕ
here_of out = out.at + length out.bytes

-- a segment has a byte in the n bytes from here on
abbrev pub meets : ℕ → ℕ → Segment → Bool
meets here n s = nat_lt s.at (here + n) && nat_lt here (s.at + length s.bytes)

-- there is place for n bytes
abbrev pub has_place : ℕ → Output → Bool
has_place n out =
    nat_lt 0 out.opened && nat_le (here_of out + n) (2 ^ 32) && nat_le n out.room
    && (n == 0 || not (list_any (meets (here_of out) n) out.closed))

-- how many bytes a content has; what is above 2^40 stands as 2^40
abbrev pub len_of : Content → ℕ
len_of content.Nothing = 0
len_of (content.Open exec at) = 0
len_of (content.Word word) = 4
len_of (content.Pair upper lower) = 8
len_of (content.Words numbers) = capped (4 * length numbers)
len_of (content.Bytes numbers) = capped (length numbers)
len_of (content.Zeros n) = n
len_of (content.Text text) = capped (length text) + 1

-- a content that is made of words
abbrev pub is_words : Content → Bool
is_words (content.Word word) = true
is_words (content.Pair upper lower) = true
is_words (content.Words numbers) = true
is_words _ = false

-- there is place for what a row puts
abbrev pub is_placed : Content → Output → Bool
is_placed content.Nothing out = true
is_placed (content.Open exec at) out = at % 32 == 0 && nat_lt out.opened 64
is_placed c out = has_place (len_of c) out && (not (is_words c) || here_of out % 4 == 0)

-- a label stands in an open segment, below 2^32
abbrev pub are_placed : List ℕ → Output → Bool
are_placed row out = not (is_some (label_at row)) || (nat_lt 0 out.opened && nat_lt (here_of out) (2 ^ 32))

abbrev pub is_row : ℕ → Option ℕ → Bool
is_row n None = false
is_row n (Some row) = row == n

-- what a row puts, or the first kind of its faults
abbrev pub unless_fault : {A : Type 0} → Bool → AsmKind → A → Result A AsmKind
unless_fault good fault x = if good then Ok x else Err fault

abbrev pub placed : List ℕ → Output → Content → Result Content AsmKind
placed row out c = unless_fault (are_placed row out && is_placed c out) kind.Place c

unfoldable pub content_at : Surveyed → ℕ → List ℕ → Output → Result Content AsmKind
content_at survey n row out =
    statement_of row >= λ st. unless_fault (not (is_row n survey.repeated)) kind.Label st
    >= λ st. content_of_row survey.names (here_of out) st >= λ c. placed row out c

-- the open segment, once it is closed
abbrev pub segment_of : Output → Segment
segment_of out = record { at = out.at; bytes = out.bytes; size = length out.bytes; exec = out.exec; write = not out.exec }

-- the segments with the open one; one without bytes is left out
abbrev pub segments_of : Output → List Segment
segments_of out = if length out.bytes == 0 then out.closed else out.closed ++ segment_of out ∷ []

abbrev pub closed_now : Output → Output
closed_now out = record out { closed = segments_of out; bytes = [] }

abbrev pub opened_at : Bool → ℕ → Output → Output
opened_at exec at out = record (closed_now out) { opened = out.opened + 1; at = at; exec = exec }

abbrev pub with_bytes : Content → Output → Output
with_bytes c out = record out { bytes = out.bytes ++ bytes_in c; room = out.room - len_of c }

abbrev pub put : Content → Output → Output
put content.Nothing out = out
put (content.Open exec at) out = opened_at exec at out
put c out = with_bytes c out

-- labels with the address here
abbrev pub labelled : List (List ℕ) → ℕ → (List ℕ → Option ℕ) → List ℕ → Option ℕ
labelled [] here labels = labels
labelled (name ∷ names) here labels = labelled names here (named labels name here)

abbrev pub with_labels_here : List (List ℕ) → Output → Output
with_labels_here names out = record out { labels = labelled names (here_of out) out.labels }

abbrev pub at_row : {A : Type 0} → ℕ → Result A AsmKind → Result A AsmFault
at_row n (Ok x) = Ok x
at_row n (Err fault) = Err (Row n fault)

infixl 10 ◌>>=◌
abbrev pub ◌>>=◌ : {A B : Type 0} → Result A AsmFault → (A → Result B AsmFault) → Result B AsmFault
(Ok x) >>= f = f x
(Err fault) >>= f = Err fault

-- the output behind a row
unfoldable pub row_put : Surveyed → ℕ → List ℕ → Output → Result Output AsmFault
row_put survey n row out = at_row n (content_at survey n row out) >>= λ c. Ok (put c (with_labels_here (labels_of row) out))

-- the output behind rows from row n on, or the first faulty row
abbrev pub rows_put : Surveyed → ℕ → List (List ℕ) → Output → Result Output AsmFault
rows_put survey n [] out = Ok out
rows_put survey n (row ∷ rows) out = row_put survey n row out >>= λ next. rows_put survey (n + 1) rows next

-- 16 MiB
abbrev pub most_bytes : ℕ
most_bytes = 2 ^ 24

abbrev pub no_output : Output
no_output = record { closed = []; opened = 0; at = 0; exec = true; bytes = []; room = most_bytes; labels = λ _. None }

-- an image with the addresses of its labels
pub record Assembled : Type 0 where
  pub image : Image
  pub labels : List ℕ → Option ℕ

-- the entry: `_start` where it has a value, else the address of the first executable segment
abbrev pub entry_of : Option Number → ℕ → ℕ
entry_of (Some start) first = word_of_number start
entry_of None first = first

abbrev pub image_of : Option Number → Option ℕ → List Segment → (List ℕ → Option ℕ) → Result Assembled AsmFault
image_of start None segments labels = Err (Row 0 kind.Place)
image_of start (Some first) segments labels = Ok (record {
  image = record { entry = entry_of start first; segments = segments };
  labels = labels;
})

-- the address of the first executable segment
abbrev pub first_code : List Segment → Option ℕ
first_code [] = None
first_code (s ∷ segments) = if s.exec then Some s.at else first_code segments

abbrev pub finished : Surveyed → Output → Result Assembled AsmFault
finished survey out = image_of (survey.names (codes "_start")) (first_code (segments_of out)) (segments_of out) out.labels

-- the output of all rows of a source
unfoldable pub output_of : Surveyed → List ℕ → Result Output AsmFault
output_of survey source = rows_put survey 1 (rows_of source) no_output

-- what a source is, or its first faulty row with the first kind of its faults
unfoldable pub assembled : List ℕ → Result Assembled AsmFault
assembled source = output_of (survey_of source) source >>= λ out. finished (survey_of source) out
