-- Reading the text of a journal row by row, up to the first row that is outside of its grammar.
use Rattle.std.specs.Prelude.{ℕ, ◌+◌, ◌/◌, ◌%◌, ◌^◌, List, [], ◌∷◌, ◌++◌, length, replicate, Bool, false, Option, Some, None, option_map, Result, Ok, Err, nat_lt, ◌==◌, ◌&&◌, if◌then◌else◌, codes}
use Rattle.std.specs.Str.{bytes_eq}
use Rattle.n2_word.specs.Words.{is_aligned}
use Rattle.n2_text.specs.Fields.{numeral, at_most, from_one}
use Rattle.n2_bus.specs.declared.request.Request.{Request}
use Rattle.n2_bus.specs.declared.request.Request.TheVariants.{FillCode, FillData, WriteBack, Read, Write, Sample, Tick, Receive, Drain}
use Rattle.n2_bus.specs.declared.request.Reply.{Reply}
use Rattle.n2_journal.specs.declared.entry.Entry.{Entry}
use Rattle.n2_journal.specs.declared.journal.JournalFault.{JournalFault}
use Rattle.n2_journal.specs.declared.journal.JournalFault.TheVariants.{NotJournal, Cut}
use Rattle.n2_journal.specs.declared.rows.Access.{Access}
use Rattle.n2_journal.specs.declared.reading.Stage.{Stage}
use Rattle.n2_journal.specs.declared.reading.Stage.TheVariants.{Head, Rows, Ended}
use Rattle.n2_journal.specs.Journals.{Content, no_words, words_reply}
use Rattle.n2_journal.specs.Texts.{head_row}
use Rattle.n2_journal.specs.Cursors.{◌>>=◌, parts_of, fields_of, is_empty, next_field, next_by, next_word, next_number, next_bit, next_width, next_line}

-- ---- the fields of an entry

-- a value, where no field is left
abbrev pub whole : {A : Type 0} → A → List (List ℕ) → Option A
whole value fields = if is_empty fields then Some value else None

-- the first address of a line, as the line's number
unfoldable pub next_line_number : List (List ℕ) → Option (ℕ × List (List ℕ))
next_line_number fields = do
  a ← next_word fields
  if nat_lt a.0 (2 ^ 31) && (a.0 % 32 == 0) then Some (a.0 / 32, a.1) else None

-- a line and its words
unfoldable pub line_in : List (List ℕ) → Option (ℕ × List ℕ)
line_in fields = do
  line ← next_line_number fields
  words ← next_line line.1
  whole (line.0, words.0) words.1

-- a load or store past the caches
unfoldable pub access_in : List (List ℕ) → Option Access
access_in fields = do
  width ← next_width fields
  a ← next_word width.1
  value ← next_word a.1
  lines ← next_word value.1
  took ← next_bit lines.1
  pointer ← next_word took.1
  if nat_lt a.0 (2 ^ 31) && is_aligned a.0 width.0
      then whole (record { width = width.0; address = a.0; value = value.0; lines = lines.0; took = took.0; pointer = pointer.0 }) pointer.1
      else None

abbrev pub code_in : List (List ℕ) → Option (Request × Reply)
code_in fields = do
  x ← line_in fields
  Some (FillCode x.0, words_reply x.1)

abbrev pub fill_in : List (List ℕ) → Option (Request × Reply)
fill_in fields = do
  x ← line_in fields
  Some (FillData x.0, words_reply x.1)

abbrev pub back_in : List (List ℕ) → Option (Request × Reply)
back_in fields = do
  x ← line_in fields
  Some (WriteBack x.0 x.1, words_reply no_words)

abbrev pub read_in : List (List ℕ) → Option (Request × Reply)
read_in fields = do
  x ← access_in fields
  Some (Read x.address x.width, record { words = x.value ∷ replicate 7 0; lines = x.lines; took = x.took; pointer = x.pointer })

abbrev pub write_in : List (List ℕ) → Option (Request × Reply)
write_in fields = do
  x ← access_in fields
  Some (Write x.address x.width x.value, record { words = no_words; lines = x.lines; took = x.took; pointer = x.pointer })

abbrev pub sample_in : List (List ℕ) → Option (Request × Reply)
sample_in fields = do
  lines ← next_word fields
  whole (Sample, record { words = no_words; lines = lines.0; took = false; pointer = 0 }) lines.1

abbrev pub tick_in : List (List ℕ) → Option (Request × Reply)
tick_in fields = do
  n ← next_by (λ field. from_one (at_most 4294967295 (numeral field))) fields
  whole (Tick n.0, words_reply no_words) n.1

-- a UART, and whether a byte moved
unfoldable pub moved_in : List (List ℕ) → Option (ℕ × Bool)
moved_in fields = do
  uart ← next_number 7 fields
  took ← next_bit uart.1
  whole (uart.0, took.0) took.1

abbrev pub moved_reply : Bool → Reply
moved_reply took = record { words = no_words; lines = 0; took = took; pointer = 0 }

abbrev pub receive_in : List (List ℕ) → Option (Request × Reply)
receive_in fields = do
  x ← moved_in fields
  Some (Receive x.0, moved_reply x.1)

abbrev pub drain_in : List (List ℕ) → Option (Request × Reply)
drain_in fields = do
  x ← moved_in fields
  Some (Drain x.0, moved_reply x.1)

-- what a core asks for
unfoldable pub core_body : List ℕ → List (List ℕ) → Option (Request × Reply)
core_body kind fields =
    if bytes_eq kind (codes "code") then code_in fields
    else (if bytes_eq kind (codes "fill") then fill_in fields
    else (if bytes_eq kind (codes "back") then back_in fields
    else (if bytes_eq kind (codes "read") then read_in fields
    else (if bytes_eq kind (codes "write") then write_in fields
    else (if bytes_eq kind (codes "sample") then sample_in fields
    else None)))))

-- what the device actor asks for
unfoldable pub device_body : List ℕ → List (List ℕ) → Option (Request × Reply)
device_body kind fields =
    if bytes_eq kind (codes "tick") then tick_in fields
    else (if bytes_eq kind (codes "receive") then receive_in fields
    else (if bytes_eq kind (codes "drain") then drain_in fields
    else None))

-- ---- the entry of a row. How many cores there are is known only behind all rows: until then a number stands for the device
-- actor, and one for all cores from the eighth on, which no journal has

abbrev pub device_mark : ℕ
device_mark = 8

abbrev pub no_core : ℕ
no_core = 9

abbrev pub core_mark : ℕ → ℕ
core_mark n = if nat_lt n 8 then n else no_core

unfoldable pub core_of : List ℕ → Option ℕ
core_of field = option_map core_mark (numeral field)

unfoldable pub core_entry : ℕ → List (List ℕ) → Option Entry
core_entry core fields = do
  local ← next_number 1000000000 fields
  kind ← next_field local.1
  body ← core_body kind.0 kind.1
  Some (record { local = local.0; actor = core; request = body.0; reply = body.1 })

unfoldable pub device_entry : List (List ℕ) → Option Entry
device_entry fields = do
  local ← next_number 0 fields
  kind ← next_field local.1
  body ← device_body kind.0 kind.1
  Some (record { local = local.0; actor = device_mark; request = body.0; reply = body.1 })

-- the entry of an actor's field and the fields behind it
unfoldable pub entry_in : List ℕ → List (List ℕ) → Option Entry
entry_in actor fields = if bytes_eq actor (codes "d") then device_entry fields else (core_of actor >>= λ core. core_entry core fields)

-- ---- the order of the rows

-- what has been read
pub record State : Type 0 where
  pub stage : Stage
  pub entries : List Entry
  pub tails : List ℕ

abbrev pub begin : State
begin = record { stage = Head; entries = []; tails = [] }

-- an entry, where no tail stands before it
abbrev pub add_entry : State → Entry → Option State
add_entry s entry =
    if length s.tails == 0 && nat_lt (length s.entries) 1000000
    then Some (record { stage = s.stage; entries = s.entries ++ entry ∷ []; tails = s.tails })
    else None

-- the tail of the next core
abbrev pub add_tail : State → ℕ → ℕ → Option State
add_tail s core tail =
    if core == length s.tails
    then Some (record { stage = s.stage; entries = s.entries; tails = s.tails ++ tail ∷ [] })
    else None

-- a core, of which there are at most eight, and its turns
unfoldable pub tail_of : List (List ℕ) → Option (ℕ × ℕ)
tail_of fields = do
  core ← next_number 7 fields
  tail ← next_number 1000000000 core.1
  whole (core.0, tail.0) tail.1

-- `end`, alone in its row and behind a tail
unfoldable pub end_in : State → List (List ℕ) → Option State
end_in s fields =
    if is_empty fields && nat_lt 0 (length s.tails) then Some (record { stage = Ended; entries = s.entries; tails = s.tails }) else None

-- a row behind the first one
unfoldable pub row_in : State → List (List ℕ) → Option State
row_in s fields = do
  first ← next_field fields
  if bytes_eq first.0 (codes "end") then end_in s first.1
      else (if bytes_eq first.0 (codes "tail") then (tail_of first.1 >>= λ tail. add_tail s tail.0 tail.1)
      else (entry_in first.0 first.1 >>= add_entry s))

abbrev pub step_at : Stage → State → List ℕ → Option State
step_at Head s row = if bytes_eq row head_row then Some (record { stage = Rows; entries = s.entries; tails = s.tails }) else None
step_at Rows s row = row_in s (fields_of row)
step_at Ended s row = None

-- the state after one more row, where that row may stand there
unfoldable pub step : State → List ℕ → Option State
step s row = step_at s.stage s row

-- ---- the whole text

infixl 10 ◌>=◌
abbrev pub ◌>=◌ : {A B : Type 0} → Result A JournalFault → (A → Result B JournalFault) → Result B JournalFault
(Ok x) >= f = f x
(Err fault) >= f = Err fault

abbrev pub or_fault : {A : Type 0} → Option A → JournalFault → Result A JournalFault
or_fault (Some x) fault = Ok x
or_fault None fault = Err fault

-- an entry with the number of its actor
abbrev pub placed : ℕ → Entry → Option Entry
placed cores entry =
    if entry.actor == device_mark then Some (record { local = entry.local; actor = cores; request = entry.request; reply = entry.reply })
    else (if nat_lt entry.actor cores then Some entry else None)

-- the entries with the numbers of their actors, or the first row whose actor there is not
abbrev pub settle : ℕ → ℕ → List Entry → Result (List Entry) JournalFault
settle cores row [] = Ok []
settle cores row (entry ∷ entries) =
    or_fault (placed cores entry) (NotJournal row) >= λ first. settle cores (row + 1) entries >= λ more. Ok (first ∷ more)

abbrev pub settled : State → Result Content JournalFault
settled s = settle (length s.tails) 2 s.entries >= λ entries. Ok (record { entries = entries; tails = s.tails })

-- behind all rows stands a piece without a line feed, which has to be empty
abbrev pub finish_at : Stage → State → ℕ → List ℕ → Result Content JournalFault
finish_at Ended s row last = if length last == 0 then settled s else Err (NotJournal row)
finish_at _ s row last = Err Cut

-- the rows from this one on, and the piece behind the last
abbrev pub run : State → ℕ → List (List ℕ) → Result Content JournalFault
run s row [] = Err Cut
run s row (last ∷ []) = finish_at s.stage s row last
run s row (this ∷ next ∷ rows) = or_fault (step s this) (NotJournal row) >= λ t. run t (row + 1) (next ∷ rows)

-- the journal of a text: `NotJournal` names the first row outside of the grammar, counted from 1, and `Cut` comes where all
-- rows are inside of it and the text ends before the end of the row `end`
unfoldable pub read : List ℕ → Result Content JournalFault
read text = run begin 1 (parts_of 10 text)
