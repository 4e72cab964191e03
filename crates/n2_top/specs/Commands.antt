-- The commands of the tool, by their words.
use Rattle.std.specs.Prelude.{ℕ, List, [], ◌∷◌, Bool, true, false, Option, Some, None, if◌then◌else◌, codes}
use Rattle.std.specs.Str.{bytes_eq}
use Rattle.n2_text.specs.Fields.{numeral, at_most, from_one}
use Rattle.n2_order.specs.Orders.{Asked, asked, order_of, HasTurns}
use Rattle.n2_top.specs.declared.command.Command.{Command as Borrowed}
use Rattle.n2_top.specs.declared.command.Command.TheVariants as borrowed

-- what the words ask for
pub data Command : Type 0 where
  -- none of the table
  Faulty : Command
  -- a file on the plain board for so many acts
  Plain : (file : List ℕ) (steps : ℕ) → Command
  -- a run of the board in a file by an order
  Step : (board : List ℕ) (order : Asked) → Command
  -- the run of the board in a file that the journal in another tells
  Replay : (board journal : List ℕ) → Command
  -- the flat machine along that run
  Flat : (board journal : List ℕ) → Command
  -- the ELF file of a source, with the routines of the HAL behind it or without
  Assemble : (file : List ℕ) (hal : Bool) → Command
  -- the words of an image as text
  Disassemble : (file : List ℕ) → Command
  -- the run of the workload of so many critical sections a core
  Bench : (sections : ℕ) → Command

-- what a command that borrows its words stands for
abbrev pub command_by : Borrowed → Command
command_by borrowed.Faulty = Faulty
command_by (borrowed.Plain file steps) = Plain file.now steps
command_by (borrowed.Step board order) = Step board.now (asked order)
command_by (borrowed.Replay board journal) = Replay board.now journal.now
command_by (borrowed.Flat board journal) = Flat board.now journal.now
command_by (borrowed.Assemble file hal) = Assemble file.now hal
command_by (borrowed.Disassemble file) = Disassemble file.now
command_by (borrowed.Bench sections) = Bench sections

-- the rounds of its order have at least one turn
abbrev pub HasTurnsIn : Borrowed → Type 0
HasTurnsIn (borrowed.Step board order) = HasTurns (asked order)
HasTurnsIn _ = Unit {0}

-- a number of acts, from 1 to 1,000,000
abbrev pub steps_of : List ℕ → Option ℕ
steps_of word = from_one (at_most 1000000 (numeral word))

-- a number of critical sections, from 1 to 400
abbrev pub sections_of : List ℕ → Option ℕ
sections_of word = from_one (at_most 400 (numeral word))

abbrev pub plain_command : List ℕ → Option ℕ → Command
plain_command file None = Faulty
plain_command file (Some steps) = Plain file steps

abbrev pub step_command : List ℕ → Option Asked → Command
step_command board None = Faulty
step_command board (Some order) = Step board order

abbrev pub bench_command : Option ℕ → Command
bench_command None = Faulty
bench_command (Some sections) = Bench sections

-- plain FILE STEPS; step BOARD ORDER; replay BOARD JOURNAL; flat BOARD JOURNAL
unfoldable pub three_words : List ℕ → List ℕ → List ℕ → Command
three_words name first second =
    if bytes_eq name (codes "plain") then plain_command first (steps_of second)
    else (if bytes_eq name (codes "step") then step_command first (order_of second)
    else (if bytes_eq name (codes "replay") then Replay first second
    else (if bytes_eq name (codes "flat") then Flat first second
    else Faulty)))

-- asm FILE; asmhal FILE; dis FILE; bench N
unfoldable pub two_words : List ℕ → List ℕ → Command
two_words name word =
    if bytes_eq name (codes "asm") then Assemble word false
    else (if bytes_eq name (codes "asmhal") then Assemble word true
    else (if bytes_eq name (codes "dis") then Disassemble word
    else (if bytes_eq name (codes "bench") then bench_command (sections_of word)
    else Faulty)))

abbrev pub command_of : List (List ℕ) → Command
command_of (name ∷ first ∷ second ∷ []) = three_words name first second
command_of (name ∷ first ∷ []) = two_words name first
command_of words = Faulty

-- a command that reads files
abbrev pub reads_files : Command → Bool
reads_files Faulty = false
reads_files (Plain file steps) = true
reads_files (Step board order) = true
reads_files (Replay board journal) = true
reads_files (Flat board journal) = true
reads_files (Assemble file hal) = true
reads_files (Disassemble file) = true
reads_files (Bench sections) = false

-- a command whose run is written to the journal
abbrev pub writes_journal : Command → Bool
writes_journal Faulty = false
writes_journal (Plain file steps) = false
writes_journal (Step board order) = true
writes_journal (Replay board journal) = false
writes_journal (Flat board journal) = false
writes_journal (Assemble file hal) = false
writes_journal (Disassemble file) = false
writes_journal (Bench sections) = false
