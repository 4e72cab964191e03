-- What is refused: the statuses and the rows that are written.
use Rattle.std.specs.Prelude.{ℕ, List, [], ◌∷◌, ◌++◌, codes, decimal}
use Rattle.n2_elf.specs.Names.{fault_text}
use Rattle.n2_boardtext.specs.Rows.{fault_text as board_text}
use Rattle.n2_board.specs.declared.placement.OpenFault.{OpenFault}
use Rattle.n2_board.specs.declared.placement.OpenFault.TheVariants.{Outside, EntryOutside, Overlap, NoMemory}
use Rattle.n2_journal.specs.declared.journal.JournalFault.{JournalFault}
use Rattle.n2_journal.specs.declared.journal.JournalFault.TheVariants as journals
use Rattle.n2_asm.specs.FaultTexts.{fault_text as source_fault}
use Rattle.n2_inputs.specs.declared.refusal.Role.{Role}
use Rattle.n2_inputs.specs.declared.refusal.Role.TheVariants as roles
use Rattle.n2_inputs.specs.declared.refusal.Refusal.{Refusal}
use Rattle.n2_inputs.specs.declared.refusal.Refusal.TheVariants.{Usage, RunUsage, Absent, TooLong, BoardText, Image, Misfit, OrderRow, JournalText, JournalWrong, SourceRow}

-- a file has at most so many bytes
abbrev pub limit_of : Role → ℕ
limit_of roles.Board = 262144
limit_of (roles.Image core) = 16777216
limit_of roles.Journal = 268435456
limit_of roles.Source = 1048576
limit_of roles.Order = 4194304

-- how the rows on a file begin
abbrev pub role_text : Role → List ℕ
role_text roles.Board = codes "board"
role_text (roles.Image core) = codes "image " ++ decimal core
role_text roles.Journal = codes "journal"
role_text roles.Source = codes "source"
role_text roles.Order = codes "order"

-- the status where a file is absent, too long or refused
abbrev pub role_status : Role → ℕ
role_status roles.Board = 4
role_status (roles.Image core) = 5
role_status roles.Journal = 9
role_status roles.Source = 10
role_status roles.Order = 11

abbrev pub status_of : Refusal → ℕ
status_of Usage = 3
status_of RunUsage = 3
status_of (Absent role) = role_status role
status_of (TooLong role) = role_status role
status_of (BoardText fault) = 4
status_of (Image core fault) = 5
status_of (Misfit fault) = 5
status_of (OrderRow row) = 11
status_of (JournalText fault) = 9
status_of (JournalWrong row) = 9
status_of (SourceRow row kind) = 10

unfoldable pub usage : List ℕ
usage = codes "usage: n2_tool plain FILE STEPS | step BOARD ORDER | replay BOARD JOURNAL | flat BOARD JOURNAL | asm FILE | asmhal FILE | dis FILE | bench N"

-- what is wrong with a file
abbrev pub file_text : Role → List ℕ → List ℕ
file_text role cause = role_text role ++ codes " " ++ cause

-- an entry that is not in a memory; two numbers of cores behind a name
abbrev pub entry_text : ℕ → List ℕ
entry_text core = codes "entry " ++ decimal core ++ codes " outside"

abbrev pub pair_text : List ℕ → ℕ → ℕ → List ℕ
pair_text name a b = name ++ decimal a ++ codes " " ++ decimal b

-- the first thing that does not fit the board
unfoldable pub misfit_text : OpenFault → List ℕ
misfit_text (Outside core) = file_text (roles.Image core) (codes "outside")
misfit_text (EntryOutside core) = entry_text core
misfit_text (Overlap a b) = pair_text (codes "images overlap ") a b
misfit_text NoMemory = codes "images nomemory"

-- a row of a file, counted from 1
abbrev pub row_text : Role → List ℕ → ℕ → List ℕ
row_text role name row = role_text role ++ name ++ decimal row

-- why a text is no journal
abbrev pub journal_text : JournalFault → List ℕ
journal_text (journals.NotJournal row) = row_text roles.Journal (codes " row ") row
journal_text journals.Cut = file_text roles.Journal (codes "cut")
journal_text journals.NoMemory = file_text roles.Journal (codes "nomemory")

unfoldable pub text_of : Refusal → List ℕ
text_of Usage = usage
text_of RunUsage = codes "usage: n2_mp run BOARD"
text_of (Absent role) = file_text role (codes "absent")
text_of (TooLong role) = file_text role (codes "too long")
text_of (BoardText fault) = board_text fault
text_of (Image core fault) = file_text (roles.Image core) (fault_text fault)
text_of (Misfit fault) = misfit_text fault
text_of (OrderRow row) = row_text roles.Order (codes " row ") row
text_of (JournalText fault) = journal_text fault
text_of (JournalWrong row) = row_text roles.Journal (codes " wrong ") row
text_of (SourceRow row kind) = file_text roles.Source (source_fault row kind)

-- a row ends with a line feed
abbrev pub row_of : Refusal → List ℕ
row_of refusal = text_of refusal ++ 10 ∷ []
