-- The file of a journal.
use Rattle.std.specs.Prelude.{ℕ, List, Result, Ok, Err}
use Rattle.n2_outside.specs.Files.{Files, file_at}
use Rattle.n2_journal.specs.declared.journal.JournalFault.{JournalFault}
use Rattle.n2_journal.specs.Journals.{Content}
use Rattle.n2_journal.specs.Reading.{read}
use Rattle.n2_inputs.specs.declared.refusal.Role.TheVariants as roles
use Rattle.n2_inputs.specs.declared.refusal.Refusal.{Refusal}
use Rattle.n2_inputs.specs.declared.refusal.Refusal.TheVariants as refusals
use Rattle.n2_inputs.specs.Files.{◌>>=◌, file_of}

-- the journal of a text, where each of its rows is inside of the grammar
abbrev pub journal_in : Result Content JournalFault → Result Content Refusal
journal_in (Ok journal) = Ok journal
journal_in (Err fault) = Err (refusals.JournalText fault)

-- the journal in the file of a name
unfoldable pub asked_journal : Files → List ℕ → Result Content Refusal
asked_journal files name = do
  bytes ← file_of (file_at files name) roles.Journal
  journal_in (read bytes)
