-- What calls that may be refused say of the definitions.
use Rattle.std.specs.Prelude.{◌≡◌, ℕ, ◌≤◌, Option, Result, Ok, Err, OnOk, IsErrOf, ⊤}
use Rattle.n2_outside.specs.Faults.{Rose}
use Rattle.n2_outside.specs.Files.{Files}
use Rattle.n2_board.specs.declared.placement.OpenFault.{OpenFault}
use Rattle.n2_board.specs.declared.placement.OpenFault.TheVariants.{NoMemory as OpenNoMemory}
use Rattle.n2_boardtext.specs.declared.fault.TextFault.{TextFault}
use Rattle.n2_boardtext.specs.declared.fault.TextFault.TheVariants.{NoMemory as TextNoMemory}
use Rattle.n2_order.specs.declared.lists.ListFault.{ListFault}
use Rattle.n2_order.specs.declared.lists.ListFault.TheVariants.{Row, NoMemory as ListNoMemory}
use Rattle.n2_journal.specs.declared.journal.JournalFault.{JournalFault}
use Rattle.n2_journal.specs.declared.journal.JournalFault.TheVariants.{NoMemory as JournalNoMemory}
use Rattle.n2_inputs.specs.declared.refusal.Refusal.{Refusal}
use Rattle.n2_inputs.specs.declared.refusal.Refusal.TheVariants.{BoardText, Misfit, OrderRow, JournalText}
use Rattle.n2_inputs.specs.declared.refusal.Failure.{Failure}
use Rattle.n2_inputs.specs.declared.refusal.Failure.TheVariants.{Refused, NoAnswer}
use Rattle.n2_inputs.specs.declared.refusal.NoAnswer.TheVariants.{ReadFault, NoMemory}

-- a call gives the value that is defined, as it is seen, or is refused as it is; a read fault and want
-- of memory may come in place of both
abbrev pub Gives : {A B : Type 0} → (A → B) → Result B Refusal → Result A Failure → Type 0
Gives seen defined (Ok a) = defined ≡ Ok (seen a)
Gives seen defined (Err (Refused refusal)) = defined ≡ Err refusal
Gives seen defined (Err (NoAnswer cause)) = ⊤

-- a file could not be read
abbrev pub ReadFails : {A : Type 0} → Result A Failure → Type 0
ReadFails result = IsErrOf result (NoAnswer ReadFault)

-- what a call leaves of a folder: its files, and its count of faults, which has not fallen, has risen
-- where the call answers a read fault, and is as it was where the call gives a value
pub record LeavesFolder {A : Type 0} (files_before files_now : Option Files) (before now : ℕ) (result : Result A Failure) : Type 0 where
  pub files : files_now ≡ files_before
  pub later : before ≤ now
  pub failed : ReadFails result → Rose before now
  pub kept : OnOk result (now ≡ before)

-- a board's text with a fault is refused
abbrev pub text_failure : TextFault → Failure
text_failure TextNoMemory = NoAnswer NoMemory
text_failure fault = Refused (BoardText fault)

-- images that do not fit a board are refused
abbrev pub misfit_of : OpenFault → Failure
misfit_of OpenNoMemory = NoAnswer NoMemory
misfit_of fault = Refused (Misfit fault)

-- a file that is no list of actors is refused
abbrev pub list_failure : ListFault → Failure
list_failure (Row row) = Refused (OrderRow row)
list_failure ListNoMemory = NoAnswer NoMemory

-- a text that is no journal is refused
abbrev pub journal_failure : JournalFault → Failure
journal_failure JournalNoMemory = NoAnswer NoMemory
journal_failure fault = Refused (JournalText fault)
