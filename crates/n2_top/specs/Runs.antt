-- A run of a board, by an order or by a journal, and what it answers.
use Rattle.std.specs.Prelude.{◌≡◌, ℕ, List, [], length, Result, Ok, Err}
use Rattle.n2_parts.specs.declared.board.Board.{Board}
use Rattle.n2_board.specs.AddressMap.{AddressMap}
use Rattle.n2_journal.specs.Journals.{Content}
use Rattle.n2_journal.specs.Texts.{journal_text}
use Rattle.n2_order.specs.Orders.{Asked as Order}
use Rattle.n2_order.specs.Choices.{start_of}
use Rattle.n2_runs.specs.Machine.{Machine, start, run}
use Rattle.n2_runs.specs.Recorded.{journal_of}
use Rattle.n2_runs.specs.Replay.{Differs, replayed}
use Rattle.n2_smp.specs.declared.machine.Ran.{Ran}
use Rattle.n2_smp.specs.Standing.{RanStandsFor}
use Rattle.n2_driver.specs.Chosen.{chosen_order}
use Rattle.n2_report.specs.OfRun.{run_report, run_status}
use Rattle.n2_inputs.specs.declared.inputs.Inputs.{Inputs}
use Rattle.n2_inputs.specs.declared.refusal.Refusal.{Refusal}
use Rattle.n2_inputs.specs.declared.refusal.Refusal.TheVariants.{JournalWrong}
use Rattle.n2_inputs.specs.declared.refusal.Failure.{Failure}
use Rattle.n2_inputs.specs.declared.refusal.Failure.TheVariants.{Refused, NoAnswer}
use Rattle.n2_inputs.specs.declared.refusal.NoAnswer.TheVariants.{NoMemory}
use Rattle.n2_top.specs.declared.answers.Answer.{Answer}

-- the actors that an order picks from the start on; its file lists some
abbrev pub picked : Inputs → Order → List ℕ → List ℕ
picked inputs order list = chosen_order inputs.board inputs.layout (start inputs.board inputs.images) (start_of order list)

-- the machine at the end of their turns
abbrev pub end_by : Inputs → Order → List ℕ → Machine
end_by inputs order list = run inputs.board inputs.layout (start inputs.board inputs.images) (picked inputs order list)

-- a replay that differs is refused with its row
abbrev pub or_wrong : Result Machine Differs → Result Machine Refusal
or_wrong (Ok m) = Ok m
or_wrong (Err why) = Err (JournalWrong why.row)

-- the machine at the end of the run that a journal tells, or the first row that differs
abbrev pub told_end : Inputs → Content → Result Machine Refusal
told_end inputs journal = or_wrong (replayed inputs.board inputs.layout (start inputs.board inputs.images) journal)

-- what is left of a run is that of a machine with the board's cores
pub record EndsAs (inputs : Inputs) (ran : Ran) (m : Machine) : Type 0 where
  pub stands : RanStandsFor inputs.board inputs.layout ran m
  pub count : length m.cores ≡ length inputs.board.core

-- what is left of the run that a journal tells is that of the machine at its end
pub record IsTold (inputs : Inputs) (journal : Content) (ran : Ran) : Type 0 where
  pub machine : Machine
  pub is : replayed inputs.board inputs.layout (start inputs.board inputs.images) journal ≡ Ok machine
  pub ends : EndsAs inputs ran machine

-- a call that makes this run leaves that of it, or is refused as the replay is; want of memory may come in place of both
abbrev pub Tells : Inputs → Content → Result Ran Failure → Type 0
Tells inputs journal (Ok ran) = IsTold inputs journal ran
Tells inputs journal (Err (Refused refusal)) = told_end inputs journal ≡ Err refusal
Tells inputs journal (Err (NoAnswer cause)) = cause ≡ NoMemory

-- a status by the stops of its cores, the text of its journal, and its report
abbrev pub run_answer : Board → AddressMap → Machine → Answer
run_answer b map m = record { status = run_status m; journal = journal_text (journal_of m); report = run_report b map m }

-- the same of a run that leaves no journal
abbrev pub report_answer : Board → AddressMap → Machine → Answer
report_answer b map m = record { status = run_status m; journal = []; report = run_report b map m }
