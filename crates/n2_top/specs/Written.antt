-- What `step` writes, and what reads it back.
use Rattle.std.specs.Prelude.{ℕ, List, [], ◌++◌, ◌≡◌, Option, Some, Result, Ok, Err, codes, ⊤}
use Rattle.n2_outside.specs.Files.{Files}
use Rattle.n2_parts.specs.declared.board.Board.{Board}
use Rattle.n2_runs.specs.FlatRun.{Flat}
use Rattle.n2_report.specs.OfFlat.{flat_flat_part}
use Rattle.n2_inputs.specs.declared.inputs.Inputs.{Inputs}
use Rattle.n2_inputs.specs.declared.refusal.Refusal.{Refusal}
use Rattle.n2_inputs.specs.Asked.{asked_run}
use Rattle.n2_top.specs.declared.answers.Answer.{Answer}
use Rattle.n2_top.specs.Commands.{Command, Step}
use Rattle.n2_top.specs.Run.{Answers}

-- the board of a run over an order, or the first refusal
abbrev pub board_of : Result (Inputs × List ℕ) Refusal → Result Inputs Refusal
board_of (Ok found) = Ok found.0
board_of (Err refusal) = Err refusal

-- `step` is answered by a finished run of what it asks for
abbrev pub IsStepped : Option Files → Command → Answer → Type 0
IsStepped told (Step board order) a = (files : Files) → told ≡ Some files → Answers (board_of (asked_run files board order)) a
IsStepped told command a = ⊤

-- the same answer without a journal
abbrev pub unwritten : Answer → Answer
unwritten a = record { status = a.status; journal = []; report = a.report }

-- a report and a flat report have the flat part of one flat machine
pub record HaveFlatPart (b : Board) (m : Flat) (report flat_report : List ℕ) : Type 0 where
  pub rest : List ℕ
  pub lines : List ℕ
  pub report_is : report ≡ codes "nios2 report 1\n" ++ flat_flat_part b m ++ rest
  pub flat_report_is : flat_report ≡ codes "nios2 flat 1\n" ++ flat_flat_part b m ++ lines
