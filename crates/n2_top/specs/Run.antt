-- `run BOARD`: what the words of a run ask for, and what a run whose order threads draw answers.
use Rattle.std.specs.Prelude.{◌≡◌, ℕ, ◌<◌, List, [], ◌∷◌, Option, Some, None, Result, Ok, Err, ◌⊎◌, if◌then◌else◌, codes}
use Rattle.std.specs.Str.{bytes_eq}
use Rattle.n2_outside.specs.Files.{Files}
use Rattle.n2_journal.specs.Journals.{Content, IsWithinLimits}
use Rattle.n2_runs.specs.Machine.{start}
use Rattle.n2_runs.specs.Recorded.{Records, actors_of}
use Rattle.n2_inputs.specs.declared.inputs.Inputs.{Inputs}
use Rattle.n2_inputs.specs.declared.refusal.Refusal.{Refusal}
use Rattle.n2_inputs.specs.declared.refusal.Refusal.TheVariants.{RunUsage}
use Rattle.n2_inputs.specs.Refusals.{status_of}
use Rattle.n2_inputs.specs.Asked.{asked_inputs, IsReady}
use Rattle.n2_top.specs.declared.answers.Answer.{Answer}
use Rattle.n2_top.specs.Machines.{caching}
use Rattle.n2_top.specs.Runs.{run_answer}
use Rattle.n2_top.specs.Answers.{settled}

-- the board's file, where the first of two words is `run`
unfoldable pub run_words : List ℕ → List ℕ → Option (List ℕ)
run_words name board = if bytes_eq name (codes "run") then Some board else None

-- the board's file that some words name: `run BOARD`, and no other words
abbrev pub board_named : List (List ℕ) → Option (List ℕ)
board_named (name ∷ board ∷ []) = run_words name board
board_named words = None

-- the board in the named file with its images, or the first refusal
abbrev pub asked_by : Option (List ℕ) → Files → Result Inputs Refusal
asked_by None files = Err RunUsage
asked_by (Some board) files = asked_inputs files board

-- what holds over the files that a folder tells; over all files, where no board is named
abbrev pub OverNamed : Option Files → Option (List ℕ) → (Files → Type 0) → Type 0
OverNamed told named P = (files : Files) → (told ≡ Some files) ⊎ (named ≡ None) → P files

-- the journal and the report of a finished run, whichever order the threads drew
pub record IsRunOf (inputs : Inputs) (a : Answer) : Type 0 where
  pub ready : IsReady inputs
  pub drawn : Content
  pub within : IsWithinLimits drawn
  pub records : Records inputs.board inputs.layout (start inputs.board inputs.images) drawn
  pub answer_is : a ≡ run_answer inputs.board inputs.layout (caching inputs (actors_of drawn))

-- what may be answered: a run of what is asked, or the row of the refusal
abbrev pub Answers : Result Inputs Refusal → Answer → Type 0
Answers (Ok inputs) a = IsRunOf inputs a
Answers (Err refusal) a = a ≡ settled (Err refusal)

-- the statuses of these answers: those of runs, or that of the refusal
abbrev pub IsStatusFor : Result Inputs Refusal → ℕ → Type 0
IsStatusFor (Ok inputs) status = status < 3
IsStatusFor (Err refusal) status = status ≡ status_of refusal
