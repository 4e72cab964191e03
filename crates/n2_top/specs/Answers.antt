-- What the tool answers: a status, what the journal grows by, and what is written to `out`.
use Rattle.std.specs.Prelude.{◌≡◌, ℕ, List, [], Option, Some, Bool, false, Result, Ok, Err, nat_lt, ◌||◌, ◌⊎◌, codes}
use Rattle.n2_outside.specs.Files.{Files, file_at}
use Rattle.n2_top.specs.declared.answers.Answer.{Answer}
use Rattle.n2_inputs.specs.declared.refusal.Refusal.{Refusal}
use Rattle.n2_inputs.specs.declared.refusal.Refusal.TheVariants.{Usage}
use Rattle.n2_top.specs.Commands.{Command, Faulty, Plain, Step, Replay, Flat, Assemble, Disassemble, Bench, command_of, reads_files}
use Rattle.n2_inputs.specs.Refusals.{status_of, row_of}
use Rattle.n2_inputs.specs.Files.{◌>>=◌}
use Rattle.n2_inputs.specs.Asked.{asked_replay}
use Rattle.n2_inputs.specs.Sources.{asked_source, asked_listing}
use Rattle.n2_elf.specs.Writing.{file_of}
use Rattle.n2_dis.specs.Texts.{listing}
use Rattle.n2_top.specs.Asked.{Asked, PlainRun, OrderRun, SeedRun, JournalRun, FlatRun, File, Listing}
use Rattle.n2_top.specs.Plain.{asked_plain, plain_run, plain_answer}
use Rattle.n2_top.specs.Step.{asked_step, step_answer}
use Rattle.n2_top.specs.Bench.{asked_bench, bench_answer}
use Rattle.n2_top.specs.Replay.{replay_answer}
use Rattle.n2_top.specs.Flat.{flat_run_answer}

-- what a command asks of some files
abbrev pub asked_of : Command → Files → Result Asked Refusal
asked_of Faulty files = Err Usage
asked_of (Plain file steps) files = asked_plain (file_at files file) steps
asked_of (Step board order) files = asked_step files board order
asked_of (Replay board journal) files = asked_replay files board journal >>= λ found. Ok (JournalRun found.0 found.1)
asked_of (Flat board journal) files = asked_replay files board journal >>= λ found. Ok (FlatRun found.0 found.1)
asked_of (Assemble file hal) files = asked_source files file hal >>= λ image. Ok (File image)
asked_of (Disassemble file) files = asked_listing files file >>= λ image. Ok (Listing image)
asked_of (Bench sections) files = asked_bench sections

-- the answer of a command that only writes a text
abbrev pub done : List ℕ → Answer
done report = record { status = 0; journal = []; report = report }

-- what is answered to what is asked
abbrev pub answered : Asked → Result Answer Refusal
answered (PlainRun image steps) = Ok (plain_answer (plain_run image steps))
answered (OrderRun inputs order list) = Ok (step_answer inputs order list)
answered (SeedRun inputs seed) = Ok (bench_answer inputs seed)
answered (JournalRun inputs journal) = replay_answer inputs journal
answered (FlatRun inputs journal) = flat_run_answer inputs journal
answered (File image) = Ok (done (file_of image))
answered (Listing image) = Ok (done (listing image.segments))

-- the answer to a command, or the first refusal
abbrev pub reply_to : Command → Files → Result Answer Refusal
reply_to command files = asked_of command files >>= answered

-- the row of a refusal is answered in its place
abbrev pub settled : Result Answer Refusal → Answer
settled (Ok answer) = answer
settled (Err refusal) = record { status = status_of refusal; journal = []; report = row_of refusal }

-- the answer to some words
abbrev pub answer_of : List (List ℕ) → Files → Answer
answer_of words files = settled (reply_to (command_of words) files)

-- the row where a file could not be fetched
abbrev pub read_fault : List ℕ
read_fault = codes "read fault\n"

-- a status of an answer: 6, 7 and 8 say that there is none
abbrev pub is_final : ℕ → Bool
is_final status = nat_lt status 6 || nat_lt 8 status

-- what holds over the files that a folder tells; over all files, where the command reads none
abbrev pub OverFiles : Option Files → Command → (Files → Type 0) → Type 0
OverFiles told command P = (files : Files) → (told ≡ Some files) ⊎ (reads_files command ≡ false) → P files

-- what holds of the answer to some words
abbrev pub ForAnswer : Option Files → List (List ℕ) → (Answer → Type 0) → Type 0
ForAnswer told words P = OverFiles told (command_of words) (λ files. P (answer_of words files))
