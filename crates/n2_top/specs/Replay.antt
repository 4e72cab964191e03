-- `replay BOARD JOURNAL`: what the run that a journal tells answers.
use Rattle.std.specs.Prelude.{Result, Ok}
use Rattle.n2_journal.specs.Journals.{Content}
use Rattle.n2_inputs.specs.declared.inputs.Inputs.{Inputs}
use Rattle.n2_inputs.specs.declared.refusal.Refusal.{Refusal}
use Rattle.n2_inputs.specs.Files.{◌>>=◌}
use Rattle.n2_top.specs.declared.answers.Answer.{Answer}
use Rattle.n2_top.specs.Runs.{told_end, report_answer}

-- the machine at the end of the run is reported
unfoldable pub replay_answer : Inputs → Content → Result Answer Refusal
replay_answer inputs journal = told_end inputs journal >>= λ m. Ok (report_answer inputs.board inputs.layout m)
