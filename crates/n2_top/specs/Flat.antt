-- `flat BOARD JOURNAL`: what the flat machine answers along the run that a journal tells.
use Rattle.std.specs.Prelude.{[], map, Result, Ok}
use Rattle.n2_parts.specs.declared.board.Board.{Board}
use Rattle.n2_journal.specs.Journals.{Content}
use Rattle.n2_front.specs.Front.{Front}
use Rattle.n2_runs.specs.FlatRun.{Flat}
use Rattle.n2_runs.specs.Recorded.{actors_of}
use Rattle.n2_report.specs.Stops.{status_of}
use Rattle.n2_report.specs.OfFlat.{flat_report}
use Rattle.n2_inputs.specs.declared.inputs.Inputs.{Inputs}
use Rattle.n2_inputs.specs.declared.refusal.Refusal.{Refusal}
use Rattle.n2_inputs.specs.Files.{◌>>=◌}
use Rattle.n2_top.specs.declared.answers.Answer.{Answer}
use Rattle.n2_top.specs.Machines.{without_caches}
use Rattle.n2_top.specs.Runs.{told_end}

-- a status by the stops of a flat machine's cores, and its flat report
abbrev pub flat_answer : Board → Flat → Answer
flat_answer b m = record { status = status_of (map (λ (f : Front). f.stop) m.cores); journal = []; report = flat_report b m }

-- that of the flat machine along a journal's order, where the journal is that of a finished run
unfoldable pub flat_run_answer : Inputs → Content → Result Answer Refusal
flat_run_answer inputs journal = told_end inputs journal >>= λ _. Ok (flat_answer inputs.board (without_caches inputs (actors_of journal)))
