use Rattle.std.proofs.Common.{ap, sym, subst, ◌∙◌}
use Rattle.std.specs.Prelude.{IsTrue}
use Rattle.n2_journal.specs.Journals.{Content}
use Rattle.n2_runs.specs.Machine.{Machine, start, run, is_finished}
use Rattle.n2_runs.specs.Recorded.{journal_of, actors_of}
use Rattle.n2_runs.proofs.Ahead.{run_replays}
use Rattle.n2_runs.proofs.laws.journals.finished_runs.Goals as goal

pub returns-clause-state : goal.returns-clause-state
returns-clause-state c = run_replays

pub returns-clause-records : goal.returns-clause-records
returns-clause-records c = λ b images map' order valid is long done.
    let e = run_replays b images map' order valid is long in
    record {
      finished = subst (λ (m : Machine). IsTrue (is_finished b m)) (sym e) done;
      journal = ap journal_of e;
    }

pub returns-clause-one_state : goal.returns-clause-one_state
returns-clause-one_state c = λ b images map' order other valid is long same.
    sym (run_replays b images map' order valid is long)
    ∙ ap (λ (j : Content). run b map' (start b images) (actors_of j)) same
    ∙ run_replays b images map' other valid is long
