use Rattle.std.proofs.Common.{ap, sym, subst, ◌∙◌, Ok}
use Rattle.std.specs.Prelude.{IsTrue}
use Rattle.n2_runs.specs.Machine.{Machine, start, run, is_finished}
use Rattle.n2_runs.specs.Recorded.{journal_of}
use Rattle.n2_runs.proofs.Ahead.{run_replays}
use Rattle.n2_runs.proofs.Followed.{replays_only, replays_all}
use Rattle.n2_runs.proofs.laws.journals.replays.Goals as goal

pub returns-clause-records : goal.returns-clause-records
returns-clause-records c = λ b images map' j m long. (replays_only b images map' j long m, λ h. replays_all b images map' j long h.0 ∙ ap (λ (x : Machine). Ok x) (sym h.1))

pub returns-clause-finished : goal.returns-clause-finished
returns-clause-finished c = λ b images map' order valid is long done.
    let e = run_replays b images map' order valid is long in
    replays_all b images map' (journal_of (run b map' (start b images) order)) long (record {
      finished = subst (λ (m : Machine). IsTrue (is_finished b m)) (sym e) done;
      journal = ap journal_of e;
    })
    ∙ ap (λ (x : Machine). Ok x) e
