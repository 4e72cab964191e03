use Rattle.n2_runs.specs.Machine.{start}
use Rattle.n2_runs.proofs.Ahead.{run_replays}
use Rattle.n2_driver.specs.Chosen.{chosen_order}
use Rattle.std.proofs.Common.{ap, sym, subst}
use Rattle.std.specs.Prelude.{IsTrue}
use Rattle.n2_runs.specs.Machine.{Machine, is_finished}
use Rattle.n2_runs.specs.Recorded.{journal_of}
use Rattle.n2_driver.proofs.Ending.{run_finished}
use Rattle.n2_driver.proofs.laws.chosen_runs.Goals as goal

pub returns-clause-finished : goal.returns-clause-finished
returns-clause-finished c = λ b images map' order valid long. run_finished b images map' order valid long

pub returns-clause-records : goal.returns-clause-records
returns-clause-records c = λ b images map' order valid is long.
    let e = run_replays b images map' (chosen_order b map' (start b images) order) valid is long in
    record {
      finished = subst (λ (m : Machine). IsTrue (is_finished b m)) (sym e) (run_finished b images map' order valid long);
      journal = ap journal_of e;
    }
