use Rattle.std.proofs.Common.{length, subst}
use Rattle.n2_watch.specs.Walks.{IsLowest, InRuns}
use Rattle.n2_watch.proofs.Walking.{lowest_of_guard}
use Rattle.n2_watch.proofs.records.Records.lowest_of_slot.Goals as goal

pub returns : goal.returns
returns c = λ map past guard e h.
    let t = c.args.self.now in
    lowest_of_guard map t past guard h.table h.stand _ (subst (λ s. IsLowest (InRuns t.runs s (length t.runs) t.cleaned t.records) t.records c.lowest_in_runs.result) e c.lowest_in_runs.ensures)
