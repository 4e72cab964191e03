use Rattle.n2_watch.specs.Walks.{IsLowest, InRuns}
use Rattle.n2_watch.proofs.records.Records.lowest_in_runs.Given as goal

abbrev pub invariant-loop-k : goal.invariant-loop-k
invariant-loop-k l = IsLowest (InRuns l.self.runs l.slot l.k l.self.cleaned l.self.records) l.self.records l.lowest
