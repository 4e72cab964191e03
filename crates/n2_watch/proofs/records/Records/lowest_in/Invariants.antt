use Rattle.n2_watch.specs.Walks.{IsLowest, InPlaces}
use Rattle.n2_watch.proofs.records.Records.lowest_in.Given as goal

abbrev pub invariant-loop-i : goal.invariant-loop-i
invariant-loop-i l = IsLowest (InPlaces l.self.cleaned l.set l.self.records l.from l.i) l.self.records l.lowest
