use Rattle.n2_watch.specs.NextLines.{NoneHas, IsFirst}
use Rattle.n2_watch.proofs.opening.next_line.Given as goal

abbrev pub invariant-loop-row : goal.invariant-loop-row
invariant-loop-row l = IsFirst (λ number. NoneHas l.memories l.row-index number) l.from l.next
