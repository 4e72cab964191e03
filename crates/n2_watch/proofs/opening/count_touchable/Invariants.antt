use Rattle.std.proofs.Common.{◌≤◌, ◌-◌, ◌^◌}
use Rattle.n2_watch.proofs.opening.count_touchable.Given as goal

abbrev pub invariant-lines : goal.invariant-lines
invariant-lines l = record { below : l.from ≤ 2 ^ 28; counted : l.count ≤ l.from }

abbrev pub decreases-lines : goal.decreases-lines
decreases-lines l = 2 ^ 28 - l.from
