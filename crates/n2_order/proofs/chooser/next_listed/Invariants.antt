use Rattle.std.proofs.Common.{◌≡◌, drop}
use Rattle.n2_order.specs.Choices.{next_listed}
use Rattle.n2_order.proofs.chooser.next_listed.Given as goal

abbrev pub invariant-loop-place : goal.invariant-loop-place
invariant-loop-place l = next_listed (drop l.place l.list) l.over ≡ next_listed (drop l.at l.list) l.over
