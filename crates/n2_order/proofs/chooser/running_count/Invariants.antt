use Rattle.std.proofs.Common.{◌≡◌, ◌+◌, ◌≤◌, length, drop}
use Rattle.n2_order.specs.Choices.{running}
use Rattle.n2_order.proofs.chooser.running_count.Given as goal

abbrev pub invariant-loop-o : goal.invariant-loop-o
invariant-loop-o l = (l.count ≤ l.o-index) × (l.count + length (running l.o-index (drop l.o-index l.over)) ≡ length (running 0 l.over))
