use Rattle.std.proofs.Common.{◌≡◌}
use Rattle.n2_order.specs.Choices.{lowest_from}
use Rattle.n2_order.proofs.chooser.first_running.Given as goal

abbrev pub invariant-loop-actor : goal.invariant-loop-actor
invariant-loop-actor l = lowest_from l.actor l.over ≡ lowest_from l.from l.over
