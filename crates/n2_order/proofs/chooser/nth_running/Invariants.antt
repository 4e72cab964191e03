use Rattle.std.proofs.Common.{◌≡◌, ◌<◌, length, get_or, drop}
use Rattle.n2_order.specs.Choices.{running}
use Rattle.n2_order.proofs.chooser.nth_running.Given as goal

abbrev pub invariant-loop-actor : goal.invariant-loop-actor
invariant-loop-actor l = (l.left < length (running l.actor (drop l.actor l.over))) × (get_or (running l.actor (drop l.actor l.over)) l.left 0 ≡ get_or (running 0 l.over) l.place 0)
