use Rattle.std.proofs.Common.{◌≡◌, ◌++◌, map, take, drop}
use Rattle.n2_timer.specs.Timer.{ticks}
use Rattle.n2_devices.proofs.tick_all.Given as goal

abbrev pub invariant-loop-timer : goal.invariant-loop-timer
invariant-loop-timer l =
    l.timers ≡ map (ticks l.n) (take l.timer-index l.initial.timers) ++ drop l.timer-index l.initial.timers
