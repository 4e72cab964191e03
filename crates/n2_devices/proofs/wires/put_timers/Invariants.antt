use Rattle.std.proofs.Common.{◌≡◌, ◌++◌, drop}
use Rattle.n2_devices.specs.Wires.{timer_wires}
use Rattle.n2_devices.proofs.wires.put_timers.Given as goal

abbrev pub invariant-loop-i : goal.invariant-loop-i
invariant-loop-i l =
    l.wires ++ timer_wires l.core l.i (drop l.i l.rows) ≡ l.initial.wires ++ timer_wires l.core 0 l.rows
