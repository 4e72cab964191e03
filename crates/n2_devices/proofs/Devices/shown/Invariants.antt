use Rattle.std.proofs.Common.{◌≡◌, bit_or, drop}
use Rattle.n2_devices.specs.Wires.{shown}
use Rattle.n2_devices.proofs.Devices.shown.Given as goal

abbrev pub invariant-loop-wire : goal.invariant-loop-wire
invariant-loop-wire l =
    bit_or l.lines (shown l.self.devices (drop l.wire-index l.wires)) ≡ shown l.self.devices l.wires
