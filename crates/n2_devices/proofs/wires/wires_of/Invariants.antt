use Rattle.std.proofs.Common.{◌≡◌, map}
use Rattle.std.specs.List.{range_with_len}
use Rattle.n2_devices.specs.Wires.{wires_to}
use Rattle.n2_devices.proofs.wires.wires_of.Given as goal

abbrev pub invariant-loop-core : goal.invariant-loop-core
invariant-loop-core l = l.wires ≡ map (wires_to l.board) (range_with_len 0 l.core)
