use Rattle.std.proofs.Common.{◌≡◌, map, take}
use Rattle.n2_devices.specs.Devices.{started_terminal}
use Rattle.n2_devices.proofs.opening.uarts.Given as goal

abbrev pub invariant-loop-row : goal.invariant-loop-row
invariant-loop-row l = l.uarts.items ≡ map started_terminal (take l.row-index l.rows)
