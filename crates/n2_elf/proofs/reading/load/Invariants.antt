use Rattle.std.proofs.Common.{◌≡◌, ◌-◌, ◌++◌}
use Rattle.n2_elf.specs.Reading.{segments_from}
use Rattle.n2_elf.proofs.reading.load.Given as goal

abbrev pub invariant-loop-i : goal.invariant-loop-i
invariant-loop-i l = l.segments ++ segments_from l.bytes l.i (l.count - l.i) ≡ segments_from l.bytes 0 l.count
