use Rattle.std.proofs.Common.{◌≡◌, ◌-◌}
use Rattle.n2_elf.specs.Reading.{programs_fault}
use Rattle.n2_elf.proofs.reading.check_programs.Given as goal

abbrev pub invariant-loop-i : goal.invariant-loop-i
invariant-loop-i l = programs_fault l.bytes l.i (l.headers - l.i) ≡ programs_fault l.bytes 0 l.headers
