use Rattle.std.proofs.Common.{◌≡◌, length}
use Rattle.n2_smp.specs.Standing.{AreOpened}
use Rattle.n2_smp.proofs.machine.open_cores.Given as goal

abbrev pub invariant-loop-k : goal.invariant-loop-k
invariant-loop-k l = record { count : length l.cores.items ≡ l.k; opened : AreOpened l.board l.layout l.cores.items l.images }
