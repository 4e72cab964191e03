use Rattle.std.proofs.Common.{◌≡◌, ◌++◌, drop}
use Rattle.n2_report.specs.OfFlat.{dumped}
use Rattle.n2_report.proofs.of_run.dumped.Given as goal

abbrev pub invariant-loop-row : goal.invariant-loop-row
invariant-loop-row l = l.lines.items ++ dumped l.bus.shared.memory (drop l.row-index l.board.dump) ≡ dumped l.bus.shared.memory l.board.dump
