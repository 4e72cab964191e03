use Rattle.std.proofs.Common.{◌≡◌, ◌++◌, drop}
use Rattle.n2_report.specs.OfFlat.{dumped}
use Rattle.n2_report.proofs.of_flat.dumped.Given as goal

abbrev pub invariant-loop-row : goal.invariant-loop-row
invariant-loop-row l = l.lines.items ++ dumped l.flat.common.world.memory (drop l.row-index l.board.dump) ≡ dumped l.flat.common.world.memory l.board.dump
