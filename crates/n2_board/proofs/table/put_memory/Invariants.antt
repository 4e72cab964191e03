use Rattle.std.proofs.Common.{◌≡◌, ◌<◌, ◌-◌, ◌++◌, map}
use Rattle.std.specs.List.{range_with_len}
use Rattle.n2_board.specs.Classes.{class_in}
use Rattle.n2_board.proofs.Finding.{AreUpTo}
use Rattle.n2_board.proofs.table.put_memory.Given as goal

abbrev pub invariant-loop-line : goal.invariant-loop-line
invariant-loop-line l = record {
  so_far : l.table ≡ l.fn.table ++ map (λ line. class_in l.zones line) (range_with_len l.first (l.line - l.first));
  passed : l.line < l.line-end → AreUpTo l.finder.1 l.passed l.line;
}
