use Rattle.std.proofs.Common.{◌≡◌, ◌/◌, ◌++◌, map, drop}
use Rattle.std.specs.List.{flat_map, range_with_len}
use Rattle.n2_board.specs.Classes.{class_in}
use Rattle.n2_board.proofs.table.class_table.Given as goal

abbrev pub invariant-loop-row : goal.invariant-loop-row
invariant-loop-row l = l.table ++ flat_map (λ row. map (λ line. class_in l.zones line) (range_with_len (row.base / 32) (row.size / 32))) (drop l.row-index l.memories)
    ≡ flat_map (λ row. map (λ line. class_in l.zones line) (range_with_len (row.base / 32) (row.size / 32))) l.memories
