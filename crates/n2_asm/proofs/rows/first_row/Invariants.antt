use Rattle.std.proofs.Common.{◌≡◌, ◌++◌, take, drop}
use Rattle.n2_asm.specs.Rows.{first_row}
use Rattle.n2_asm.proofs.rows.first_row.Given as goal

abbrev pub invariant-loop-i : goal.invariant-loop-i
invariant-loop-i l = (take l.i l.bytes ++ (first_row (drop l.i l.bytes)).0 ≡ (first_row l.bytes).0) × ((first_row (drop l.i l.bytes)).1 ≡ (first_row l.bytes).1)
