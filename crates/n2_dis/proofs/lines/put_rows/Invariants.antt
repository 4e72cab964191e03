use Rattle.std.proofs.Common.{◌≡◌, ◌++◌, length}
use Rattle.n2_dis.specs.Texts.{rows_text}
use Rattle.n2_dis.proofs.lines.put_rows.Given as goal

abbrev pub invariant-loop-rest : goal.invariant-loop-rest
invariant-loop-rest l = l.out.items ++ rows_text l.here l.rest ≡ l.initial.out.items ++ rows_text l.at l.bytes

abbrev pub decreases-loop-rest : goal.decreases-loop-rest
decreases-loop-rest l = length l.rest
