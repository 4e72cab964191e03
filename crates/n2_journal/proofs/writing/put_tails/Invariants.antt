use Rattle.std.proofs.Common.{◌≡◌, ◌++◌, drop}
use Rattle.n2_journal.specs.Texts.{tail_rows, rows_text}
use Rattle.n2_journal.proofs.writing.put_tails.Given as goal

abbrev pub invariant-loop-core : goal.invariant-loop-core
invariant-loop-core l = l.out.items ++ rows_text (tail_rows l.core (drop l.core l.tails)) ≡ l.fn.out.items ++ rows_text (tail_rows 0 l.tails)
