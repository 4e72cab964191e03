use Rattle.std.proofs.Common.{◌≡◌, ◌++◌, drop}
use Rattle.std.specs.Prelude.{map}
use Rattle.n2_journal.specs.Texts.{entry_row, rows_text}
use Rattle.n2_journal.proofs.writing.put_entries.Given as goal

abbrev pub invariant-loop-entry : goal.invariant-loop-entry
invariant-loop-entry l = l.out.items ++ rows_text (map (entry_row l.cores) (drop l.entry-index l.entries)) ≡ l.fn.out.items ++ rows_text (map (entry_row l.cores) l.entries)
