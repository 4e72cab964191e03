use Rattle.std.proofs.Common.{◌≡◌, drop}
use Rattle.toml.specs.View.{table_view}
use Rattle.n2_boardtext.specs.Faults.{entries_fault}
use Rattle.n2_boardtext.proofs.faults.check_entries.Given as goal

abbrev pub invariant-loop-entry : goal.invariant-loop-entry
invariant-loop-entry l =
    entries_fault (table_view l.document.tree.now) l.part (table_view l.table) (drop l.entry-index l.entries)
    ≡ entries_fault (table_view l.document.tree.now) l.part (table_view l.table) l.entries
