use Rattle.std.proofs.Common.{◌≡◌, ◌++◌, drop, map}
use Rattle.toml.specs.View.{view, table_view}
use Rattle.n2_boardtext.specs.Boards.{rows_in}
use Rattle.n2_boardtext.proofs.boards.rows_at.Given as goal

abbrev pub invariant-loop-item : goal.invariant-loop-item
invariant-loop-item g l =
    let row = g.R.Row.made (table_view l.document.tree.now) in
    l.rows ++ rows_in row (map view (drop l.item-index l.items)) ≡ rows_in row (map view l.items)
