use Rattle.std.proofs.Common.{◌≡◌, ◌++◌, drop, map}
use Rattle.toml.specs.View.{view, table_view}
use Rattle.n2_boardtext.specs.Boards.{parts_in}
use Rattle.n2_boardtext.proofs.boards.parts_in.Given as goal

abbrev pub invariant-loop-item : goal.invariant-loop-item
invariant-loop-item l =
    l.parts ++ parts_in l.array (table_view l.document.tree.now) (map view (drop l.item-index l.items))
    ≡ parts_in l.array (table_view l.document.tree.now) (map view l.items)
