use Rattle.std.proofs.Common.{◌≡◌, drop, map}
use Rattle.toml.specs.View.{view, table_view}
use Rattle.n2_boardtext.specs.Faults.{parts_fault}
use Rattle.n2_boardtext.proofs.faults.check_parts.Given as goal

abbrev pub invariant-loop-i : goal.invariant-loop-i
invariant-loop-i l =
    parts_fault (table_view l.document.tree.now) l.kind l.i (map view (drop l.i l.items))
    ≡ parts_fault (table_view l.document.tree.now) l.kind 0 (map view l.items)
