use Rattle.std.proofs.Common.{◌≡◌, length, map, ap, arith}
use Rattle.std.proofs.lemmas.Grind.{common_steps}
use Rattle.std.proofs.lemmas.List.{length-map}
use Rattle.toml.specs.View.{view, table_view}
use Rattle.n2_boardtext.specs.Values.{items_at}
use Rattle.n2_boardtext.proofs.Lengths.{is_few}
use Rattle.n2_boardtext.proofs.Steps.{list_of-view}
use Rattle.n2_boardtext.proofs.faults.check_array.Goals as goal

pub check_parts-requires : goal.check_parts-requires
check_parts-requires c =
    let tree = table_view c.args.document.now.tree.now in
    let items = c.as_slice.result.now in
    let found : items_at c.args.kind tree ≡ map view items = grind (arith, common_steps, list_of-view items) in
    omega (arith, length-map items view, ap length found, is_few tree c.args.kind c.requires)
