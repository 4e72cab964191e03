use Rattle.std.proofs.Common.{length, ap, ◌∙◌, arith}
use Rattle.std.proofs.lemmas.List.{length-map}
use Rattle.toml.specs.View.{view, table_view}
use Rattle.n2_boardtext.specs.Values.{items_at}
use Rattle.n2_boardtext.proofs.Lengths.{named_few}
use Rattle.n2_boardtext.proofs.document.numbers_at.Goals as goal

pub numbers_of-requires : goal.numbers_of-requires
numbers_of-requires c =
    let tree = table_view c.args.tree.now in
    let items = ap length c.items_at.ensures ∙ ap (λ kind. length (items_at kind tree)) c.kind_of.ensures in
    omega (arith, length-map c.items_at.result.now view, items, named_few tree c.args.array c.requires)
