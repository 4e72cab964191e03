use Rattle.std.proofs.Common.{arith}
use Rattle.std.proofs.lemmas.Grind.{common_steps}
use Rattle.toml.specs.View.{view, table_view}
use Rattle.n2_boardtext.specs.Faults.{is_text, is_part}
use Rattle.n2_boardtext.proofs.Steps.{list_all-map}
use Rattle.n2_boardtext.proofs.faults.check_names.Goals as goal

pub returns-in_err-unless : goal.returns-in_err-unless
returns-in_err-unless c =
    let texts = list_all-map is_text view c.args.items.now in
    grind (arith, common_steps, texts)

pub returns : goal.returns
returns c =
    let texts = list_all-map is_text view c.args.items.now in
    let parts = list_all-map (is_part c.args.array (table_view c.args.document.now.tree.now)) view c.args.items.now in
    grind (arith, common_steps, texts, parts)
