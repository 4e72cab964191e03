use Rattle.std.proofs.Common.{ℕ, ◌+◌, Option, get_or, drop, sym, ap, ◌∙◌, arith}
use Rattle.n2_parts.specs.declared.board.Part.{Part}
use Rattle.n2_parts.specs.declared.board.PartKind.{PartKind}
use Rattle.n2_parts.specs.declared.board.PartKind.TheVariants.{Top}
use Rattle.n2_parts.specs.declared.board.BoardFault.{BoardFault}
use Rattle.std.specs.Option.{option_or}
use Rattle.n2_parts.specs.Parts.{first_from, first_part, part_of}
use Rattle.n2_parts.proofs.Steps.{first_part-next, first_part-done}
use Rattle.n2_parts.proofs.parts.first_part.Goals as goal

pub returns-in-Some : goal.returns-in-Some
returns-in-Some g c =
    let finds : Part → Option BoardFault = λ part. g.R.Rule.finds c.args.rule.now part in
    let i : ℕ = c.loop-kind.kind-index in
    let kind : PartKind = get_or c.args.kinds.now i Top in
    let rest : Option BoardFault = first_part c.args.board.now (drop (i + 1) c.args.kinds.now) finds in
    ap (λ (f : Option BoardFault). option_or f rest) (c.in-Some.ensures ∙ ap (λ n. first_from (λ j. finds (part_of kind j)) 0 n) c.count_of.ensures)
    ∙ sym (first_part-next c.args.board.now finds c.args.kinds.now i Top c.loop-kind-test.true)
    ∙ c.loop-kind.invariant

pub loop-kind-preserved : goal.loop-kind-preserved
loop-kind-preserved g c =
    let finds : Part → Option BoardFault = λ part. g.R.Rule.finds c.args.rule.now part in
    let i : ℕ = c.loop-kind.kind-index in
    let kind : PartKind = get_or c.args.kinds.now i Top in
    let rest : Option BoardFault = first_part c.args.board.now (drop (i + 1) c.args.kinds.now) finds in
    ap (λ (f : Option BoardFault). option_or f rest) (c.in-None.ensures ∙ ap (λ n. first_from (λ j. finds (part_of kind j)) 0 n) c.count_of.ensures)
    ∙ sym (first_part-next c.args.board.now finds c.args.kinds.now i Top c.loop-kind-test.true)
    ∙ c.loop-kind.invariant

pub returns : goal.returns
returns g c = sym (first_part-done c.args.board.now (λ part. g.R.Rule.finds c.args.rule.now part) c.args.kinds.now c.loop-kind.kind-index (omega arith)) ∙ c.loop-kind.invariant
