use Rattle.std.proofs.Common.{◌+◌, ◌-◌, Option, sym, ap, ◌∙◌, arith}
use Rattle.n2_parts.specs.declared.board.BoardFault.{BoardFault}
use Rattle.std.specs.Option.{option_or}
use Rattle.n2_parts.specs.Parts.{first_from, part_of}
use Rattle.n2_parts.proofs.Steps.{first_from-next, first_from-done}
use Rattle.n2_parts.proofs.parts.first_of_kind.Goals as goal

pub returns-in-Some : goal.returns-in-Some
returns-in-Some g c = ap (λ (f : Option BoardFault). option_or f (first_from (λ i. g.R.Rule.finds c.args.rule.now (part_of c.args.kind i)) (c.loop-index.index + 1) (c.args.count - (c.loop-index.index + 1)))) c.in-Some.ensures
    ∙ sym (first_from-next (λ i. g.R.Rule.finds c.args.rule.now (part_of c.args.kind i)) c.loop-index.index c.args.count c.loop-index-test.true)
    ∙ c.loop-index.invariant

pub loop-index-preserved : goal.loop-index-preserved
loop-index-preserved g c = ap (λ (f : Option BoardFault). option_or f (first_from (λ i. g.R.Rule.finds c.args.rule.now (part_of c.args.kind i)) (c.loop-index.index + 1) (c.args.count - (c.loop-index.index + 1)))) c.in-None.ensures
    ∙ sym (first_from-next (λ i. g.R.Rule.finds c.args.rule.now (part_of c.args.kind i)) c.loop-index.index c.args.count c.loop-index-test.true)
    ∙ c.loop-index.invariant

pub returns : goal.returns
returns g c = sym (first_from-done (λ i. g.R.Rule.finds c.args.rule.now (part_of c.args.kind i)) c.loop-index.index c.args.count (omega arith)) ∙ c.loop-index.invariant
