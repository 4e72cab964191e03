use Rattle.std.proofs.Common.{◌≡◌, ◌-◌}
use Rattle.n2_parts.specs.Parts.{first_from, part_of}
use Rattle.n2_parts.proofs.parts.first_of_kind.Given as goal

abbrev pub invariant-loop-index : goal.invariant-loop-index
invariant-loop-index g l = first_from (λ i. g.R.Rule.finds l.rule (part_of l.kind i)) l.index (l.count - l.index) ≡ first_from (λ i. g.R.Rule.finds l.rule (part_of l.kind i)) 0 l.count
