use Rattle.std.proofs.Common.{◌≡◌, drop}
use Rattle.n2_parts.specs.Parts.{first_part}
use Rattle.n2_parts.proofs.parts.first_part.Given as goal

abbrev pub invariant-loop-kind : goal.invariant-loop-kind
invariant-loop-kind g l = first_part l.board (drop l.kind-index l.kinds) (λ part. g.R.Rule.finds l.rule part) ≡ first_part l.board l.kinds (λ part. g.R.Rule.finds l.rule part)
