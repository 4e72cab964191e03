use Rattle.std.proofs.Common.{◌≡◌, [], ◌∷◌, ◌++◌, drop}
use Rattle.std.specs.List.{flat_map}
use Rattle.n2_board.proofs.finder.bounds_of.Given as goal

abbrev pub invariant-loop-span : goal.invariant-loop-span
invariant-loop-span l = l.bounds.items ++ flat_map (λ span. span.from ∷ span.end ∷ []) (drop l.span-index l.spans) ≡ flat_map (λ span. span.from ∷ span.end ∷ []) l.spans
