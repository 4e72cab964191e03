use Rattle.std.proofs.Common.{◌≡◌, ◌+◌, ◌-◌, ◌*◌, ◌&&◌, nat_lt, false, Some, None}
use Rattle.std.specs.Prelude.{if◌then◌else◌, slice_index_or}
use Rattle.n2_parts.specs.Parts.{first_from}
use Rattle.n2_board.specs.declared.placement.OpenFault.TheVariants.{Overlap}
use Rattle.n2_board.proofs.overlaps.overlap_with.Given as goal

abbrev pub invariant-loop-b : goal.invariant-loop-b
invariant-loop-b l = first_from (λ b. if nat_lt l.a b && slice_index_or l.met (8 * l.a + b) false then Some (Overlap l.a b) else None) l.b (l.count - l.b)
    ≡ first_from (λ b. if nat_lt l.a b && slice_index_or l.met (8 * l.a + b) false then Some (Overlap l.a b) else None) 0 l.count
