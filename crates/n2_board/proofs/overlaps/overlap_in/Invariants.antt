use Rattle.std.proofs.Common.{◌≡◌, ◌+◌, ◌-◌, ◌*◌, ◌&&◌, nat_lt, false, Some, None}
use Rattle.std.specs.Prelude.{if◌then◌else◌, slice_index_or}
use Rattle.n2_parts.specs.Parts.{first_from}
use Rattle.n2_board.specs.declared.placement.OpenFault.TheVariants.{Overlap}
use Rattle.n2_board.proofs.overlaps.overlap_in.Given as goal

abbrev pub invariant-loop-a : goal.invariant-loop-a
invariant-loop-a l = first_from (λ a. first_from (λ b. if nat_lt a b && slice_index_or l.met (8 * a + b) false then Some (Overlap a b) else None) 0 l.count) l.a (l.count - l.a)
    ≡ first_from (λ a. first_from (λ b. if nat_lt a b && slice_index_or l.met (8 * a + b) false then Some (Overlap a b) else None) 0 l.count) 0 l.count
