use Rattle.std.proofs.Common.{◌≡◌, ◌-◌}
use Rattle.n2_parts.specs.Parts.{first_from}
use Rattle.n2_board.specs.Placement.{entry_fault}
use Rattle.n2_board.proofs.placement.entry_faults.Given as goal

abbrev pub invariant-loop-k : goal.invariant-loop-k
invariant-loop-k l = first_from (λ k. entry_fault l.board l.images k) l.k (l.count - l.k) ≡ first_from (λ k. entry_fault l.board l.images k) 0 l.count
