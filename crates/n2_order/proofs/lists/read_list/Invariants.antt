use Rattle.std.proofs.Common.{◌≡◌, ◌+◌, ◌≤◌, length}
use Rattle.std.specs.Prelude.{All}
use Rattle.n2_order.specs.Lists.{pieces_of, actors_from, list_of}
use Rattle.n2_order.proofs.Rows.{joined}
use Rattle.n2_order.proofs.lists.read_list.Given as goal

abbrev pub invariant-loop-piece : goal.invariant-loop-piece
invariant-loop-piece l = record {
  actors : joined l.list.items (actors_from l.cores l.row (pieces_of l.rest)) ≡ list_of l.cores l.bytes;
  small : All (λ actor. actor ≤ l.cores) l.list.items;
  short : l.row + length l.rest ≤ 1 + length l.bytes;
}

abbrev pub decreases-loop-piece : goal.decreases-loop-piece
decreases-loop-piece l = length l.rest
