use Rattle.std.proofs.Common.{◌≡◌, ◌++◌, drop}
use Rattle.n2_board.specs.Segments.{segments_from}
use Rattle.n2_board.proofs.segments.loaded_segments.Given as goal

abbrev pub invariant-loop-image : goal.invariant-loop-image
invariant-loop-image l = record {
  count : l.core ≡ l.image-index;
  rest : l.out.items ++ segments_from l.core (drop l.image-index l.images) ≡ segments_from 0 l.images;
}
