use Rattle.std.proofs.Common.{◌≡◌, ◌++◌, drop, map}
use Rattle.n2_board.specs.Segments.{loaded_segment}
use Rattle.n2_board.proofs.segments.put_image.Given as goal

abbrev pub invariant-loop-segment : goal.invariant-loop-segment
invariant-loop-segment l = l.out.items ++ map (loaded_segment l.core) (drop l.segment-index l.segments) ≡ l.fn.out.items ++ map (loaded_segment l.core) l.segments
