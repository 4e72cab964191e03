use Rattle.std.proofs.Common.{◌≡◌, ◌++◌, drop}
use Rattle.n2_dis.specs.Texts.{listing}
use Rattle.n2_dis.proofs.lines.put_listing.Given as goal

abbrev pub invariant-loop-segment : goal.invariant-loop-segment
invariant-loop-segment l = l.out.items ++ listing (drop l.segment-index l.segments) ≡ l.initial.out.items ++ listing l.segments
