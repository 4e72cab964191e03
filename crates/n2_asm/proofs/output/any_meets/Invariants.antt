use Rattle.std.proofs.Common.{◌≡◌, drop}
use Rattle.std.specs.List.{list_any}
use Rattle.n2_asm.specs.Sources.{meets}
use Rattle.n2_asm.proofs.output.any_meets.Given as goal

abbrev pub invariant-loop-segment : goal.invariant-loop-segment
invariant-loop-segment l = list_any (meets l.here l.n) (drop l.segment-index l.segments) ≡ list_any (meets l.here l.n) l.segments
