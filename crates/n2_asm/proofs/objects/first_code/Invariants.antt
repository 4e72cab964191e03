use Rattle.std.proofs.Common.{◌≡◌, drop}
use Rattle.n2_asm.specs.Sources.{first_code}
use Rattle.n2_asm.proofs.objects.first_code.Given as goal

abbrev pub invariant-loop-segment : goal.invariant-loop-segment
invariant-loop-segment l = first_code (drop l.segment-index l.segments) ≡ first_code l.segments
