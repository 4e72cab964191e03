use Rattle.std.proofs.Common.{◌≡◌, drop}
use Rattle.n2_parts.specs.Rules.{is_inside}
use Rattle.n2_parts.proofs.spans.is_inside.Given as goal

abbrev pub invariant-loop-m : goal.invariant-loop-m
invariant-loop-m l = is_inside (drop l.m-index l.memories) l.a ≡ is_inside l.memories l.a
