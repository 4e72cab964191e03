use Rattle.std.proofs.Common.{◌≡◌, drop, false}
use Rattle.n2_source.specs.Lists.{is_escaped}
use Rattle.n2_source.proofs.lists.is_escaped.Given as goal

abbrev pub invariant-loop-c : goal.invariant-loop-c
invariant-loop-c l = is_escaped l.escape (drop l.c-index l.bytes) ≡ is_escaped false l.bytes
