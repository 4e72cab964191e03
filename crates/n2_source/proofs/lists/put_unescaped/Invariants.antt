use Rattle.std.proofs.Common.{◌≡◌, ◌++◌, drop, false}
use Rattle.n2_source.specs.Lists.{unescaped}
use Rattle.n2_source.proofs.lists.put_unescaped.Given as goal

abbrev pub invariant-loop-c : goal.invariant-loop-c
invariant-loop-c l = l.out.items ++ unescaped l.escape (drop l.c-index l.bytes) ≡ l.initial.out.items ++ unescaped false l.bytes
