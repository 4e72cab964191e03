use Rattle.std.proofs.Common.{◌≡◌, ◌≤◌, ◌+◌, length, drop, false}
use Rattle.n2_source.specs.Lists.{unescaped}
use Rattle.n2_source.proofs.lists.text_len.Given as goal

abbrev pub invariant-loop-c : goal.invariant-loop-c
invariant-loop-c l = record {
  few : l.n ≤ l.c-index;
  same : l.n + length (unescaped l.escape (drop l.c-index l.bytes)) ≡ length (unescaped false l.bytes);
}
