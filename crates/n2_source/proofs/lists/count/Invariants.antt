use Rattle.std.proofs.Common.{◌≡◌, ◌+◌, ◌-◌, ◌≤◌, length}
use Rattle.n2_source.specs.Lists.{numbers_within}
use Rattle.n2_source.proofs.lists.count.Given as goal

abbrev pub invariant-loop-i : goal.invariant-loop-i
invariant-loop-i l = (l.n ≤ l._i) × (l.n + length (numbers_within (length l.bytes - l._i) l.rest) ≡ length (numbers_within (length l.bytes) l.bytes))
