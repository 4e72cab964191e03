use Rattle.std.proofs.Common.{◌≡◌, ◌++◌, ◌-◌, length}
use Rattle.n2_source.specs.Lists.{numbers_within, bytes_bytes}
use Rattle.n2_source.proofs.lists.put_bytes.Given as goal

abbrev pub invariant-loop-i : goal.invariant-loop-i
invariant-loop-i l = l.out.items ++ bytes_bytes (numbers_within (length l.bytes - l._i) l.rest) ≡ l.initial.out.items ++ bytes_bytes (numbers_within (length l.bytes) l.bytes)
