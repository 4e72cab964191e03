use Rattle.std.proofs.Common.{◌≡◌, ◌-◌, length}
use Rattle.n2_source.specs.Lists.{is_list_within}
use Rattle.n2_source.proofs.lists.is_list.Given as goal

abbrev pub invariant-loop-i : goal.invariant-loop-i
invariant-loop-i l = is_list_within (length l.bytes - l._i) l.rest ≡ is_list_within (length l.bytes) l.bytes
