use Rattle.std.proofs.Common.{◌≡◌, ◌++◌, ◌-◌, length}
use Rattle.n2_source.specs.Lists.{numbers_within, words_bytes}
use Rattle.n2_source.proofs.lists.put_words.Given as goal

abbrev pub invariant-loop-i : goal.invariant-loop-i
invariant-loop-i l = l.out.items ++ words_bytes (numbers_within (length l.bytes - l._i) l.rest) ≡ l.initial.out.items ++ words_bytes (numbers_within (length l.bytes) l.bytes)
