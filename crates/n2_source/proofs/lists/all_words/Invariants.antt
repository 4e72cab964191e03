use Rattle.std.proofs.Common.{◌≡◌, ◌-◌, length}
use Rattle.std.specs.List.{list_all}
use Rattle.n2_source.specs.Lists.{numbers_within, fits_word}
use Rattle.n2_source.proofs.lists.all_words.Given as goal

abbrev pub invariant-loop-i : goal.invariant-loop-i
invariant-loop-i l = list_all fits_word (numbers_within (length l.bytes - l._i) l.rest) ≡ list_all fits_word (numbers_within (length l.bytes) l.bytes)
