use Rattle.std.proofs.Common.{◌≡◌, ◌++◌, take, drop}
use Rattle.n2_source.specs.Cursors.{word_at}
use Rattle.n2_source.proofs.cursors.word_at.Given as goal

abbrev pub invariant-loop-i : goal.invariant-loop-i
invariant-loop-i l = (take l.i l.bytes ++ (word_at (drop l.i l.bytes)).0 ≡ (word_at l.bytes).0) × ((word_at (drop l.i l.bytes)).1 ≡ (word_at l.bytes).1)
