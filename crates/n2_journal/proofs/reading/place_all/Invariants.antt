use Rattle.std.proofs.Common.{◌≡◌, ◌+◌, take, drop}
use Rattle.n2_journal.specs.Reading.{settle}
use Rattle.n2_journal.proofs.Steps.{after_front}
use Rattle.n2_journal.proofs.reading.place_all.Given as goal

abbrev pub invariant-loop-i : goal.invariant-loop-i
invariant-loop-i l = after_front (take l.i l.entries) (settle l.cores (l.i + 2) (drop l.i l.entries)) ≡ settle l.cores 2 l.fn.entries
