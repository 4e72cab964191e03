use Rattle.std.proofs.Common.{◌≡◌, ◌++◌, drop}
use Rattle.n2_journal.specs.Journals.{tail_turns}
use Rattle.n2_journal.proofs.journal.put_tail_turns.Given as goal

abbrev pub invariant-loop-core : goal.invariant-loop-core
invariant-loop-core l = l.out.items ++ tail_turns l.core (drop l.core l.tails) ≡ l.fn.out.items ++ tail_turns 0 l.tails
