use Rattle.std.proofs.Common.{◌≡◌, ◌+◌, ◌++◌, drop}
use Rattle.std.specs.Prelude.{map}
use Rattle.n2_journal.proofs.journal.put_entry_turns.Given as goal

abbrev pub invariant-loop-entry : goal.invariant-loop-entry
invariant-loop-entry l = l.out.items ++ map (λ entry. (entry.actor, entry.local + 1)) (drop l.entry-index l.entries) ≡ l.fn.out.items ++ map (λ entry. (entry.actor, entry.local + 1)) l.entries
