use Rattle.std.proofs.Common.{◌≡◌, ◌+◌, length}
use Rattle.n2_rates.proofs.journals.add_entries.Given as goal

abbrev pub invariant-entries : goal.invariant-entries
invariant-entries l = length l.journal.content.entries + l.n ≡ l.journal.limit + l.i
