use Rattle.std.proofs.Common.{◌≡◌, take}
use Rattle.n2_report.specs.Transfers.{transfers_of}
use Rattle.n2_report.proofs.transfers.Transfers.of_entries.Given as goal

abbrev pub invariant-loop-entry : goal.invariant-loop-entry
invariant-loop-entry l = l.transfers ≡ transfers_of (take l.entry-index l.entries)
