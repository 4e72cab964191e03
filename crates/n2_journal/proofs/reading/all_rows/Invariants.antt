use Rattle.std.proofs.Common.{◌≡◌, ◌+◌, ◌≤◌, length}
use Rattle.n2_journal.specs.Cursors.{parts_of}
use Rattle.n2_journal.specs.Reading.{begin, run}
use Rattle.n2_journal.proofs.reading.all_rows.Given as goal

abbrev pub invariant-loop-this : goal.invariant-loop-this
invariant-loop-this l = record {
  same : run l.reader l.row (parts_of 10 l.rest) ≡ run begin 1 (parts_of 10 l.text);
  few : l.row + length l.rest ≤ length l.text + 1;
}

abbrev pub decreases-loop-this : goal.decreases-loop-this
decreases-loop-this l = length l.rest
