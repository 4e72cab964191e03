use Rattle.std.proofs.Common.{arith}
use Rattle.n2_journal.specs.Reading.{read}
use Rattle.n2_journal.proofs.Steps.{row_more, row_outside}
use Rattle.n2_journal.proofs.reading.all_rows.Goals as goal

pub returns-then-not-branch-clause-fault : goal.returns-then-not-branch-clause-fault
unfolding read
returns-then-not-branch-clause-fault c = λ ne. row_outside c.loop-this.reader c.add_row.new.self c.loop-this.row c.loop-this.rest.now c.in-Some.this.now c.in-Some.behind.now c.in_ok-add_row.field-0 _ c.in-Some.ensures.some c.in_ok-add_row.ensures c.if-not-branch.true c.loop-this.invariant.same

pub loop-this-preserved : goal.loop-this-preserved
loop-this-preserved c = record {
  same = row_more c.loop-this.reader c.add_row.new.self c.loop-this.row c.loop-this.rest.now c.in-Some.this.now c.in-Some.behind.now c.in_ok-add_row.field-0 _ c.in-Some.ensures.some c.in_ok-add_row.ensures c.if-not-branch.false c.loop-this.invariant.same;
  few = omega (arith, c.in-Some.ensures.shorter);
}
