use Rattle.std.proofs.Common.{length, ap, ◌∙◌, ◌++◌, ◌-◌, ◌+◌, sym}
use Rattle.n2_source.specs.Lists.{numbers_in, numbers_within, bytes_bytes}
use Rattle.n2_source.proofs.ListSteps.{bytes_over, bytes_stop, bytes_more}
use Rattle.n2_source.proofs.lists.put_bytes.Goals as goal

pub returns-in_default : goal.returns-in_default
unfolding numbers_in
returns-in_default c = bytes_stop c.loop-i.out.items (length c.args.bytes.now) c.loop-i._i c.loop-i.rest.now _ c.loop-i-test.true c.in_default.ensures c.loop-i.invariant

pub loop-i-preserved : goal.loop-i-preserved
unfolding numbers_in
loop-i-preserved c =
    let put = rw c.byte_of_number.ensures at c.in_ok-put_byte.ensures in
    rw put (bytes_more c.loop-i.out.items (length c.args.bytes.now) c.loop-i._i c.loop-i.rest.now c.in-Some-mark_at.next.now _ (c.in-Some.n, c.in-Some.behind.now) c.loop-i-test.true c.in-Some.ensures c.in-Some-mark_at.ensures c.loop-i.invariant)

pub returns : goal.returns
unfolding numbers_in
returns c = bytes_over c.loop-i.out.items (length c.args.bytes.now) c.loop-i._i c.loop-i.rest.now _ c.loop-i-test.false c.loop-i.invariant
