use Rattle.std.proofs.Common.{◌++◌, List, ℕ, ap, ◌∙◌, arith}
use Rattle.n2_elf.proofs.Steps.{contents-more, contents-done}
use Rattle.n2_elf.proofs.writing.put_contents.Goals as goal

pub loop-segment-preserved : goal.loop-segment-preserved
loop-segment-preserved c = contents-more c.loop-segment.out.items c.put_text.new.out.items _ c.args.segments.now c.loop-segment.segment-index c.segment-item.result c.loop-segment-test.true c.segment-item.is
    (c.in_ok-put_text.ensures.ok ∙ ap (λ (x : List ℕ). c.loop-segment.out.items ++ x) c.as_slice.ensures) c.loop-segment.invariant

pub returns : goal.returns
returns c = contents-done c.loop-segment.out.items _ c.args.segments.now c.loop-segment.segment-index (omega arith) c.loop-segment.invariant
