use Rattle.std.proofs.Common.{ap, ◌∙◌, arith}
use Rattle.n2_elf.specs.Reading.{segments_from}
use Rattle.n2_elf.proofs.Steps.{loaded-more, loaded-done}
use Rattle.n2_elf.proofs.reading.load.Goals as goal

pub loop-i-preserved : goal.loop-i-preserved
loop-i-preserved c = loaded-more c.args.bytes.now c.loop-i.i c.half_at-count.result c.loop-i.segments c.load_one.new.segments _ c.loop-i-test.true c.in_ok-load_one.ensures c.loop-i.invariant

pub returns : goal.returns
returns c = loaded-done c.args.bytes.now c.loop-i.i c.half_at-count.result c.loop-i.segments _ (omega arith) c.loop-i.invariant ∙ ap (λ n. segments_from c.args.bytes.now 0 n) c.half_at-count.ensures
