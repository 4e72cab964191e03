use Rattle.std.proofs.Common.{◌++◌, List, ℕ, ap, subst, ◌∙◌, arith}
use Rattle.std.proofs.lemmas.List.Elements.{All-more}
use Rattle.n2_elf.proofs.Again.{HasWords}
use Rattle.n2_elf.proofs.Steps.{programs-more, programs-done, contents_len-next}
use Rattle.n2_elf.proofs.writing.put_programs.Goals as goal

pub program-requires : goal.program-requires
program-requires c =
    let next = contents_len-next c.args.segments.now c.loop-segment.segment-index c.segment-item.result c.loop-segment-test.true c.segment-item.is in
    omega arith

pub overflow_cast-offset-in-loop-segment : goal.overflow_cast-offset-in-loop-segment
overflow_cast-offset-in-loop-segment c =
    let next = contents_len-next c.args.segments.now c.loop-segment.segment-index c.segment-item.result c.loop-segment-test.true c.segment-item.is in
    omega arith

pub overflow_add-offset-in-loop-segment : goal.overflow_add-offset-in-loop-segment
overflow_add-offset-in-loop-segment c =
    let next = contents_len-next c.args.segments.now c.loop-segment.segment-index c.segment-item.result c.loop-segment-test.true c.segment-item.is in
    omega arith

pub loop-segment-preserved : goal.loop-segment-preserved
loop-segment-preserved c =
    let next = contents_len-next c.args.segments.now c.loop-segment.segment-index c.segment-item.result c.loop-segment-test.true c.segment-item.is in
    record {
      rest = rw c.len.ensures (programs-more c.loop-segment.offset c.loop-segment.out.items c.put_text.new.out.items _ c.args.segments.now c.loop-segment.segment-index c.segment-item.result c.loop-segment-test.true c.segment-item.is
          (c.in_ok-put_text.ensures.ok ∙ ap (λ (x : List ℕ). c.loop-segment.out.items ++ x) c.program.ensures.value) c.loop-segment.invariant.rest);
      words = All-more HasWords c.args.segments.now c.loop-segment.segment-index c.segment-item.result c.loop-segment-test.true c.loop-segment.invariant.words (subst HasWords c.segment-item.is c.program.ensures.words);
      small = omega arith;
    }

pub returns-clause-ok : goal.returns-clause-ok
returns-clause-ok c = programs-done c.loop-segment.offset c.loop-segment.out.items _ c.args.segments.now c.loop-segment.segment-index (omega arith) c.loop-segment.invariant.rest
