use Rattle.n2_make.proofs.Words.{next_text, next_behind}
use Rattle.n2_make.proofs.programs.put_sections.Goals as goal

pub loop-i-preserved : goal.loop-i-preserved
loop-i-preserved c = (
  next_text c.args.n c.loop-i._i c.loop-i.generator c.next_word.new.self c.next_word.result c.loop-i.out.items c.put_section.new.out.items _
      c.loop-i-test.true c.next_word.ensures c.in_ok-put_section.ensures c.loop-i.invariant.0,
  next_behind c.args.n c.loop-i._i c.loop-i.generator c.next_word.new.self _ c.next_word.result c.loop-i-test.true c.next_word.ensures c.loop-i.invariant.1,
)
