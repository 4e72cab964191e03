use Rattle.std.proofs.Common.{Some, ap, ◌∙◌}
use Rattle.n2_watch.specs.declared.access.Judged.TheVariants as judgements
use Rattle.n2_cpu.proofs.Straying.{touch_stops}
use Rattle.n2_cpu.proofs.judging.judge_cached.Goals as goal

pub returns-in-Passed : goal.returns-in-Passed
returns-in-Passed c = λ b book core past h.
    touch_stops b c.args.layout.now c.args.watch.now book core past c.args.address c.args.store c.args.width c.args.pc c.args.word (judgements.Passed c.in-Passed.place) c.in-Passed.ensures.address (c.in-Passed.ensures.breach b book past) h

pub returns-in-Refused : goal.returns-in-Refused
returns-in-Refused c = λ b book core past h.
    ap Some c.refused.ensures
    ∙ touch_stops b c.args.layout.now c.args.watch.now book core past c.args.address c.args.store c.args.width c.args.pc c.args.word (judgements.Refused c.in-Refused.broken) c.in-Refused.ensures.address (c.in-Refused.ensures.breach b book past) h

pub returns-in-Stray : goal.returns-in-Stray
returns-in-Stray c = λ b book core past h.
    touch_stops b c.args.layout.now c.args.watch.now book core past c.args.address c.args.store c.args.width c.args.pc c.args.word judgements.Stray c.in-Stray.ensures.address (c.in-Stray.ensures.breach b book past) h
