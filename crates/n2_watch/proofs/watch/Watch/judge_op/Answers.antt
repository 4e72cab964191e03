use Rattle.std.proofs.Common.{◌∙◌, ap}
use Rattle.n2_watch.specs.Watched.{known, broken_at}
use Rattle.n2_watch.proofs.Judging.{flush_at, op_drops, op_drops_line}
use Rattle.n2_watch.proofs.watch.Watch.judge_op.Goals as goal

pub returns-in-Initd : goal.returns-in-Initd
returns-in-Initd c = λ map past h.
    c.unflushed.ensures ∙ flush_at c.args.address _ _ (c.lowest_dropped.ensures map past h) ∙ ap (λ b. broken_at c.args.address b) (op_drops (known c.args.self.now past) c.args.op c.args.address c.in-Initd.is)

pub returns-in-Initda : goal.returns-in-Initda
returns-in-Initda c = λ map past h.
    c.unflushed-in-Initda.ensures ∙ flush_at c.args.address _ _ (c.lowest_dropped-in-Initda.ensures map past h) ∙ ap (λ b. broken_at c.args.address b) (op_drops_line (known c.args.self.now past) c.args.op c.args.address c.in-Initda.is)
