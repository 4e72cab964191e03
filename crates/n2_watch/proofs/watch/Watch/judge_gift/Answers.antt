use Rattle.std.proofs.Common.{◌∙◌}
use Rattle.n2_watch.proofs.Judging.{flush_at}
use Rattle.n2_watch.proofs.watch.Watch.judge_gift.Goals as goal

pub returns : goal.returns
returns c = λ map past h. c.unflushed.ensures ∙ flush_at c.args.address _ _ (c.lowest_given.ensures map past h)
