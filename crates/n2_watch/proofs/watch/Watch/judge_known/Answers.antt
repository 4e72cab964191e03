use Rattle.std.proofs.Common.{ap, ◌∙◌}
use Rattle.n2_watch.specs.Watched.{known, broken_at}
use Rattle.n2_watch.proofs.Judging.{judged_cached, judged_bypass, judged_fetch, judged_op}
use Rattle.n2_watch.proofs.watch.Watch.judge_known.Goals as goal

pub returns-in-Cached : goal.returns-in-Cached
returns-in-Cached c = λ past width h n.
    judged_cached c.args.self.now.board c.args.layout.now (known c.args.self.now past) c.args.access.now _ _ width _ c.in-Cached.is n
    (c.refusal.ensures c.in-Cached.address c.judge_touch.ensures.address ∙ ap (λ b. broken_at c.in-Cached.address b) (c.judge_touch.ensures.breach past h))

pub returns-in-Bypass : goal.returns-in-Bypass
returns-in-Bypass c = λ past width h n.
    judged_bypass c.args.self.now.board c.args.layout.now (known c.args.self.now past) c.args.access.now _ _ _ width _ c.in-Bypass.is n (c.judge_bypass.ensures past h)

pub returns-in-Fetch : goal.returns-in-Fetch
returns-in-Fetch c = λ past width h n.
    judged_fetch c.args.self.now.board c.args.layout.now (known c.args.self.now past) c.args.access.now _ width _ c.in-Fetch.is c.judge_fetch.ensures

pub returns-in-Op : goal.returns-in-Op
returns-in-Op c = λ past width h n.
    judged_op c.args.self.now.board c.args.layout.now (known c.args.self.now past) c.args.access.now _ _ width _ c.in-Op.is (c.judge_op.ensures c.args.layout.now past h)
