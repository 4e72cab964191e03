use Rattle.std.proofs.Common.{sym, ◌∙◌, ap}
use Rattle.n2_watch.specs.Watched.{address_of, broken_at}
use Rattle.n2_watch.proofs.Judging.{same_breach}
use Rattle.n2_watch.proofs.watch.Watch.judge.Goals as goal

pub returns : goal.returns
returns c = λ b book past width h n.
    let e = same_breach b c.args.layout.now c.args.self.now book past h c.args.access.now width in
    c.judge_known.ensures past width h.lines (λ y. n (sym e ∙ y)) ∙ ap (λ o. broken_at (address_of c.args.access.now) o) e
