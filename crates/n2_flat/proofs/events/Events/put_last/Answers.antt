use Rattle.std.proofs.Common.{◌∙◌, arith}
use Rattle.n2_flat.proofs.Uarts.{newest_put}
use Rattle.n2_flat.proofs.events.Events.put_last.Goals as goal

pub returns-then-count-gt0 : goal.returns-then-count-gt0
returns-then-count-gt0 c = λ newest past e.
    newest_put c.self.inside.inner.items newest c.args.event past _ (let n = c.len-count.ensures in omega arith) (c.self.view_is ∙ e)
