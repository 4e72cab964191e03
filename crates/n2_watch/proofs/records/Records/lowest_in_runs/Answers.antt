use Rattle.std.proofs.Common.{◌≡◌, length, subst, ap, arith}
use Rattle.n2_watch.specs.Walks.{IsLowest, InRuns}
use Rattle.n2_watch.proofs.records.Records.lowest_in_runs.Goals as goal

pub returns : goal.returns
returns c =
    let t = c.args.self.now in
    let e : c.loop-k.k ≡ length t.runs = omega (arith, ap (λ t. length t.runs) c.self.view_is) in
    subst (λ n. IsLowest (InRuns t.runs c.args.slot n t.cleaned t.records) t.records c.loop-k.lowest) e c.loop-k.invariant
