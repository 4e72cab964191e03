use Rattle.std.proofs.Common.{◌+◌, ◌-◌, ◌++◌, ℕ, List, ap, ◌∙◌}
use Rattle.n2_report.specs.Ran.{all_given}
use Rattle.n2_report.proofs.RunEnds.{given_next}
use Rattle.n2_report.proofs.of_run.all_given.Goals as goal

pub loop-i-preserved : goal.loop-i-preserved
loop-i-preserved c =
    let i = c.loop-i.i in
    ap (λ (l : List (List ℕ)). l ++ all_given c.args.layout.now c.args.entries.now (i + 1) (c.args.uarts - (i + 1))) c.in_ok-push.ensures.ok
    ∙ given_next c.args.layout.now c.args.entries.now i c.args.uarts c.loop-i.all c.in_ok-bytes_given.field-0 _ c.loop-i-test.true c.in_ok-bytes_given.ensures c.loop-i.invariant
