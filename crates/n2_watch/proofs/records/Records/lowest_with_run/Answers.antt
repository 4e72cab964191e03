use Rattle.std.proofs.Common.{◌≡◌, ◌+◌, subst, sym, ◌∙◌, ap}
use Rattle.n2_watch.specs.declared.runs.Run.{Run}
use Rattle.n2_watch.specs.Table.{run_at}
use Rattle.n2_watch.specs.Walks.{IsLowest, InRuns}
use Rattle.n2_watch.proofs.Walking.{run_more, run_other}
use Rattle.n2_watch.proofs.records.Records.lowest_with_run.Goals as goal

pub returns-then-from-slot : goal.returns-then-from-slot
returns-then-from-slot c = λ h.
    let t = c.args.self.now in
    let e : (run_at t.runs c.args.k).slot ≡ c.args.slot = ap (λ (r : Run). r.slot) (sym c.run.ensures) ∙ sym c.from.ensures ∙ c.if-from-slot.true in
    subst (λ o. IsLowest (InRuns t.runs c.args.slot (c.args.k + 1) t.cleaned t.records) t.records o) (sym c.lower_of.ensures)
    (run_more t.runs c.args.slot c.args.k t.cleaned t.records c.args.lowest _ e h c.lowest_in_run.ensures)

pub returns-else-from-slot : goal.returns-else-from-slot
returns-else-from-slot c = λ h.
    let t = c.args.self.now in
    run_other t.runs c.args.slot c.args.k t.cleaned t.records c.args.lowest (λ e. c.if-from-slot.false (c.from.ensures ∙ ap (λ (r : Run). r.slot) c.run.ensures ∙ e)) h
