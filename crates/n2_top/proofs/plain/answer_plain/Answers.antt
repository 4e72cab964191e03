use Rattle.std.proofs.lemmas.Result.{err_from_is_err_and}
use Rattle.n2_top.specs.declared.plain.Fitting.{Fitting}
use Rattle.n2_top.specs.Asked.{PlainRun}
use Rattle.n2_inputs.proofs.Steps.{failed_step}
use Rattle.n2_top.proofs.plain.answer_plain.Goals as goal

pub returns-in_err-asked-clause-answer : goal.returns-in_err-asked-clause-answer
returns-in_err-asked-clause-answer g c =
    let p = err_from_is_err_and c.from_residual.result c.from_residual.ensures.1 in
    λ files told. rw (p.1, p.2) (failed_step (λ (a : Fitting). PlainRun a.image c.args.steps) (λ a. a) _ _ _ (c.in_err-asked.ensures.asked files told c.args.steps))
