use Rattle.std.proofs.Common.{ℕ, Ok, ap, sym}
use Rattle.std.proofs.lemmas.Result.{err_from_is_err_and}
use Rattle.n2_inputs.specs.declared.inputs.Inputs.{Inputs}
use Rattle.n2_inputs.proofs.Steps.{failed_step, after_step}
use Rattle.n2_top.specs.declared.answers.Answer.{Answer}
use Rattle.n2_top.specs.Asked.{SeedRun}
use Rattle.n2_top.specs.Answers.{answered}
use Rattle.n2_top.specs.Bench.{asked_bench}
use Rattle.n2_top.proofs.bench.answer_bench.Goals as goal

pub returns-in_err-inputs-clause-answer : goal.returns-in_err-inputs-clause-answer
returns-in_err-inputs-clause-answer c =
    let p = err_from_is_err_and c.from_residual.result c.from_residual.ensures.1 in
    λ files. rw (p.1, p.2) (failed_step (λ (a : Inputs × ℕ). SeedRun a.0 a.1) (λ (a : Answer). a) (asked_bench c.args.sections) answered _ c.in_err-inputs.ensures.asked)

pub returns-in_err-answer-clause-answer : goal.returns-in_err-answer-clause-answer
returns-in_err-answer-clause-answer c =
    let p = err_from_is_err_and c.from_residual-in_err-answer.result c.from_residual-in_err-answer.ensures.1 in
    λ files. rw (p.1, p.2) tt

pub returns-clause-answer : goal.returns-clause-answer
returns-clause-answer c = λ files.
    after_step (asked_bench c.args.sections) (SeedRun c.in_ok-inputs.inputs c.in_ok-inputs.seed) answered (Ok c.in_ok-answer.field-0) c.in_ok-inputs.ensures.asked
    (ap (λ (a : Answer). Ok a) (sym c.in_ok-answer.ensures.answer))
