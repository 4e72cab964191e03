use Rattle.std.proofs.Common.{◌≡◌, ℕ, List, Vec, Global, Result, Ok, refl, subst, sym}
use Rattle.std.proofs.lemmas.Result.{err_from_is_err_and}
use Rattle.n2_order.specs.Orders.{asked}
use Rattle.n2_inputs.specs.declared.inputs.Inputs.{Inputs}
use Rattle.n2_inputs.specs.declared.refusal.Refusal.{Refusal}
use Rattle.n2_top.specs.Run.{Answers}
use Rattle.n2_top.specs.Written.{board_of}
use Rattle.n2_top.proofs.Stepping.{step_refused, step_answered, without_memory}
use Rattle.n2_top.proofs.step.answer_step.Goals as goal

-- the actors that a `Vec` holds
shown : Inputs × Vec ℕ Global → Inputs × List ℕ
shown a = (a.0, a.1.items)

pub returns-in_err-inputs-clause-answer : goal.returns-in_err-inputs-clause-answer
returns-in_err-inputs-clause-answer g c =
    let p = err_from_is_err_and c.from_residual.result c.from_residual.ensures.1 in
    λ files told. rw (p.1, p.2) (step_refused shown files c.args.board.now (asked c.args.order.now) _ (c.in_err-inputs.ensures.asked files told))

pub returns-in_err-answer-clause-answer : goal.returns-in_err-answer-clause-answer
returns-in_err-answer-clause-answer g c =
    let p = err_from_is_err_and c.from_residual-in_err-answer.result c.from_residual-in_err-answer.ensures.1 in
    λ files told. rw (p.1, p.2) tt

pub returns-in_err-answer-clause-folder : goal.returns-in_err-answer-clause-folder
returns-in_err-answer-clause-folder g c =
    let p = err_from_is_err_and c.from_residual-in_err-answer.result c.from_residual-in_err-answer.ensures.1 in
    without_memory _ _ _ _ (c.in_ok-inputs.inputs, c.in_ok-inputs.list) _ (Ok (c.in_ok-inputs.inputs, c.in_ok-inputs.list)) refl c.in_ok-inputs.ensures.folder (rw (p.1, p.2) refl)

pub returns-clause-answer : goal.returns-clause-answer
returns-clause-answer g c = λ files told.
    step_answered files c.args.board.now (asked c.args.order.now) c.in_ok-inputs.inputs c.in_ok-inputs.list.items c.in_ok-answer.field-0 (c.in_ok-inputs.ensures.asked files told) c.in_ok-answer.ensures.answer

pub returns-clause-run : goal.returns-clause-run
returns-clause-run g c = λ files told.
    subst (λ (found : Result (Inputs × List ℕ) Refusal). Answers (board_of found) c.in_ok-answer.field-0) (sym (c.in_ok-inputs.ensures.asked files told)) c.in_ok-answer.ensures.run
