use Rattle.std.proofs.Common.{◌≡◌}
use Rattle.n2_order.specs.Orders.{asked}
use Rattle.n2_report.proofs.RunEnds.{if_ok}
use Rattle.n2_top.specs.declared.answers.Answer.{Answer}
use Rattle.n2_top.specs.Runs.{end_by}
use Rattle.n2_top.specs.Step.{step_answer}
use Rattle.n2_top.specs.Run.{IsRunOf}
use Rattle.n2_top.proofs.Written.{run_stepped}
use Rattle.n2_top.proofs.step.answer.Goals as goal

pub returns-clause-answer : goal.returns-clause-answer
unfolding step_answer
returns-clause-answer c =
    let inputs = c.args.inputs.now in
    let order = asked c.args.order.now in
    let end = c.in_ok-ran.ensures.ends in
    if_ok _ (λ (a : Answer). a ≡ step_answer inputs order c.args.list.items) c.answer_run.result
    (λ a h. h (end_by inputs order c.args.list.items) end.stands end.count) c.answer_run.ensures.answer

pub returns-clause-run : goal.returns-clause-run
unfolding step_answer
returns-clause-run c =
    let inputs = c.args.inputs.now in
    let order = asked c.args.order.now in
    let end = c.in_ok-ran.ensures.ends in
    if_ok _ (λ (a : Answer). IsRunOf inputs a) c.answer_run.result
    (λ a h. run_stepped inputs order c.args.list.items c.in_ok-ran.ran a c.requires.ready end (h (end_by inputs order c.args.list.items) end.stands end.count)) c.answer_run.ensures.answer
