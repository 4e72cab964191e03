use Rattle.std.proofs.Common.{Ok, ap, sym, ◌∙◌}
use Rattle.std.proofs.lemmas.Result.{err_from_is_err_and}
use Rattle.n2_runs.specs.Machine.{Machine}
use Rattle.n2_top.specs.declared.answers.Answer.{Answer}
use Rattle.n2_top.specs.Runs.{report_answer}
use Rattle.n2_top.specs.Replay.{replay_answer}
use Rattle.n2_top.proofs.Replaying.{told_refused, told_answered}
use Rattle.n2_top.proofs.replay.answer.Goals as goal

pub returns-in_err-ran-clause-answer : goal.returns-in_err-ran-clause-answer
unfolding replay_answer
returns-in_err-ran-clause-answer c =
    let inputs = c.args.inputs.now in
    let p = err_from_is_err_and c.from_residual.result c.from_residual.ensures.1 in
    rw (p.1, p.2) (told_refused inputs c.args.journal.now.content _ (λ (m : Machine). Ok (report_answer inputs.board inputs.layout m)) c.in_err-ran.ensures.told)

pub returns-clause-answer : goal.returns-clause-answer
unfolding replay_answer
returns-clause-answer c =
    let inputs = c.args.inputs.now in
    let told = c.in_ok-ran.ensures.told in
    told_answered inputs c.args.journal.now.content c.in_ok-ran.ran (λ (m : Machine). Ok (report_answer inputs.board inputs.layout m)) told
    ∙ ap (λ (a : Answer). Ok a) (sym (c.in_ok-answer_report.ensures.answer told.machine told.ends.stands told.ends.count))
