use Rattle.std.proofs.Common.{Ok, ap, sym, ◌∙◌}
use Rattle.std.proofs.lemmas.Result.{err_from_is_err_and}
use Rattle.n2_runs.specs.Machine.{Machine}
use Rattle.n2_runs.specs.FlatRun.{Flat}
use Rattle.n2_runs.specs.Recorded.{actors_of}
use Rattle.n2_top.specs.declared.answers.Answer.{Answer}
use Rattle.n2_top.specs.Machines.{without_caches}
use Rattle.n2_top.specs.Flat.{flat_answer, flat_run_answer}
use Rattle.n2_top.proofs.Replaying.{told_refused, told_answered, told_counts}
use Rattle.n2_top.proofs.flat.answer.Goals as goal

pub returns-in_err-run_told-clause-answer : goal.returns-in_err-run_told-clause-answer
unfolding flat_run_answer
returns-in_err-run_told-clause-answer c =
    let inputs = c.args.inputs.now in
    let j = c.args.journal.now.content in
    let p = err_from_is_err_and c.from_residual.result c.from_residual.ensures.1 in
    rw (p.1, p.2) (told_refused inputs j _ (λ (m : Machine). Ok (flat_answer inputs.board (without_caches inputs (actors_of j)))) c.in_err-run_told.ensures.told)

pub flat_of-requires-clause-counts : goal.flat_of-requires-clause-counts
flat_of-requires-clause-counts c =
    told_counts c.args.inputs.now c.args.journal.now.content c.in_ok-run_told.field-0 c.requires.ready c.in_ok-run_told.ensures.told

pub returns-clause-answer : goal.returns-clause-answer
unfolding flat_run_answer
returns-clause-answer c =
    let inputs = c.args.inputs.now in
    let j = c.args.journal.now.content in
    told_answered inputs j c.in_ok-run_told.field-0 (λ (m : Machine). Ok (flat_answer inputs.board (without_caches inputs (actors_of j)))) c.in_ok-run_told.ensures.told
    ∙ ap (λ (a : Answer). Ok a) (sym (c.in_ok-answer_of.ensures.answer ∙ ap (λ (m : Flat). flat_answer inputs.board m) c.in_ok-flat.ensures.flat))
