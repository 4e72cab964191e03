use Rattle.std.proofs.Common.{◌≡◌, ℕ, List, [], subst}
use Rattle.n2_order.specs.Orders.{BySeed}
use Rattle.n2_report.proofs.RunEnds.{if_ok}
use Rattle.n2_top.specs.declared.answers.Answer.{Answer}
use Rattle.n2_top.specs.Runs.{EndsAs, end_by}
use Rattle.n2_top.specs.Bench.{bench_answer}
use Rattle.n2_top.proofs.bench.answer.Goals as goal

pub returns-clause-answer : goal.returns-clause-answer
unfolding bench_answer
returns-clause-answer c =
    let inputs = c.args.inputs.now in
    let order = BySeed c.args.seed in
    let end = subst (λ (l : List ℕ). EndsAs inputs c.in_ok-ran.ran (end_by inputs order l)) c.new.ensures.items c.in_ok-ran.ensures.ends in
    if_ok _ (λ (a : Answer). a ≡ bench_answer inputs c.args.seed) c.answer_report.result
    (λ a h. h (end_by inputs order []) end.stands end.count) c.answer_report.ensures.answer
