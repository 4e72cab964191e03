use Rattle.std.proofs.lemmas.Result.{IfOk-weaker}
use Rattle.n2_journal.proofs.Runs.{read_within, HasOrder-within}
use Rattle.n2_journal.proofs.reading.read_text.Goals as goal

pub returns-clause-within : goal.returns-clause-within
returns-clause-within c = IfOk-weaker c.read_all.result _ _ (λ j e. read_within c.args.bytes.now j.content e) c.read_all.ensures.ok

pub returns-clause-order : goal.returns-clause-order
returns-clause-order c = IfOk-weaker c.read_all.result _ _ (λ j e. HasOrder-within j.content (read_within c.args.bytes.now j.content e)) c.read_all.ensures.ok
