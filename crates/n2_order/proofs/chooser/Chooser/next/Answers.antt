use Rattle.std.proofs.Common.{ap, ◌∙◌}
use Rattle.n2_order.specs.Choices.{Choosing}
use Rattle.n2_order.proofs.Picks.{answer_none, answer_runs, actors-moved}
use Rattle.n2_order.proofs.chooser.Chooser.next.Goals as goal

pub returns-clause-none : goal.returns-clause-none
returns-clause-none c = answer_none c.args.self.now c.args.over.now c.step.result c.step.ensures.actor

pub returns-clause-running : goal.returns-clause-running
returns-clause-running c = answer_runs c.args.self.now c.args.over.now c.step.result c.step.ensures.actor

pub returns-clause-actors : goal.returns-clause-actors
returns-clause-actors c = ap (λ (x : Choosing). x.actors) c.step.ensures.state ∙ actors-moved c.args.self.now _
