use Rattle.std.proofs.Common.{subst, sym}
use Rattle.n2_cpu.specs.declared.state.State.{State}
use Rattle.n2_cpu.specs.Stands.{StandsFor}
use Rattle.n2_cpu.proofs.cpu.Core.step.Goals as goal

pub returns-clause-proper : goal.returns-clause-proper
returns-clause-proper c = λ b k row d w request h found e. c.step.ensures.proper b k row d w request (subst (λ (s : State). StandsFor b c.args.layout.now k s d w) (sym c.self.view_is) h) found e
