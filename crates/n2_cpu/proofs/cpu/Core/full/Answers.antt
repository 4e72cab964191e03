use Rattle.std.proofs.Common.{subst, sym}
use Rattle.n2_cpu.specs.declared.state.State.{State}
use Rattle.n2_cpu.specs.Stands.{StandsFor}
use Rattle.n2_cpu.proofs.cpu.Core.full.Goals as goal

pub returns : goal.returns
returns c = λ b map k d w h. c.full.ensures.full b map k d w (subst (λ (s : State). StandsFor b map k s d w) (sym c.self.view_is) h)
