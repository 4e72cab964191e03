use Rattle.std.proofs.Common.{ap, sym, ◌∙◌}
use Rattle.n2_board.specs.declared.access.Direction.{Direction}
use Rattle.n2_board.specs.declared.access.Route.TheVariants.{Cached}
use Rattle.n2_board.specs.Access.{data_target}
use Rattle.n2_watch.specs.Discipline.{direction}
use Rattle.n2_watch.specs.Watched.{Watched}
use Rattle.n2_watch.proofs.Judging.{none_reached}
use Rattle.n2_watch.proofs.watch.Watch.judge_outside.Goals as goal

pub returns-in-Ok-clause-breach : goal.returns-in-Ok-clause-breach
returns-in-Ok-clause-breach c = λ past.
    let map = c.args.layout.now in
    let at = c.args.address in
    let e = ap (λ (d : Direction). data_target map c.self.inside.core at c.args.width Cached d) (sym c.direction.ensures) in
    let f = ap (λ (w : Watched). data_target map w.core at c.args.width Cached (direction c.args.store)) (sym c.self.view_is) in
    absurd (none_reached map c.args.self.now.core at c.args.width (direction c.args.store) _ c.requires (f ∙ e ∙ sym c.data_target-target.ensures ∙ c.in-Ok.is))
