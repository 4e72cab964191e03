use Rattle.std.proofs.Common.{ap, sym, ◌∙◌}
use Rattle.n2_board.specs.declared.access.Route.TheVariants.{Cached}
use Rattle.n2_board.specs.Access.{allows}
use Rattle.n2_watch.specs.Discipline.{direction, line_breach}
use Rattle.n2_watch.specs.Watched.{Watched, known}
use Rattle.n2_watch.proofs.Judging.{line_judged, line_separate}
use Rattle.n2_watch.proofs.watch.Watch.judge_class.Goals as goal

pub returns-then-lets-clause-breach : goal.returns-then-lets-clause-breach
returns-then-lets-clause-breach c = λ map past h e.
    let d = direction c.args.store in
    let a = ap (λ (w : Watched). allows c.args.class w.core Cached d) (sym c.self.view_is) in
    line_judged map (known c.args.self.now past) c.args.line d c.args.class _ (a ∙ sym c.lets.ensures ∙ c.if-lets.true) e
    (c.judge_line.ensures.breach map past h ∙ ap (λ g. line_breach map (known c.args.self.now past) g c.args.line) c.guard_of.ensures)

pub returns-else-lets-clause-breach : goal.returns-else-lets-clause-breach
returns-else-lets-clause-breach c = λ map past h e.
    let d = direction c.args.store in
    let a = ap (λ (w : Watched). allows c.args.class w.core Cached d) (sym c.self.view_is) in
    c.refused.ensures.breach ∙ line_separate map (known c.args.self.now past) c.args.line d c.args.class (a ∙ sym c.lets.ensures ∙ c.if-lets.false)
