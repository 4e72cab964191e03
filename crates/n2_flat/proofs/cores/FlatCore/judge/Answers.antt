use Rattle.std.proofs.Common.{◌≡◌, Option, Some, None, ap, subst, ◌∙◌}
use Rattle.n2_parts.specs.declared.stops.Stop.{Stop}
use Rattle.n2_watch.specs.Discipline.{Strays, breach}
use Rattle.n2_watch.specs.Watched.{StandsFor, address_of}
use Rattle.n2_front.specs.Retire.{who}
use Rattle.n2_flat.specs.State.{CoreState, stop_of}
use Rattle.n2_flat.proofs.Judged.{at_core, some_stop, no_stop}
use Rattle.n2_flat.proofs.cores.FlatCore.judge.Goals as goal

pub returns-in-Some : goal.returns-in-Some
returns-in-Some c = λ b k book width.
    let map = c.args.layout.now in
    let access = c.args.access.now in
    let i = c.self.inside in
    subst (λ (s : CoreState). StandsFor b map k s.watch book s.front.past → (breach b map (who b k s.front book) access width ≡ Some Strays → ⊥) → Some c.refused.result ≡ stop_of s.front.regs.pc c.args.word (address_of access) (breach b map (who b k s.front book) access width)) c.self.view_is
    (λ h n.
    ap (λ (x : Stop). Some x) c.refused.ensures
    ∙ some_stop i.regs.pc c.args.word (address_of access) _ c.in-Some.broken n
    (at_core b map k i.watch book i.past access width (Some c.in-Some.broken) (λ s m. c.in-Some.ensures b book i.past width s m) h n))

pub returns-in-None : goal.returns-in-None
returns-in-None c = λ b k book width.
    let map = c.args.layout.now in
    let access = c.args.access.now in
    let i = c.self.inside in
    subst (λ (s : CoreState). StandsFor b map k s.watch book s.front.past → (breach b map (who b k s.front book) access width ≡ Some Strays → ⊥) → ◌≡◌ {A = Option Stop} None (stop_of s.front.regs.pc c.args.word (address_of access) (breach b map (who b k s.front book) access width))) c.self.view_is
    (λ h n.
    no_stop i.regs.pc c.args.word (address_of access) _ n
    (at_core b map k i.watch book i.past access width None (λ s m. c.in-None.ensures b book i.past width s m) h n))
