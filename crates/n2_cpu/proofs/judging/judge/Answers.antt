use Rattle.std.proofs.Common.{◌≡◌, ℕ, Option, Some, None, option_map, ◌∙◌, sym, subst}
use Rattle.n2_parts.specs.declared.stops.Stop.{Stop}
use Rattle.n2_watch.specs.Book.{knowledge}
use Rattle.n2_watch.specs.Discipline.{Strays, breach}
use Rattle.n2_watch.specs.Watched.{StandsFor, address_of}
use Rattle.n2_front.specs.Tasks.{stop_for}
use Rattle.n2_cpu.proofs.Straying.{not_stray, stray_stops}
use Rattle.n2_cpu.proofs.judging.judge.Goals as goal

pub returns-then-strays : goal.returns-then-strays
returns-then-strays c = λ b book core past width h s.
    stray_stops (breach b c.args.layout.now (knowledge b book core past) c.args.access.now width) c.args.pc c.args.word c.args.address (address_of c.args.access.now) (sym c.if-strays.true ∙ s) c.requires

pub returns-in-Some : goal.returns-in-Some
returns-in-Some c = λ b book core past width h s.
    let access = c.args.access.now in
    let map = c.args.layout.now in
    subst (λ (k : ℕ). StandsFor b map k c.args.watch.now book past → (breach b map (knowledge b book k past) access width ≡ Some Strays → ⊥) → Some c.in-Some.stop ≡ option_map (λ why. stop_for why c.args.pc c.args.word (address_of access)) (breach b map (knowledge b book k past) access width))
    h.core_is (λ g m. c.in-Some.ensures b book past width g m) h (not_stray _ (sym c.if-strays.false ∙ s))

pub returns-in-None : goal.returns-in-None
returns-in-None c = λ b book core past width h s.
    let access = c.args.access.now in
    let map = c.args.layout.now in
    subst (λ (k : ℕ). StandsFor b map k c.args.watch.now book past → (breach b map (knowledge b book k past) access width ≡ Some Strays → ⊥) → ◌≡◌ {A = Option Stop} None (option_map (λ why. stop_for why c.args.pc c.args.word (address_of access)) (breach b map (knowledge b book k past) access width)))
    h.core_is (λ g m. c.in-None.ensures b book past width g m) h (not_stray _ (sym c.if-strays.false ∙ s))
