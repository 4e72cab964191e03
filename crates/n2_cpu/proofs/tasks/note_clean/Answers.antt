use Rattle.std.proofs.Common.{ℕ, ◌∷◌, refl, subst}
use Rattle.n2_watch.specs.declared.past.Past.TheVariants.{Clean}
use Rattle.n2_watch.specs.Watched.{StandsFor}
use Rattle.n2_cpu.proofs.tasks.note_clean.Goals as goal

pub returns-clause-stands : goal.returns-clause-stands
returns-clause-stands c = λ b map core book past h.
    subst (λ (k : ℕ). StandsFor b map k c.args.watch.now book past → StandsFor b map k c.note.new.self book (Clean c.args.op c.args.address ∷ past))
    h.core_is (λ g. c.note.ensures.cleaned b map book past c.args.op c.args.address refl g) h
