use Rattle.std.proofs.Common.{◌≡◌, ℕ, ◌∷◌, None, subst}
use Rattle.n2_watch.specs.declared.past.Past.TheVariants.{Touch}
use Rattle.n2_watch.specs.declared.access.Access.TheVariants.{Cached}
use Rattle.n2_watch.specs.Book.{knowledge}
use Rattle.n2_watch.specs.Discipline.{breach}
use Rattle.n2_watch.specs.Watched.{StandsFor}
use Rattle.n2_cpu.proofs.tasks.note_touch.Goals as goal

pub returns-clause-stands : goal.returns-clause-stands
returns-clause-stands c = λ b map core book past address width h e n.
    subst (λ (k : ℕ). StandsFor b map k c.args.watch.now book past → breach b map (knowledge b book k past) (Cached address c.args.store) width ≡ None → StandsFor b map k c.note_touched_at.new.self book (Touch c.args.line c.args.store ∷ past))
    h.core_is (λ g m. c.note_touched_at.ensures.stands b map book past address width g e m) h n
