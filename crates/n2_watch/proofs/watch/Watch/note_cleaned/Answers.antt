use Rattle.std.proofs.Common.{◌∷◌, refl, ap, sym, subst, arith}
use Rattle.n2_watch.specs.Watched.{Watched}
use Rattle.n2_watch.specs.declared.past.Past.TheVariants.{Clean}
use Rattle.n2_watch.specs.Stands.{LinesStand}
use Rattle.n2_watch.proofs.Noting.{noted_stands, noted_in}
use Rattle.n2_watch.proofs.Again.{forgotten}
use Rattle.n2_watch.proofs.watch.Watch.note_cleaned.Goals as goal

pub note_clean-requires : goal.note_clean-requires
note_clean-requires c =
    let e = ap (λ (w : Watched). w.table.clock) c.self.view_is in
    omega (arith, c.requires, e)

pub returns-clause-stands : goal.returns-clause-stands
returns-clause-stands c = λ b map book past h.
    let i = c.self.inside in
    let l = subst (λ (w : Watched). LinesStand map w.table past) (sym c.self.view_is) h.lines in
    noted_stands b map c.args.self.now.core c.args.self.now _ book past (Clean c.args.op c.args.address ∷ past) h
    (noted_in i.board i.core i.cpuid i.records i.owned.items i.pointers.items i.touched i.stored c.args.self.now _ c.self.view_is refl refl refl refl refl c.note_clean.ensures.noted)
    (c.note_clean.ensures.stands map past l)
    (forgotten map _ (Clean c.args.op c.args.address ∷ past) refl)
