use Rattle.std.proofs.Common.{◌∷◌, subst, sym}
use Rattle.n2_watch.specs.declared.past.Past.TheVariants.{Touch}
use Rattle.n2_watch.specs.Stands.{LinesStand}
use Rattle.n2_watch.proofs.RecordNotes.{touch_lines}
use Rattle.n2_watch.proofs.records.Records.note_touch.Goals as goal

pub returns-in-Some-clause-stands : goal.returns-in-Some-clause-stands
returns-in-Some-clause-stands c = λ map past r h.
    let t = c.args.self.now in
    subst (λ x. LinesStand map x (Touch c.args.line c.args.store ∷ past)) (sym c.touch.ensures)
    (touch_lines map t past c.in-Some.i c.args.store c.args.line c.in-Some.ensures.found h)
