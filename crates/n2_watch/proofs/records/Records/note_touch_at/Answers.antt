use Rattle.std.proofs.Common.{◌≡◌, ◌<◌, ◌∷◌, List, length, ap, subst, sym, ◌∙◌}
use Rattle.n2_watch.specs.declared.past.Past.TheVariants.{Touch}
use Rattle.n2_watch.specs.declared.records.Record.{Record}
use Rattle.n2_watch.specs.Table.{Table, record_at}
use Rattle.n2_watch.specs.Stands.{LinesStand}
use Rattle.n2_watch.proofs.RecordNotes.{touch_lines}
use Rattle.n2_watch.proofs.records.Records.note_touch_at.Goals as goal

pub returns-then-is_at-clause-stands : goal.returns-then-is_at-clause-stands
returns-then-is_at-clause-stands c = λ map past r h.
    let t = c.args.self.now in
    let e = c.as_slice.ensures.value ∙ ap (λ (t : Table). t.records) c.self.view_is in
    let found = subst (λ (rs : List Record). (c.args.place < length rs) × ((record_at rs c.args.place).line ≡ c.args.line)) e (c.is_at.ensures.0 c.if-is_at.true) in
    subst (λ x. LinesStand map x (Touch c.args.line c.args.store ∷ past)) (sym c.touch.ensures)
    (touch_lines map t past c.args.place c.args.store c.args.line found h)
