use Rattle.std.proofs.Common.{◌∷◌, ◌∙◌, subst, sym}
use Rattle.n2_watch.specs.declared.past.Past.TheVariants.{Clean}
use Rattle.n2_watch.specs.Stands.{LinesStand, IsUnrecorded}
use Rattle.n2_watch.proofs.RecordNotes.{clean_line_lines, unrecorded_lines}
use Rattle.n2_watch.proofs.records.Records.note_clean_line.Goals as goal

pub returns-in-Some-clause-stands : goal.returns-in-Some-clause-stands
returns-in-Some-clause-stands c = λ map past op address e own h.
    let t = c.args.self.now in
    let f = c.in-Some.ensures.found in
    subst (λ x. LinesStand map x (Clean op address ∷ past)) (sym c.clean_line.ensures)
    (clean_line_lines op address map t past c.in-Some.i own (f.0, f.1 ∙ e) h)

pub returns-in-None-clause-stands : goal.returns-in-None-clause-stands
returns-in-None-clause-stands c = λ map past op address e own h.
    let t = c.args.self.now in
    let n = c.in-None.ensures.missing h.table.runs in
    subst (λ x. LinesStand map x (Clean op address ∷ past)) (sym c.pass.ensures)
    (unrecorded_lines op address map t past own (subst (λ l. IsUnrecorded t.records l) e n) h)
