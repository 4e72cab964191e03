use Rattle.std.proofs.Common.{◌∷◌, length, subst, sym}
use Rattle.n2_word.specs.Lines.{set_for}
use Rattle.n2_watch.specs.declared.past.Past.TheVariants.{Clean}
use Rattle.n2_watch.specs.Table.{after_clean_set}
use Rattle.n2_watch.specs.Stands.{LinesStand}
use Rattle.n2_watch.proofs.RecordNotes.{clean_set_lines}
use Rattle.n2_watch.proofs.records.Records.note_clean_set.Goals as goal

pub returns-clause-stands : goal.returns-clause-stands
returns-clause-stands c = λ map past op address e own h.
    let t = c.args.self.now in
    subst (λ x. LinesStand map x (Clean op address ∷ past)) (sym c.clean_set.ensures)
    (subst (λ l. LinesStand map (after_clean_set t (set_for l (length t.cleaned))) (Clean op address ∷ past)) (sym e) (clean_set_lines op address map t past own h))
