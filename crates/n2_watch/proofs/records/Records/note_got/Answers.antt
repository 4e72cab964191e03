use Rattle.std.proofs.Common.{◌<◌, ◌∷◌, length, subst, sym, arith}
use Rattle.n2_watch.specs.declared.past.Past.TheVariants.{Got}
use Rattle.n2_watch.specs.Table.{after_got, slot_of}
use Rattle.n2_watch.specs.Stands.{LinesStand}
use Rattle.n2_watch.proofs.RecordNotes.{got_lines}
use Rattle.n2_watch.proofs.records.Records.note_got.Goals as goal

pub returns-clause-stands : goal.returns-clause-stands
returns-clause-stands c = λ map past guard e h.
    let t = c.args.self.now in
    let w : slot_of guard < length t.got = omega (arith, e, c.requires.slot) in
    subst (λ x. LinesStand map x (Got guard ∷ past)) (sym c.get_slot.ensures)
    (subst (λ s. LinesStand map (after_got t s) (Got guard ∷ past)) (sym e) (got_lines map t past guard w h))
