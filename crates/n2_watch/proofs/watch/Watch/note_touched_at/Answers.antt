use Rattle.std.proofs.Common.{◌≡◌, ◌^◌, ◌∷◌, true, refl, ap, sym, subst, ◌∙◌, arith}
use Rattle.n2_watch.specs.declared.past.Past.TheVariants.{Touch}
use Rattle.n2_watch.specs.Stands.{LinesStand}
use Rattle.n2_watch.specs.Watched.{Watched, is_again}
use Rattle.n2_watch.proofs.Noting.{noted_stands, noted_in}
use Rattle.n2_watch.proofs.Again.{again_kept, again_lines}
use Rattle.n2_watch.proofs.watch.Watch.note_touched_at.Goals as goal

pub note_other-requires : goal.note_other-requires
note_other-requires c =
    let e = ap (λ (w : Watched). w.table.clock) c.self.view_is in
    omega (arith, c.requires, e)

pub returns-then-is_again-clause-stands : goal.returns-then-is_again-clause-stands
returns-then-is_again-clause-stands c = λ b map book past address width h e n.
    let i = c.self.inside in
    let is : is_again c.args.self.now c.args.line c.args.store ≡ true = sym c.is_again.ensures ∙ c.if-is_again.true in
    let p = h.again c.args.line c.args.store is in
    let noted = noted_in i.board i.core i.cpuid i.records i.owned.items i.pointers.items i.touched i.stored c.args.self.now (record { board = i.board; core = i.core; cpuid = i.cpuid; table = c.note_other.new.self; owned = i.owned.items; pointers = i.pointers.items; touched = i.touched; stored = i.stored }) c.self.view_is refl refl refl refl refl c.note_other.ensures.noted in
    noted_stands b map c.args.self.now.core c.args.self.now _ book past (Touch c.args.line c.args.store ∷ past) h noted
    (c.note_other.ensures.other map (Touch c.args.line c.args.store ∷ past) (subst (λ (w : Watched). LinesStand map w.table (Touch c.args.line c.args.store ∷ past)) (sym c.self.view_is) (again_lines map c.args.self.now.table past c.args.line c.args.store p.may p.dirty h.lines)))
    (again_kept map c.args.self.now _ past c.args.line c.args.store noted (ap (λ (w : Watched). w.touched) c.self.view_is) (ap (λ (w : Watched). w.stored) c.self.view_is) h.again)
