use Rattle.std.proofs.Common.{◌≡◌, ℕ, ◌+◌, ◌%◌, slice_set, Ok, ◌∷◌, refl, ap, sym, subst, ◌∙◌, arith}
use Rattle.n2_board.specs.Access.{data_target}
use Rattle.n2_board.specs.AddressMap.{AddressMap}
use Rattle.n2_word.specs.Lines.{line}
use Rattle.n2_watch.specs.declared.past.Past.TheVariants.{Touch}
use Rattle.n2_watch.specs.Book.{knowledge}
use Rattle.n2_watch.specs.Stands.{LinesStand, IsRecorded}
use Rattle.n2_watch.specs.Watched.{Watched}
use Rattle.n2_board.specs.declared.access.Target.TheVariants.{Memory}
use Rattle.n2_board.specs.declared.access.Route.TheVariants.{Cached}
use Rattle.n2_watch.specs.Discipline.{direction}
use Rattle.n2_watch.proofs.Noting.{noted_stands, noted_in, passed_reaches}
use Rattle.n2_watch.proofs.Again.{again_first}
use Rattle.n2_watch.proofs.watch.Watch.note_another.Goals as goal

pub note_touch_at-requires : goal.note_touch_at-requires
note_touch_at-requires c =
    let e = ap (λ (w : Watched). w.table.clock) c.self.view_is in
    omega (arith, c.requires, e)

pub returns-clause-stands : goal.returns-clause-stands
returns-clause-stands c = λ b map book past address width h e n.
    let i = c.self.inside in
    let l = subst (λ (w : Watched). LinesStand map w.table past) (sym c.self.view_is) h.lines in
    let r = passed_reaches b map (knowledge b book c.args.self.now.core past) address c.args.store width n in
    let m = h.map_of in
    let inside = c.in_memory.ensures.data b m.images m.valid c.args.self.now.core address width Cached (direction c.args.store) (subst (λ (x : AddressMap). data_target x c.args.self.now.core address width Cached (direction c.args.store) ≡ Ok Memory) m.maps r.memory) in
    let k = subst (λ (w : Watched). IsRecorded w.table.records c.args.line) (sym c.self.view_is) (subst (λ (x : ℕ). IsRecorded c.args.self.now.table.records x) (sym e) (h.recorded (line address) inside r.touchable)) in
    let noted = noted_in i.board i.core i.cpuid i.records i.owned.items i.pointers.items i.touched i.stored c.args.self.now (record { board = i.board; core = i.core; cpuid = i.cpuid; table = c.note_touch_at.new.self; owned = i.owned.items; pointers = i.pointers.items; touched = slice_set i.touched (c.args.line % 4) (c.from.result + 1); stored = slice_set i.stored (c.args.line % 4) c.args.store }) c.self.view_is refl refl refl refl refl c.note_touch_at.ensures.noted in
    noted_stands b map c.args.self.now.core c.args.self.now _ book past (Touch c.args.line c.args.store ∷ past) h
    noted
    (c.note_touch_at.ensures.stands map past k l)
    (again_first b map c.args.self.now.core c.args.self.now _ book past c.args.line address width c.args.store refl h e n noted
    (ap (λ (x : ℕ). slice_set i.touched (c.args.line % 4) (x + 1)) c.from.ensures ∙ ap (λ (w : Watched). slice_set w.touched (c.args.line % 4) (c.args.line + 1)) c.self.view_is)
    (ap (λ (w : Watched). slice_set w.stored (c.args.line % 4) c.args.store) c.self.view_is))
