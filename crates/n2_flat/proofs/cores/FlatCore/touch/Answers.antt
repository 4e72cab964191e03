use Rattle.std.proofs.Common.{◌≡◌, None, subst}
use Rattle.n2_word.specs.Lines.{line}
use Rattle.n2_watch.specs.declared.past.Past.TheVariants.{Touch}
use Rattle.n2_watch.specs.declared.access.Access.TheVariants.{Cached}
use Rattle.n2_watch.specs.Discipline.{breach}
use Rattle.n2_front.specs.Retire.{who}
use Rattle.n2_flat.specs.State.{CoreState, IsWatched}
use Rattle.n2_flat.proofs.Noted.{core_with, watched_on, touched_at}
use Rattle.n2_flat.proofs.cores.FlatCore.touch.Goals as goal

pub returns-clause-watched : goal.returns-clause-watched
returns-clause-watched c = λ b map k book address width.
    let i = c.self.inside in
    subst (λ (s : CoreState). IsWatched b map k book s → c.args.line ≡ line address → breach b map (who b k s.front book) (Cached address c.args.store) width ≡ None → IsWatched b map k book (core_with i.regs i.stop c.push.new.self c.note_touched_at.new.self)) c.self.view_is
    (λ h e n.
    watched_on b map k book c.note_touched_at.new.self i.past c.push.new.self (Touch c.args.line c.args.store) i.regs i.stop c.in_ok-push.ensures.ok
    (touched_at b map k book i.watch c.note_touched_at.new.self i.past c.args.line c.args.store address width (c.note_touched_at.ensures.stands b map book i.past address width) h.stands e n))
