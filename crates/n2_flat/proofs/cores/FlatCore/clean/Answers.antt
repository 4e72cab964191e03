use Rattle.std.proofs.Common.{refl, subst}
use Rattle.n2_watch.specs.declared.past.Past.TheVariants.{Clean}
use Rattle.n2_flat.specs.State.{CoreState, IsWatched}
use Rattle.n2_flat.proofs.Noted.{core_with, watched_on, cleaned_at}
use Rattle.n2_flat.proofs.cores.FlatCore.clean.Goals as goal

pub returns-clause-watched : goal.returns-clause-watched
returns-clause-watched c = λ b map k book.
    let i = c.self.inside in
    subst (λ (s : CoreState). IsWatched b map k book s → IsWatched b map k book (core_with i.regs i.stop c.push.new.self c.note.new.self)) c.self.view_is
    (λ h.
    watched_on b map k book c.note.new.self i.past c.push.new.self (Clean c.args.op c.args.address) i.regs i.stop c.in_ok-push.ensures.ok
    (cleaned_at b map k book i.watch c.note.new.self i.past c.args.op c.args.address (c.note.ensures.cleaned b map book i.past c.args.op c.args.address refl) h.stands))
