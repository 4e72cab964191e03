use Rattle.std.proofs.Common.{◌≡◌, false, None, IsTrue, sym, ap, subst, ◌∙◌}
use Rattle.n2_word.specs.declared.Width.{Width}
use Rattle.n2_word.specs.declared.Width.TheVariants.{Word}
use Rattle.n2_word.specs.Words.{is_aligned}
use Rattle.n2_watch.specs.declared.access.Access.TheVariants.{Bypass}
use Rattle.n2_watch.specs.Discipline.{breach}
use Rattle.n2_front.specs.Tasks as tasks
use Rattle.n2_front.specs.Retire.{who, done}
use Rattle.n2_flat.specs.State.{acted_by}
use Rattle.n2_flat.proofs.Shared.{device_word}
use Rattle.n2_flat.proofs.Tasked.{on_ok}
use Rattle.n2_flat.proofs.cores.FlatCore.load_shared.Goals as goal

pub load_mailbox-requires-clause-aligned : goal.load_mailbox-requires-clause-aligned
load_mailbox-requires-clause-aligned c =
    let width : c.args.width ≡ Word = device_word c.args.board.now c.args.layout.now (who c.args.board.now c.args.k c.args.self.now.front c.args.common.now.world.book) c.args.address c.args.low c.in-Device.part c.in-Device.offset false 0 c.args.width c.requires.low (sym c.in-Device.ensures) c.requires.unbroken in
    subst (λ (x : Width). IsTrue (is_aligned c.args.address x)) width c.requires.aligned

pub load_mailbox-requires-clause-unbroken : goal.load_mailbox-requires-clause-unbroken
load_mailbox-requires-clause-unbroken c =
    let width : c.args.width ≡ Word = device_word c.args.board.now c.args.layout.now (who c.args.board.now c.args.k c.args.self.now.front c.args.common.now.world.book) c.args.address c.args.low c.in-Device.part c.in-Device.offset false 0 c.args.width c.requires.low (sym c.in-Device.ensures) c.requires.unbroken in
    subst (λ (x : Width). breach c.args.board.now c.args.layout.now (who c.args.board.now c.args.k c.args.self.now.front c.args.common.now.world.book) (Bypass c.args.address false 0) x ≡ None) width c.requires.unbroken

pub returns-in-Device-clause-done : goal.returns-in-Device-clause-done
returns-in-Device-clause-done c =
    let width : c.args.width ≡ Word = device_word c.args.board.now c.args.layout.now (who c.args.board.now c.args.k c.args.self.now.front c.args.common.now.world.book) c.args.address c.args.low c.in-Device.part c.in-Device.offset false 0 c.args.width c.requires.low (sym c.in-Device.ensures) c.requires.unbroken in
    on_ok c.load_mailbox.result _ _
    (λ (h : acted_by c.load_mailbox.new.self c.load_mailbox.new.common ≡ done c.args.board.now c.args.layout.now c.args.k c.args.self.now.front c.args.common.now.world (tasks.LoadPast c.args.address Word c.args.signed c.args.to)).
    h ∙ ap (λ (x : Width). done c.args.board.now c.args.layout.now c.args.k c.args.self.now.front c.args.common.now.world (tasks.LoadPast c.args.address x c.args.signed c.args.to)) (sym width))
    c.load_mailbox.ensures.done
