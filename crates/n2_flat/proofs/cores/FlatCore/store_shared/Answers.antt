use Rattle.std.proofs.Common.{◌≡◌, true, None, IsTrue, sym, ap, subst, ◌∙◌}
use Rattle.n2_word.specs.declared.Width.{Width}
use Rattle.n2_word.specs.declared.Width.TheVariants.{Word}
use Rattle.n2_word.specs.Words.{is_aligned}
use Rattle.n2_watch.specs.declared.access.Access.TheVariants.{Bypass}
use Rattle.n2_watch.specs.Discipline.{breach}
use Rattle.n2_front.specs.Tasks as tasks
use Rattle.n2_front.specs.Retire.{who, done}
use Rattle.n2_flat.specs.State.{acted_by}
use Rattle.n2_flat.proofs.Shared.{device_word}
use Rattle.n2_flat.proofs.Tasked.{on_ok}
use Rattle.n2_flat.proofs.cores.FlatCore.store_shared.Goals as goal

pub store_uart-requires-clause-aligned : goal.store_uart-requires-clause-aligned
store_uart-requires-clause-aligned c =
    let width : c.args.width ≡ Word = device_word c.args.board.now c.args.layout.now (who c.args.board.now c.args.k c.args.self.now.front c.args.common.now.world.book) c.args.address c.args.low c.in-Device.part c.in-Device.offset true c.args.value c.args.width c.requires.low (sym c.in-Device.ensures) c.requires.unbroken in
    subst (λ (x : Width). IsTrue (is_aligned c.args.address x)) width c.requires.aligned

pub store_uart-requires-clause-unbroken : goal.store_uart-requires-clause-unbroken
store_uart-requires-clause-unbroken c =
    let width : c.args.width ≡ Word = device_word c.args.board.now c.args.layout.now (who c.args.board.now c.args.k c.args.self.now.front c.args.common.now.world.book) c.args.address c.args.low c.in-Device.part c.in-Device.offset true c.args.value c.args.width c.requires.low (sym c.in-Device.ensures) c.requires.unbroken in
    subst (λ (x : Width). breach c.args.board.now c.args.layout.now (who c.args.board.now c.args.k c.args.self.now.front c.args.common.now.world.book) (Bypass c.args.address true c.args.value) x ≡ None) width c.requires.unbroken

pub returns-then-eq-clause-done : goal.returns-then-eq-clause-done
returns-then-eq-clause-done c =
    let width : c.args.width ≡ Word = device_word c.args.board.now c.args.layout.now (who c.args.board.now c.args.k c.args.self.now.front c.args.common.now.world.book) c.args.address c.args.low c.in-Device.part c.in-Device.offset true c.args.value c.args.width c.requires.low (sym c.in-Device.ensures) c.requires.unbroken in
    on_ok c.store_uart.result _ _
    (λ (h : acted_by c.store_uart.new.self c.store_uart.new.common ≡ done c.args.board.now c.args.layout.now c.args.k c.args.self.now.front c.args.common.now.world (tasks.StorePast c.args.address Word c.args.value)).
    h ∙ ap (λ (x : Width). done c.args.board.now c.args.layout.now c.args.k c.args.self.now.front c.args.common.now.world (tasks.StorePast c.args.address x c.args.value)) (sym width))
    c.store_uart.ensures.done

pub store_guarded-requires-clause-aligned : goal.store_guarded-requires-clause-aligned
store_guarded-requires-clause-aligned c =
    let width : c.args.width ≡ Word = device_word c.args.board.now c.args.layout.now (who c.args.board.now c.args.k c.args.self.now.front c.args.common.now.world.book) c.args.address c.args.low c.in-Device.part c.in-Device.offset true c.args.value c.args.width c.requires.low (sym c.in-Device.ensures) c.requires.unbroken in
    subst (λ (x : Width). IsTrue (is_aligned c.args.address x)) width c.requires.aligned

pub store_guarded-requires-clause-unbroken : goal.store_guarded-requires-clause-unbroken
store_guarded-requires-clause-unbroken c =
    let width : c.args.width ≡ Word = device_word c.args.board.now c.args.layout.now (who c.args.board.now c.args.k c.args.self.now.front c.args.common.now.world.book) c.args.address c.args.low c.in-Device.part c.in-Device.offset true c.args.value c.args.width c.requires.low (sym c.in-Device.ensures) c.requires.unbroken in
    subst (λ (x : Width). breach c.args.board.now c.args.layout.now (who c.args.board.now c.args.k c.args.self.now.front c.args.common.now.world.book) (Bypass c.args.address true c.args.value) x ≡ None) width c.requires.unbroken

pub returns-else-eq-clause-done : goal.returns-else-eq-clause-done
returns-else-eq-clause-done c =
    let width : c.args.width ≡ Word = device_word c.args.board.now c.args.layout.now (who c.args.board.now c.args.k c.args.self.now.front c.args.common.now.world.book) c.args.address c.args.low c.in-Device.part c.in-Device.offset true c.args.value c.args.width c.requires.low (sym c.in-Device.ensures) c.requires.unbroken in
    on_ok c.store_guarded.result _ _
    (λ (h : acted_by c.store_guarded.new.self c.store_guarded.new.common ≡ done c.args.board.now c.args.layout.now c.args.k c.args.self.now.front c.args.common.now.world (tasks.StorePast c.args.address Word c.args.value)).
    h ∙ ap (λ (x : Width). done c.args.board.now c.args.layout.now c.args.k c.args.self.now.front c.args.common.now.world (tasks.StorePast c.args.address x c.args.value)) (sym width))
    c.store_guarded.ensures.done
