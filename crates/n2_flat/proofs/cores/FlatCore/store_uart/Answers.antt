use Rattle.std.proofs.Common.{◌≡◌, ℕ, true, None, Ok, IsTrue, sym, ap, subst, ◌∙◌}
use Rattle.n2_word.specs.Lines.{without_bypass}
use Rattle.n2_word.specs.declared.Width.TheVariants.{Word}
use Rattle.n2_exec.specs.declared.registers.Regs.{Regs}
use Rattle.n2_exec.specs.Registers.{latched}
use Rattle.n2_board.specs.declared.access.Route.TheVariants.{Bypassing}
use Rattle.n2_board.specs.AddressMap.{AddressMap}
use Rattle.n2_board.specs.Access.{data_target}
use Rattle.n2_bus.specs.Wiring.{Wiring, wiring_of, proper}
use Rattle.n2_bus.specs.Transfer.{served}
use Rattle.n2_bus.specs.declared.request.Request.TheVariants.{Write}
use Rattle.n2_watch.specs.declared.access.Access.TheVariants.{Bypass}
use Rattle.n2_watch.specs.Discipline.{direction, breach}
use Rattle.n2_watch.specs.World.{shared, transferred}
use Rattle.n2_front.specs.Tasks as tasks
use Rattle.n2_front.specs.Retire.{acted, who, done_past}
use Rattle.n2_flat.specs.State.{CoreState, IsAt}
use Rattle.n2_flat.proofs.Noted.{core_with}
use Rattle.n2_flat.proofs.Alone.{past_reaches}
use Rattle.n2_flat.proofs.Shared.{shared_done, write_reply}
use Rattle.n2_flat.proofs.Uarts.{uart_world, uart_past, uart_stands, watched_in}
use Rattle.n2_flat.proofs.cores.FlatCore.store_uart.Goals as goal

pub write_uart-requires : goal.write_uart-requires
write_uart-requires c =
    let m = c.requires.at.common.map_of in
    let r = past_reaches c.args.board.now c.args.layout.now (who c.args.board.now c.args.k c.args.self.now.front c.args.common.now.world.book) c.args.address true c.args.value Word c.requires.unbroken in
    let p = c.what_passes_is_proper.ensures.write c.args.board.now m.images c.args.k c.args.address Word c.args.value (direction true) r.0 c.requires.at.core c.requires.aligned (subst (λ (x : AddressMap). data_target x c.args.k c.args.address Word Bypassing (direction true) ≡ Ok r.0) m.maps r.1) in
    subst (λ (x : Wiring). IsTrue (proper x c.args.k (Write c.args.low Word c.args.value))) (sym c.requires.at.common.wiring)
    (subst (λ (l : ℕ). IsTrue (proper (wiring_of c.args.board.now) c.args.k (Write l Word c.args.value))) (sym c.requires.low) p)

pub returns-clause-done : goal.returns-clause-done
returns-clause-done c =
    let i = c.self.inside in
    let own : CoreState = core_with i.regs i.stop i.past i.watch in
    let at : IsAt c.args.board.now c.args.layout.now c.args.k c.args.common.now own = subst (λ (s : CoreState). IsAt c.args.board.now c.args.layout.now c.args.k c.args.common.now s) (sym c.self.view_is) c.requires.at in
    let br = subst (λ (s : CoreState). breach c.args.board.now c.args.layout.now (who c.args.board.now c.args.k s.front c.args.common.now.world.book) (Bypass c.args.address true c.args.value) Word ≡ None) (sym c.self.view_is) c.requires.unbroken in
    let w = c.args.common.now.world in
    let t = transferred c.args.board.now c.args.layout.now c.args.k w (Write c.args.low Word c.args.value) in
    let reply : c.in_ok-reply.reply ≡ t.reply = c.in_ok-reply.ensures.reply ∙ ap (λ (x : Wiring). (served x c.args.k (shared w) (Write c.args.low Word c.args.value)).reply) at.common.wiring ∙ sym (write_reply c.args.board.now c.args.layout.now c.args.k w c.args.low c.args.value c.args.part c.args.offset c.requires.there) in
    let world = uart_world c.args.board.now c.args.layout.now c.args.k c.args.common.now own at c.args.address c.args.low c.requires.low c.args.part c.args.offset c.requires.there c.requires.kind c.args.value c.write_uart.new.self c.in_ok-reply.reply c.in_ok-reply.ensures.reply c.in_ok-reply.ensures.after in
    let task = tasks.StorePast c.args.address Word c.args.value in
    subst (λ (s : CoreState). acted (record { regs = c.latch_lines.new.self; stop = i.stop; past = i.past }) c.write_uart.new.self.world ≡ done_past c.args.board.now c.args.layout.now c.args.k s.front w task (Write (without_bypass c.args.address) Word c.args.value) (transferred c.args.board.now c.args.layout.now c.args.k w (Write (without_bypass c.args.address) Word c.args.value))) c.self.view_is
    (shared_done c.args.board.now c.args.layout.now c.args.k own.front w task (Write c.args.low Word c.args.value) c.latch_lines.new.self i.past c.in_ok-reply.reply c.write_uart.new.self.world
    (c.latch_lines.ensures ∙ ap (λ (x : Regs). latched x c.in_ok-reply.reply.lines) c.advance.ensures) reply world (uart_past c.args.board.now c.args.layout.now c.args.k c.args.common.now own at c.args.address c.args.low c.requires.low c.args.part c.args.offset c.requires.there c.requires.kind c.args.value)
    ∙ ap (λ (l : ℕ). done_past c.args.board.now c.args.layout.now c.args.k own.front w task (Write l Word c.args.value) (transferred c.args.board.now c.args.layout.now c.args.k w (Write l Word c.args.value))) c.requires.low)

pub returns-clause-watched : goal.returns-clause-watched
returns-clause-watched c =
    let i = c.self.inside in
    let own : CoreState = core_with i.regs i.stop i.past i.watch in
    let at : IsAt c.args.board.now c.args.layout.now c.args.k c.args.common.now own = subst (λ (s : CoreState). IsAt c.args.board.now c.args.layout.now c.args.k c.args.common.now s) (sym c.self.view_is) c.requires.at in
    let br = subst (λ (s : CoreState). breach c.args.board.now c.args.layout.now (who c.args.board.now c.args.k s.front c.args.common.now.world.book) (Bypass c.args.address true c.args.value) Word ≡ None) (sym c.self.view_is) c.requires.unbroken in
    let w = c.args.common.now.world in
    let t = transferred c.args.board.now c.args.layout.now c.args.k w (Write c.args.low Word c.args.value) in
    let reply : c.in_ok-reply.reply ≡ t.reply = c.in_ok-reply.ensures.reply ∙ ap (λ (x : Wiring). (served x c.args.k (shared w) (Write c.args.low Word c.args.value)).reply) at.common.wiring ∙ sym (write_reply c.args.board.now c.args.layout.now c.args.k w c.args.low c.args.value c.args.part c.args.offset c.requires.there) in
    let world = uart_world c.args.board.now c.args.layout.now c.args.k c.args.common.now own at c.args.address c.args.low c.requires.low c.args.part c.args.offset c.requires.there c.requires.kind c.args.value c.write_uart.new.self c.in_ok-reply.reply c.in_ok-reply.ensures.reply c.in_ok-reply.ensures.after in
    let stands = uart_stands c.args.board.now c.args.layout.now c.args.k c.args.common.now own at c.args.address c.args.low c.requires.low c.args.part c.args.offset c.requires.there c.requires.kind c.args.value br in
    watched_in c.args.board.now c.args.layout.now c.args.k c.write_uart.new.self.world t.world c.latch_lines.new.self i.stop i.past i.watch world stands
