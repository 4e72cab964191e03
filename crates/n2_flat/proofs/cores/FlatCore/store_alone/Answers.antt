use Rattle.std.proofs.Common.{◌≡◌, ℕ, true, Some, Ok, IsTrue, sym, ap, subst, ◌∙◌}
use Rattle.n2_word.specs.Lines.{without_bypass}
use Rattle.n2_exec.specs.declared.registers.Regs.{Regs}
use Rattle.n2_exec.specs.Registers.{latched}
use Rattle.n2_board.specs.declared.access.Route.TheVariants.{Bypassing}
use Rattle.n2_board.specs.AddressMap.{AddressMap, place}
use Rattle.n2_board.specs.Access.{data_target}
use Rattle.n2_bus.specs.Wiring.{Wiring, wiring_of, proper}
use Rattle.n2_bus.specs.declared.request.Request.TheVariants.{Write}
use Rattle.n2_watch.specs.Discipline.{direction}
use Rattle.n2_watch.specs.World.{World, shared, transferred}
use Rattle.n2_watch.specs.Shapes.{BypassAccess}
use Rattle.n2_front.specs.Tasks as tasks
use Rattle.n2_front.specs.Retire.{acted, who, done_past}
use Rattle.n2_flat.specs.State.{CoreState, CommonState, IsWatched, writes_alone, common_after}
use Rattle.n2_flat.proofs.Noted.{core_with}
use Rattle.n2_flat.proofs.Alone.{write_alone, write_mail, alone_done, alone_stands, past_reaches}
use Rattle.n2_flat.proofs.cores.FlatCore.store_alone.Goals as goal

pub transfer-reply-requires : goal.transfer-reply-requires
transfer-reply-requires c =
    let m = c.requires.at.common.map_of in
    let r = past_reaches c.args.board.now c.args.layout.now (who c.args.board.now c.args.k c.args.self.now.front c.args.common.now.world.book) c.args.address true c.args.value c.args.width c.requires.unbroken in
    let p = c.what_passes_is_proper.ensures.write c.args.board.now m.images c.args.k c.args.address c.args.width c.args.value (direction true) r.0 c.requires.at.core c.requires.aligned (subst (λ (x : AddressMap). data_target x c.args.k c.args.address c.args.width Bypassing (direction true) ≡ Ok r.0) m.maps r.1) in
    subst (λ (x : Wiring). IsTrue (proper x c.args.k (Write c.args.low c.args.width c.args.value))) (sym c.requires.at.common.wiring)
    (subst (λ (l : ℕ). IsTrue (proper (wiring_of c.args.board.now) c.args.k (Write l c.args.width c.args.value))) (sym c.requires.low) p)

pub returns-clause-done : goal.returns-clause-done
returns-clause-done c =
    let w = c.args.common.now.world in
    let i = c.self.inside in
    let task = tasks.StorePast c.args.address c.args.width c.args.value in
    subst (λ (s : CoreState). acted (record { regs = c.latch_lines.new.self; stop = i.stop; past = i.past }) c.transfer-reply.new.self.world ≡ done_past c.args.board.now c.args.layout.now c.args.k s.front w task (Write (without_bypass c.args.address) c.args.width c.args.value) (transferred c.args.board.now c.args.layout.now c.args.k w (Write (without_bypass c.args.address) c.args.width c.args.value))) c.self.view_is
    (alone_done c.args.board.now c.args.layout.now c.args.k w (Write c.args.low c.args.width c.args.value) (write_alone c.args.board.now c.args.layout.now w.book c.args.low c.args.width c.args.value c.requires.alone) (record { regs = i.regs; stop = i.stop; past = i.past }) task c.args.common.now.wiring c.latch_lines.new.self c.transfer-reply.result c.transfer-reply.new.self c.requires.at.common.wiring
    (c.latch_lines.ensures ∙ ap (λ (x : Regs). latched x c.transfer-reply.result.lines) c.advance.ensures)
    c.transfer-reply.ensures.reply c.transfer-reply.ensures.after
    ∙ ap (λ (l : ℕ). done_past c.args.board.now c.args.layout.now c.args.k (record { regs = i.regs; stop = i.stop; past = i.past }) w task (Write l c.args.width c.args.value) (transferred c.args.board.now c.args.layout.now c.args.k w (Write l c.args.width c.args.value))) c.requires.low)

pub returns-clause-watched : goal.returns-clause-watched
returns-clause-watched c =
    let w = c.args.common.now.world in
    let m = c.requires.at.common.map_of in
    let i = c.self.inside in
    let h = c.requires.at.watched in
    let alone = subst (λ (l : ℕ). writes_alone (place c.args.layout.now l) ≡ true) c.requires.low c.requires.alone in
    let access : BypassAccess = record { address = c.args.address; width = c.args.width; stored = Some c.args.value } in
    let s = alone_stands c.args.board.now m.images c.args.layout.now c.args.k w c.args.self.now.watch c.args.self.now.front.past access
    (record { valid = m.valid; map_is = m.maps; core = c.requires.at.core; shape = c.requires.at.common.shape.book; posted = c.requires.at.common.posted; unbroken = c.requires.unbroken })
    (write_alone c.args.board.now c.args.layout.now w.book (without_bypass c.args.address) c.args.width c.args.value alone) (write_mail c.args.board.now m.images c.args.layout.now c.args.k (shared w) (without_bypass c.args.address) c.args.width c.args.value m.maps alone) h.stands in
    let wiring : (common_after (wiring_of c.args.board.now) c.args.k w (Write (without_bypass c.args.address) c.args.width c.args.value)).world ≡ c.transfer-reply.new.self.world =
    ap (λ (x : Wiring). (common_after x c.args.k w (Write (without_bypass c.args.address) c.args.width c.args.value)).world) (sym c.requires.at.common.wiring)
    ∙ ap (λ (l : ℕ). (common_after c.args.common.now.wiring c.args.k w (Write l c.args.width c.args.value)).world) (sym c.requires.low)
    ∙ ap (λ (x : CommonState). x.world) (sym c.transfer-reply.ensures.after) in
    let all : IsWatched c.args.board.now c.args.layout.now c.args.k (common_after (wiring_of c.args.board.now) c.args.k w (Write (without_bypass c.args.address) c.args.width c.args.value)).world.book c.args.self.now = record { stands = s } in
    subst (λ (s : CoreState). IsWatched c.args.board.now c.args.layout.now c.args.k c.transfer-reply.new.self.world.book s → IsWatched c.args.board.now c.args.layout.now c.args.k c.transfer-reply.new.self.world.book (core_with c.latch_lines.new.self i.stop i.past i.watch)) c.self.view_is
    (λ g. record { stands = g.stands })
    (subst (λ (x : World). IsWatched c.args.board.now c.args.layout.now c.args.k x.book c.args.self.now) wiring all)
