use Rattle.std.proofs.Common.{◌≡◌, ℕ, Bool, false, None, Ok, Option, IsTrue, refl, sym, ap, subst, ◌∙◌}
use Rattle.n2_word.specs.Lines.{without_bypass}
use Rattle.n2_word.specs.declared.Width.TheVariants.{Word}
use Rattle.n2_exec.specs.declared.registers.Regs.{Regs}
use Rattle.n2_exec.specs.Registers.{latched, loaded_regs}
use Rattle.n2_board.specs.declared.access.Route.TheVariants.{Bypassing}
use Rattle.n2_board.specs.declared.guards.Holder.TheVariants.{ByCore}
use Rattle.n2_board.specs.AddressMap.{AddressMap}
use Rattle.n2_board.specs.Access.{data_target}
use Rattle.n2_bus.specs.Wiring.{Wiring, wiring_of, proper}
use Rattle.n2_bus.specs.Transfer.{served}
use Rattle.n2_bus.specs.declared.request.Reply.{Reply}
use Rattle.n2_bus.specs.declared.request.Request.TheVariants.{Read}
use Rattle.n2_watch.specs.declared.access.Access.TheVariants.{Bypass}
use Rattle.n2_watch.specs.Discipline.{direction, breach}
use Rattle.n2_watch.specs.World.{shared, transferred}
use Rattle.n2_front.specs.Tasks as tasks
use Rattle.n2_front.specs.Retire.{acted, who, done_past}
use Rattle.n2_flat.specs.State.{CoreState, IsAt, taken_region, owned_if, event_noted, with_event}
use Rattle.n2_flat.proofs.Noted.{core_with}
use Rattle.n2_flat.proofs.Alone.{past_reaches}
use Rattle.std.specs.Prelude.{option_map}
use Rattle.n2_board.specs.declared.guards.Guard.TheVariants.{Passed}
use Rattle.n2_flat.proofs.Shared.{shared_done, read_reply}
use Rattle.n2_flat.proofs.Guarded.{received_stands, received_past, received_world, watched_after}
use Rattle.n2_flat.proofs.cores.FlatCore.load_mailbox.Goals as goal

pub transfer-reply-requires : goal.transfer-reply-requires
transfer-reply-requires c =
    let m = c.requires.at.common.map_of in
    let r = past_reaches c.args.board.now c.args.layout.now (who c.args.board.now c.args.k c.args.self.now.front c.args.common.now.world.book) c.args.address false 0 Word c.requires.unbroken in
    let p = c.what_passes_is_proper.ensures.read c.args.board.now m.images c.args.k c.args.address Word (direction false) r.0 c.requires.at.core c.requires.aligned (subst (λ (x : AddressMap). data_target x c.args.k c.args.address Word Bypassing (direction false) ≡ Ok r.0) m.maps r.1) in
    subst (λ (x : Wiring). IsTrue (proper x c.args.k (Read c.args.low Word))) (sym c.requires.at.common.wiring)
    (subst (λ (l : ℕ). IsTrue (proper (wiring_of c.args.board.now) c.args.k (Read l Word))) (sym c.requires.low) p)

pub returns-clause-done : goal.returns-clause-done
returns-clause-done c =
    let i = c.self.inside in
    let own : CoreState = core_with i.regs i.stop i.past i.watch in
    let at : IsAt c.args.board.now c.args.layout.now c.args.k c.args.common.now own = subst (λ (s : CoreState). IsAt c.args.board.now c.args.layout.now c.args.k c.args.common.now s) (sym c.self.view_is) c.requires.at in
    let br = subst (λ (s : CoreState). breach c.args.board.now c.args.layout.now (who c.args.board.now c.args.k s.front c.args.common.now.world.book) (Bypass c.args.address false 0) Word ≡ None) (sym c.self.view_is) c.requires.unbroken in
    let w = c.args.common.now.world in
    let t = transferred c.args.board.now c.args.layout.now c.args.k w (Read c.args.low Word) in
    let reply : c.transfer-reply.result ≡ t.reply = c.transfer-reply.ensures.reply ∙ ap (λ (x : Wiring). (served x c.args.k (shared w) (Read c.args.low Word)).reply) at.common.wiring ∙ sym (read_reply c.args.board.now c.args.layout.now c.args.k w c.args.low c.args.part c.args.offset c.requires.there c.requires.kind) in
    let stands = received_stands c.args.board.now c.args.layout.now c.args.k c.args.common.now own at c.args.address c.args.low c.requires.low c.args.part c.args.offset c.requires.there c.requires.kind br c.note.new.self c.transfer-reply.result.took c.transfer-reply.result.pointer (c.note.ensures.received c.args.board.now at.common.map_of.images w i.past c.args.address c.transfer-reply.result.took c.transfer-reply.result.pointer refl) (ap (λ (x : Reply). x.took) reply) (ap (λ (x : Reply). x.pointer) reply) in
    let region = c.taken_region-region.ensures ∙ ap (λ (x : Reply). taken_region c.args.layout.now x) reply in
    let guard = c.passed-guard.ensures ∙ ap (λ (r : Option ℕ). option_map (λ found. Passed found) r) region in
    let past = c.settle.ensures _ i.past c.in_ok-push.ensures.ok ∙ ap (λ (x : Bool). with_event (event_noted c.passed-guard.result x c.owns-after.result) i.past) c.owns-before.ensures ∙ ap (λ (x : Bool). with_event (event_noted c.passed-guard.result (owned_if i.watch c.passed-guard.result) x) i.past) c.owns-after.ensures ∙ received_past c.args.board.now c.args.layout.now c.args.k c.args.common.now own at c.args.address c.args.low c.requires.low c.args.part c.args.offset c.requires.there c.requires.kind br c.note.new.self c.passed-guard.result stands guard in
    let world = received_world c.args.board.now c.args.layout.now c.args.k c.args.common.now own at c.args.address c.args.low c.requires.low c.args.part c.args.offset c.requires.there c.requires.kind br c.transfer-reply.new.self c.hold.new.self c.taken_region-region.result (ByCore c.receiver_of.result) c.transfer-reply.result c.transfer-reply.ensures.after c.hold.ensures (ap (λ (n : ℕ). ByCore n) c.receiver_of.ensures) c.taken_region-region.ensures c.transfer-reply.ensures.reply in
    let task = tasks.LoadPast c.args.address Word c.args.signed c.args.to in
    subst (λ (s : CoreState). acted (record { regs = c.latch_lines.new.self; stop = i.stop; past = c.settle.new.self }) c.hold.new.self.world ≡ done_past c.args.board.now c.args.layout.now c.args.k s.front w task (Read (without_bypass c.args.address) Word) (transferred c.args.board.now c.args.layout.now c.args.k w (Read (without_bypass c.args.address) Word))) c.self.view_is
    (shared_done c.args.board.now c.args.layout.now c.args.k own.front w task (Read c.args.low Word) c.latch_lines.new.self c.settle.new.self c.transfer-reply.result c.hold.new.self.world
    (c.latch_lines.ensures ∙ ap (λ (x : Regs). latched x c.transfer-reply.result.lines) c.put_loaded.ensures ∙ ap (λ (v : ℕ). latched (loaded_regs i.regs c.args.to v) c.transfer-reply.result.lines) c.extended.ensures) reply world past
    ∙ ap (λ (l : ℕ). done_past c.args.board.now c.args.layout.now c.args.k own.front w task (Read l Word) (transferred c.args.board.now c.args.layout.now c.args.k w (Read l Word))) c.requires.low)

pub returns-clause-watched : goal.returns-clause-watched
returns-clause-watched c =
    let i = c.self.inside in
    let own : CoreState = core_with i.regs i.stop i.past i.watch in
    let at : IsAt c.args.board.now c.args.layout.now c.args.k c.args.common.now own = subst (λ (s : CoreState). IsAt c.args.board.now c.args.layout.now c.args.k c.args.common.now s) (sym c.self.view_is) c.requires.at in
    let br = subst (λ (s : CoreState). breach c.args.board.now c.args.layout.now (who c.args.board.now c.args.k s.front c.args.common.now.world.book) (Bypass c.args.address false 0) Word ≡ None) (sym c.self.view_is) c.requires.unbroken in
    let w = c.args.common.now.world in
    let t = transferred c.args.board.now c.args.layout.now c.args.k w (Read c.args.low Word) in
    let reply : c.transfer-reply.result ≡ t.reply = c.transfer-reply.ensures.reply ∙ ap (λ (x : Wiring). (served x c.args.k (shared w) (Read c.args.low Word)).reply) at.common.wiring ∙ sym (read_reply c.args.board.now c.args.layout.now c.args.k w c.args.low c.args.part c.args.offset c.requires.there c.requires.kind) in
    let stands = received_stands c.args.board.now c.args.layout.now c.args.k c.args.common.now own at c.args.address c.args.low c.requires.low c.args.part c.args.offset c.requires.there c.requires.kind br c.note.new.self c.transfer-reply.result.took c.transfer-reply.result.pointer (c.note.ensures.received c.args.board.now at.common.map_of.images w i.past c.args.address c.transfer-reply.result.took c.transfer-reply.result.pointer refl) (ap (λ (x : Reply). x.took) reply) (ap (λ (x : Reply). x.pointer) reply) in
    let region = c.taken_region-region.ensures ∙ ap (λ (x : Reply). taken_region c.args.layout.now x) reply in
    let guard = c.passed-guard.ensures ∙ ap (λ (r : Option ℕ). option_map (λ found. Passed found) r) region in
    let past = c.settle.ensures _ i.past c.in_ok-push.ensures.ok ∙ ap (λ (x : Bool). with_event (event_noted c.passed-guard.result x c.owns-after.result) i.past) c.owns-before.ensures ∙ ap (λ (x : Bool). with_event (event_noted c.passed-guard.result (owned_if i.watch c.passed-guard.result) x) i.past) c.owns-after.ensures ∙ received_past c.args.board.now c.args.layout.now c.args.k c.args.common.now own at c.args.address c.args.low c.requires.low c.args.part c.args.offset c.requires.there c.requires.kind br c.note.new.self c.passed-guard.result stands guard in
    let world = received_world c.args.board.now c.args.layout.now c.args.k c.args.common.now own at c.args.address c.args.low c.requires.low c.args.part c.args.offset c.requires.there c.requires.kind br c.transfer-reply.new.self c.hold.new.self c.taken_region-region.result (ByCore c.receiver_of.result) c.transfer-reply.result c.transfer-reply.ensures.after c.hold.ensures (ap (λ (n : ℕ). ByCore n) c.receiver_of.ensures) c.taken_region-region.ensures c.transfer-reply.ensures.reply in
    watched_after c.args.board.now c.args.layout.now c.args.k c.hold.new.self.world t.world c.latch_lines.new.self i.stop c.settle.new.self _ c.note.new.self world past stands
