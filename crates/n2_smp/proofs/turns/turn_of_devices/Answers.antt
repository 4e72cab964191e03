use Rattle.std.proofs.Common.{◌≡◌, ℕ, sym, ap, ◌∙◌, subst, length}
use Rattle.n2_parts.specs.declared.stops.Act.TheVariants.{Device}
use Rattle.n2_bus.specs.declared.request.Request.{Request}
use Rattle.n2_bus.specs.Transfer.{BusState, served, bus_after, request_for}
use Rattle.n2_journal.specs.Journals.{Limited, with_entry}
use Rattle.n2_smp.specs.declared.turns.Turned.TheVariants.{Acted}
use Rattle.n2_smp.specs.Standing.{AreTurned}
use Rattle.n2_smp.specs.Rows.{FitRows}
use Rattle.n2_smp.proofs.Events.{full_turned, used_up, event_turned}
use Rattle.n2_smp.proofs.Rows.{event_fits, one_more}
use Rattle.n2_smp.proofs.turns.turn_of_devices.Goals as goal

pub returns-then-not-has_room-clause-turned : goal.returns-then-not-has_room-clause-turned
returns-then-not-has_room-clause-turned c = λ map m h. full_turned c.args.board.now map m c.args.bus.now c.args.journal.now c.args.script.now h (sym c.has_room.ensures ∙ c.if-not-has_room.true)

pub returns-in_default-clause-turned : goal.returns-in_default-clause-turned
returns-in_default-clause-turned c = λ map m h. used_up c.args.board.now map m c.args.bus.now c.args.journal.now c.args.script.now h (sym c.event.ensures.next ∙ c.in_default.is)

pub returns-clause-turned : goal.returns-clause-turned
returns-clause-turned c = λ map m h.
    let replied : c.transfer-reply.result ≡ (served c.args.bus.now.wiring (length c.args.board.now.core) c.args.bus.now.shared (request_for c.in-Some.event)).reply =
    c.transfer-reply.ensures.reply
    ∙ ap (λ (n : ℕ). (served c.args.bus.now.wiring n c.args.bus.now.shared c.request_of-request.result).reply) c.requires.actor
    ∙ ap (λ (r : Request). (served c.args.bus.now.wiring (length c.args.board.now.core) c.args.bus.now.shared r).reply) c.request_of-request.ensures
    in
    let after : c.transfer-reply.new.self ≡ bus_after c.args.bus.now (length c.args.board.now.core) (request_for c.in-Some.event) =
    c.transfer-reply.ensures.after
    ∙ ap (λ (n : ℕ). bus_after c.args.bus.now n c.request_of-request.result) c.requires.actor
    ∙ ap (λ (r : Request). bus_after c.args.bus.now (length c.args.board.now.core) r) c.request_of-request.ensures
    in
    let entered : c.add.new.self ≡ record { content = with_entry c.args.journal.now.content (record { actor = length c.args.board.now.core; local = 0; request = request_for c.in-Some.event; reply = c.transfer-reply.result }); limit = c.args.journal.now.limit } =
    c.add.ensures
    ∙ ap (λ (n : ℕ). record { content = with_entry c.args.journal.now.content (record { actor = n; local = 0; request = c.request_of-request.result; reply = c.transfer-reply.result }); limit = c.args.journal.now.limit }) c.requires.actor
    ∙ ap (λ (r : Request). record { content = with_entry c.args.journal.now.content (record { actor = length c.args.board.now.core; local = 0; request = r; reply = c.transfer-reply.result }); limit = c.args.journal.now.limit }) c.request_of-request.ensures
    in
    let made = event_turned c.args.board.now map m c.args.bus.now c.args.journal.now c.args.script.now h c.in-Some.event (sym c.event.ensures.next ∙ c.in-Some.is) (sym c.has_room.ensures ∙ c.if-not-has_room.false)
    c.transfer-reply.result c.pass.new.self replied c.pass.ensures.next
    in
    subst (λ (x : BusState). AreTurned c.args.board.now map x c.add.new.self c.pass.new.self m (Acted (Device c.in-Some.event))) (sym after)
    (subst (λ (x : Limited). AreTurned c.args.board.now map (bus_after c.args.bus.now (length c.args.board.now.core) (request_for c.in-Some.event)) x c.pass.new.self m (Acted (Device c.in-Some.event))) (sym entered) made)

pub returns-clause-rows : goal.returns-clause-rows
returns-clause-rows c = λ rows.
    subst (λ (j : Limited). FitRows j.content.entries) (sym c.add.ensures)
    (one_more c.args.journal.now.content.entries _ rows
    (event_fits c.args.board.now c.requires.valid c.args.bus.now c.requires.wiring c.args.actor c.requires.actor c.in-Some.event c.request_of-request.result c.request_of-request.ensures c.transfer-reply.result (c.in-Some.ensures.proper c.requires.valid)
    c.have_types.ensures.request c.have_types.ensures.reply c.transfer-reply.ensures.reply))
