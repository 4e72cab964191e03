use Rattle.std.proofs.Common.{◌≡◌, ℕ, false, Option, List, ap, sym, ◌∙◌, subst, arith}
use Rattle.std.proofs.lemmas.Bool.Decides.{nat_tests}
use Rattle.n2_bus.specs.Transfer.{BusState, bus_after}
use Rattle.n2_bus.specs.declared.request.Reply.{Reply}
use Rattle.n2_journal.specs.Journals.{Limited, with_entry}
use Rattle.n2_parts.specs.declared.stops.Act.{Act}
use Rattle.n2_smp.specs.Standing.{IsMadeAt}
use Rattle.n2_smp.specs.Rows.{FitRows}
use Rattle.n2_smp.proofs.Cores.{full_turned, entered_turned}
use Rattle.n2_smp.proofs.Rows.{row_fits, one_more}
use Rattle.n2_smp.proofs.turns.transfer.Goals as goal

pub returns-then-not-has_room-clause-made : goal.returns-then-not-has_room-clause-made
returns-then-not-has_room-clause-made c = λ b m at kept.
    full_turned b c.args.layout.now c.args.actor m c.args.core.now c.args.bus.now c.args.journal.now at kept c.args.request (c.requires.wanted b m at kept)
    c.full.new.self (sym c.has_room.ensures ∙ c.if-not-has_room.true) (λ d h. c.full.ensures b c.args.layout.now c.args.actor d m.world h)

pub returns-clause-made : goal.returns-clause-made
returns-clause-made c = λ b m at kept.
    let entered : c.add.new.self ≡ record { content = with_entry c.args.journal.now.content (record { actor = c.args.actor; local = c.args.core.now.clock.local; request = c.args.request; reply = c.transfer-reply.result }); limit = c.args.journal.now.limit } =
    c.add.ensures ∙ ap (λ (n : ℕ). record { content = with_entry c.args.journal.now.content (record { actor = c.args.actor; local = n; request = c.args.request; reply = c.transfer-reply.result }); limit = c.args.journal.now.limit }) c.since_transfer-local.ensures
    in
    let made = entered_turned b c.args.layout.now c.args.actor m c.args.core.now c.args.bus.now c.args.journal.now at kept c.args.request (c.requires.wanted b m at kept)
    c.answer-act.new.self c.transfer-reply.result c.answer-act.result (sym c.has_room.ensures ∙ c.if-not-has_room.false) c.transfer-reply.ensures.reply
    (λ row d h shared found runs wants replied. c.answer-act.ensures b c.args.actor row d m.world c.args.request h shared found runs wants replied)
    in
    subst (λ (x : BusState). IsMadeAt b c.args.layout.now c.args.actor c.answer-act.new.self x c.add.new.self m c.answer-act.result) (sym c.transfer-reply.ensures.after)
    (subst (λ (x : Limited). IsMadeAt b c.args.layout.now c.args.actor c.answer-act.new.self (bus_after c.args.bus.now c.args.actor c.args.request) x m c.answer-act.result) (sym entered) made)

pub returns-clause-rows : goal.returns-clause-rows
returns-clause-rows c = λ rows.
    let r = c.requires.ready in
    subst (λ (j : Limited). FitRows j.content.entries) (sym c.add.ensures)
    (one_more c.args.journal.now.content.entries _ rows
    (row_fits r.board r.map_of.valid c.args.bus.now r.stands.bus.wiring c.args.actor c.since_transfer-local.result c.args.request c.transfer-reply.result c.requires.proper c.have_types.ensures.request c.have_types.ensures.reply c.transfer-reply.ensures.reply))
