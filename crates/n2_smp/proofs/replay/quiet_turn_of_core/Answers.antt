use Rattle.std.proofs.Common.{◌≡◌, ap, sym, ◌∙◌}
use Rattle.n2_smp.proofs.Cores.{over_same, wants_same}
use Rattle.n2_smp.proofs.Quiet.{made_at, over_at, wants_at, full_at, runs_at}
use Rattle.n2_smp.proofs.replay.quiet_turn_of_core.Goals as goal

pub returns-in-Made-clause-quiet : goal.returns-in-Made-clause-quiet
returns-in-Made-clause-quiet c = λ b behind m at kept.
    made_at b c.args.layout.now c.args.actor m c.args.core.now behind c.args.journal.now at kept
    c.step.new.self c.step.result c.in-Made._act (λ row d h shared found. c.step.ensures.step b c.args.actor row d m.world h shared found) c.in-Made.is

pub returns-in-Over-clause-quiet : goal.returns-in-Over-clause-quiet
returns-in-Over-clause-quiet c = λ b behind m at kept.
    over_at b c.args.layout.now c.args.actor m c.args.core.now behind c.args.journal.now at kept
    c.step.new.self c.step.result (λ row d h shared found. c.step.ensures.step b c.args.actor row d m.world h shared found) c.in-Over.is

pub returns-then-has_room-clause-quiet : goal.returns-then-has_room-clause-quiet
returns-then-has_room-clause-quiet c = λ b behind m at kept.
    wants_at b c.args.layout.now c.args.actor m c.args.core.now behind c.args.journal.now at kept
    c.step.new.self c.step.result c.in-Wants._request (λ row d h shared found. c.step.ensures.step b c.args.actor row d m.world h shared found) c.in-Wants.is (sym c.has_room.ensures ∙ c.if-has_room.true)

pub returns-else-has_room-clause-quiet : goal.returns-else-has_room-clause-quiet
returns-else-has_room-clause-quiet c = λ b behind m at kept.
    full_at b c.args.layout.now c.args.actor m c.args.core.now behind c.args.journal.now at kept
    c.step.new.self c.step.result c.in-Wants._request (λ row d h shared found. c.step.ensures.step b c.args.actor row d m.world h shared found) c.in-Wants.is (sym c.has_room.ensures ∙ c.if-has_room.false)
    c.full.new.self (λ d h. c.full.ensures b c.args.layout.now c.args.actor d m.world h)

pub returns-in-Over-clause-same : goal.returns-in-Over-clause-same
returns-in-Over-clause-same c = λ e.
    let r = c.requires.1 in
    over_same r.board c.args.layout.now c.args.actor r.state c.args.core.now c.requires.0 c.args.journal.now r.stands r.kept
    c.step.new.self c.step.result (λ row d h shared found. c.step.ensures.step r.board c.args.actor row d r.state.world h shared found) c.in-Over.is

pub returns-then-has_room-clause-same : goal.returns-then-has_room-clause-same
returns-then-has_room-clause-same c = λ e.
    let r = c.requires.1 in
    wants_same r.board c.args.layout.now c.args.actor r.state c.args.core.now c.requires.0 c.args.journal.now r.stands r.kept
    c.step.new.self c.step.result c.in-Wants._request (λ row d h shared found. c.step.ensures.step r.board c.args.actor row d r.state.world h shared found) c.in-Wants.is

pub full-requires : goal.full-requires
full-requires c =
    let r = c.requires.1 in
    runs_at r.board c.args.layout.now c.args.actor r.state c.args.core.now c.requires.0 c.args.journal.now r.stands r.kept
    c.step.new.self c.step.result c.in-Wants._request (λ row d h shared found. c.step.ensures.step r.board c.args.actor row d r.state.world h shared found) c.in-Wants.is
