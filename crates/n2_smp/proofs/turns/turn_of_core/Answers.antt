use Rattle.std.proofs.Common.{◌≡◌, ℕ, sym, ap, ◌∙◌, refl, subst}
use Rattle.n2_cpu.specs.declared.state.State.{State}
use Rattle.n2_smp.specs.Standing.{StandsAt, IsReady, IsWanted}
use Rattle.n2_smp.proofs.Cores.{made_turned, over_turned, over_same, wants_same, is_wanted, is_proper, wants_turned}
use Rattle.n2_smp.proofs.turns.turn_of_core.Goals as goal

pub returns-in-Made-clause-turned : goal.returns-in-Made-clause-turned
returns-in-Made-clause-turned c = λ b m at kept.
    made_turned b c.args.layout.now c.args.actor m c.args.core.now c.args.bus.now c.args.journal.now at kept
    c.step.new.self c.step.result c.in-Made.act c.made.result (λ row d h shared found. c.step.ensures.step b c.args.actor row d m.world h shared found) c.in-Made.is c.made.ensures

pub returns-in-Over-clause-turned : goal.returns-in-Over-clause-turned
returns-in-Over-clause-turned c = λ b m at kept.
    over_turned b c.args.layout.now c.args.actor m c.args.core.now c.args.bus.now c.args.journal.now at kept
    c.step.new.self c.step.result (λ row d h shared found. c.step.ensures.step b c.args.actor row d m.world h shared found) c.in-Over.is

pub returns-in-Over-clause-over : goal.returns-in-Over-clause-over
returns-in-Over-clause-over c = λ e.
    let r = c.requires in (
      over_same r.board c.args.layout.now c.args.actor r.state c.args.core.now c.args.bus.now c.args.journal.now r.stands r.kept
          c.step.new.self c.step.result (λ row d h shared found. c.step.ensures.step r.board c.args.actor row d r.state.world h shared found) c.in-Over.is,
      refl,
      refl,
    )

pub returns-in-Wants-clause-turned : goal.returns-in-Wants-clause-turned
returns-in-Wants-clause-turned c = λ b m at kept.
    let r = c.requires in
    let same : c.step.new.self ≡ c.args.core.now = wants_same r.board c.args.layout.now c.args.actor r.state c.args.core.now c.args.bus.now c.args.journal.now r.stands r.kept
    c.step.new.self c.step.result c.in-Wants.request (λ row d h shared found. c.step.ensures.step r.board c.args.actor row d r.state.world h shared found) c.in-Wants.is
    in
    wants_turned b c.args.layout.now c.args.actor m c.args.core.now c.args.bus.now c.args.journal.now at kept
    c.step.new.self c.step.result c.in-Wants.request (λ row d h shared found. c.step.ensures.step b c.args.actor row d m.world h shared found) c.in-Wants.is
    c.transfer.new.core c.transfer.new.bus c.transfer.new.journal c.transfer.result c.made-in-Wants.result
    (c.transfer.ensures.made b m (subst (λ (s : State). StandsAt b c.args.layout.now c.args.actor s c.args.bus.now c.args.journal.now m) (sym same) at) kept)
    c.made-in-Wants.ensures

pub transfer-requires-clause-ready : goal.transfer-requires-clause-ready
transfer-requires-clause-ready c =
    let r = c.requires in
    let same : c.step.new.self ≡ c.args.core.now = wants_same r.board c.args.layout.now c.args.actor r.state c.args.core.now c.args.bus.now c.args.journal.now r.stands r.kept
    c.step.new.self c.step.result c.in-Wants.request (λ row d h shared found. c.step.ensures.step r.board c.args.actor row d r.state.world h shared found) c.in-Wants.is
    in
    subst (λ (s : State). IsReady c.args.layout.now c.args.actor s c.args.bus.now c.args.journal.now) (sym same) r

pub transfer-requires-clause-wanted : goal.transfer-requires-clause-wanted
transfer-requires-clause-wanted c = λ b m at kept.
    let r = c.requires in
    let same : c.step.new.self ≡ c.args.core.now = wants_same r.board c.args.layout.now c.args.actor r.state c.args.core.now c.args.bus.now c.args.journal.now r.stands r.kept
    c.step.new.self c.step.result c.in-Wants.request (λ row d h shared found. c.step.ensures.step r.board c.args.actor row d r.state.world h shared found) c.in-Wants.is
    in
    is_wanted b c.args.layout.now c.args.actor m c.args.core.now c.args.bus.now c.args.journal.now (subst (λ (s : State). StandsAt b c.args.layout.now c.args.actor s c.args.bus.now c.args.journal.now m) same at) kept
    c.step.new.self c.step.result c.in-Wants.request (λ row d h shared found. c.step.ensures.step b c.args.actor row d m.world h shared found) c.in-Wants.is

pub transfer-requires-clause-proper : goal.transfer-requires-clause-proper
transfer-requires-clause-proper c =
    let r = c.requires in
    is_proper r.board c.args.layout.now c.args.actor r.state c.args.core.now c.args.bus.now c.args.journal.now r.stands r.kept
    c.step.new.self c.in-Wants.request (λ row d h found. c.step.ensures.proper r.board c.args.actor row d r.state.world c.in-Wants.request h found c.in-Wants.is)
