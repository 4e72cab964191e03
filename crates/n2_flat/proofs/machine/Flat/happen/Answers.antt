use Rattle.std.proofs.Common.{ℕ, ◌≤◌, length, IsTrue, ap, sym, subst, arith, ◌∙◌}
use Rattle.n2_bus.specs.Wiring.{wiring_of, proper}
use Rattle.n2_bus.specs.Transfer.{request_for}
use Rattle.n2_bus.specs.declared.request.Request.{Request}
use Rattle.n2_parts.specs.declared.stops.Act.TheVariants.{Device}
use Rattle.n2_runs.specs.FlatRun.{act}
use Rattle.n2_flat.specs.State.{State, IsWhole, machine_of, common_after}
use Rattle.n2_flat.proofs.Whole.{event_act, event_whole, few_cores}
use Rattle.n2_flat.proofs.machine.Flat.happen.Goals as goal

pub overflow_cast-actor : goal.overflow_cast-actor
overflow_cast-actor c =
    let few : length c.self.inside.board.core ≤ 8 = subst (λ (x : State). length x.board.core ≤ 8) (sym c.self.view_is) (few_cores c.args.layout.now c.args.self.now c.requires.whole) in
    let e = c.len-actor.ensures in
    omega arith

pub returns-clause-done : goal.returns-clause-done
returns-clause-done c =
    let i = c.self.inside in
    let s : State = record { board = i.board; common = i.common; cores = i.cores.items; recent = i.recent } in
    let h : IsWhole c.args.layout.now s = subst (λ (x : State). IsWhole c.args.layout.now x) (sym c.self.view_is) c.requires.whole in
    event_act c.args.layout.now s c.args.event c.transfer.new.self h
    (c.transfer.ensures.after
    ∙ ap (λ (a : ℕ). common_after s.common.wiring a s.common.world c.request_for.result) c.len-actor.ensures
    ∙ ap (λ (r : Request). common_after s.common.wiring (length s.board.core) s.common.world r) c.request_for.ensures)
    ∙ ap (λ (x : State). act x.board c.args.layout.now (machine_of x) (Device c.args.event)) c.self.view_is

pub returns-clause-whole : goal.returns-clause-whole
returns-clause-whole c =
    let i = c.self.inside in
    let s : State = record { board = i.board; common = i.common; cores = i.cores.items; recent = i.recent } in
    let h : IsWhole c.args.layout.now s = subst (λ (x : State). IsWhole c.args.layout.now x) (sym c.self.view_is) c.requires.whole in
    event_whole c.args.layout.now s c.args.event c.transfer.new.self h
    (subst (λ (x : State). IsTrue (proper (wiring_of x.board) (length x.board.core) (request_for c.args.event))) (sym c.self.view_is) c.requires.proper)
    (c.transfer.ensures.after
    ∙ ap (λ (a : ℕ). common_after s.common.wiring a s.common.world c.request_for.result) c.len-actor.ensures
    ∙ ap (λ (r : Request). common_after s.common.wiring (length s.board.core) s.common.world r) c.request_for.ensures)
