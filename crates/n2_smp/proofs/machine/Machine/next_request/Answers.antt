use Rattle.std.proofs.Common.{◌≡◌, ℕ, ◌<◌, length, drop, Some, None, ap, sym, ◌∙◌, subst, arith}
use Rattle.n2_bus.specs.declared.request.Request.{Request}
use Rattle.n2_runs.specs.Machine.{Machine}
use Rattle.n2_runs.specs.Knows.{IsBookKept}
use Rattle.n2_smp.specs.Scripts.{left}
use Rattle.n2_smp.specs.Standing.{Parts, StandsFor}
use Rattle.n2_smp.specs.Replayed.{requested}
use Rattle.n2_smp.proofs.Machines.{indexed}
use Rattle.n2_smp.proofs.Events.{none_first, some_first}
use Rattle.n2_smp.proofs.Asking.{no_room, no_actor, no_event, no_transfer, some_event, some_transfer, room_is}
use Rattle.n2_smp.proofs.machine.Machine.next_request.Goals as goal

pub returns-then-not-has_room-clause-request : goal.returns-then-not-has_room-clause-request
returns-then-not-has_room-clause-request c =
    subst (λ (v : Parts). (m : Machine) → StandsFor v m → IsBookKept v.board v.map m → None ≡ requested v.board v.map m c.args.actor) c.self.view_is
    (λ m h kept. sym (no_room c.self.inside.board c.self.inside.layout m kept.count c.args.actor (room_is _ m h ∙ sym c.has_room.ensures ∙ c.if-not-has_room.true)))

pub returns-then-actor-len-clause-request : goal.returns-then-actor-len-clause-request
returns-then-actor-len-clause-request c =
    let count = c.self.invariant.stands.count in
    let past : length c.self.inside.board.core < c.args.actor = omega arith in
    subst (λ (v : Parts). (m : Machine) → StandsFor v m → IsBookKept v.board v.map m → None ≡ requested v.board v.map m c.args.actor) c.self.view_is
    (λ m h kept. sym (no_actor c.self.inside.board c.self.inside.layout m kept.count c.args.actor past))

pub returns-in_err-event-clause-request : goal.returns-in_err-event-clause-request
returns-in_err-event-clause-request c =
    let count = c.self.invariant.stands.count in
    let is : length c.self.inside.board.core ≡ c.args.actor = omega arith in
    subst (λ (v : Parts). (m : Machine) → StandsFor v m → IsBookKept v.board v.map m → c.from_residual.result ≡ requested v.board v.map m c.args.actor) c.self.view_is
    (λ m h kept. c.from_residual.ensures ∙ sym (no_event c.self.inside.board c.self.inside.layout m kept.count c.args.actor is (sym h.script ∙ none_first (left c.self.inside.board c.self.inside.script) (sym c.event.ensures.next ∙ c.in_err-event.was))))

pub returns-then-actor-len-2-clause-request : goal.returns-then-actor-len-2-clause-request
returns-then-actor-len-2-clause-request c =
    let count = c.self.invariant.stands.count in
    let is : length c.self.inside.board.core ≡ c.args.actor = omega arith in
    subst (λ (v : Parts). (m : Machine) → StandsFor v m → IsBookKept v.board v.map m → Some c.request_of.result ≡ requested v.board v.map m c.args.actor) c.self.view_is
    (λ m h kept. ap (λ (r : Request). Some r) c.request_of.ensures ∙ sym (some_event c.self.inside.board c.self.inside.layout m kept.count c.args.actor c.in_ok-event.event (drop 1 (left c.self.inside.board c.self.inside.script)) is (sym h.script ∙ some_first (left c.self.inside.board c.self.inside.script) c.in_ok-event.event (sym c.event.ensures.next ∙ c.in_ok-event.was)) (room_is _ m h ∙ sym c.has_room.ensures ∙ c.if-not-has_room.false)))

pub returns-in-Transfer-clause-request : goal.returns-in-Transfer-clause-request
returns-in-Transfer-clause-request c =
    let count = c.self.invariant.stands.count in
    let lt : c.args.actor < length c.self.inside.cores.items = omega arith in
    let within : c.args.actor < length c.self.inside.board.core = omega arith in
    let found = indexed c.self.inside.cores.items c.args.actor c.index.result.now lt c.index.ensures in
    subst (λ (v : Parts). (m : Machine) → StandsFor v m → IsBookKept v.board v.map m → Some c.in-Transfer.request ≡ requested v.board v.map m c.args.actor) c.self.view_is
    (λ m h kept. sym (some_transfer c.self.inside.board c.self.inside.layout m kept.count c.args.actor c.plan.result c.in-Transfer.request (λ row d there core. c.plan.ensures.planned c.self.inside.board c.args.actor row d m.world (h.cores c.args.actor c.index.result.now d found core) there) within c.in-Transfer.is (room_is _ m h ∙ sym c.has_room.ensures ∙ c.if-not-has_room.false)))

pub returns-in-Local-clause-request : goal.returns-in-Local-clause-request
returns-in-Local-clause-request c =
    let count = c.self.invariant.stands.count in
    let lt : c.args.actor < length c.self.inside.cores.items = omega arith in
    let within : c.args.actor < length c.self.inside.board.core = omega arith in
    let found = indexed c.self.inside.cores.items c.args.actor c.index.result.now lt c.index.ensures in
    subst (λ (v : Parts). (m : Machine) → StandsFor v m → IsBookKept v.board v.map m → None ≡ requested v.board v.map m c.args.actor) c.self.view_is
    (λ m h kept. sym (no_transfer c.self.inside.board c.self.inside.layout m kept.count c.args.actor c.plan.result (λ row d there core. c.plan.ensures.planned c.self.inside.board c.args.actor row d m.world (h.cores c.args.actor c.index.result.now d found core) there) within (λ r e. let z = sym c.in-Local.is ∙ e in absurd (cc))))

pub returns-in-Over-clause-request : goal.returns-in-Over-clause-request
returns-in-Over-clause-request c =
    let count = c.self.invariant.stands.count in
    let lt : c.args.actor < length c.self.inside.cores.items = omega arith in
    let within : c.args.actor < length c.self.inside.board.core = omega arith in
    let found = indexed c.self.inside.cores.items c.args.actor c.index.result.now lt c.index.ensures in
    subst (λ (v : Parts). (m : Machine) → StandsFor v m → IsBookKept v.board v.map m → None ≡ requested v.board v.map m c.args.actor) c.self.view_is
    (λ m h kept. sym (no_transfer c.self.inside.board c.self.inside.layout m kept.count c.args.actor c.plan.result (λ row d there core. c.plan.ensures.planned c.self.inside.board c.args.actor row d m.world (h.cores c.args.actor c.index.result.now d found core) there) within (λ r e. let z = sym c.in-Over.is ∙ e in absurd (cc))))
