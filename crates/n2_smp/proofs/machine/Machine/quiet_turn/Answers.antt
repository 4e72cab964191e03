use Rattle.std.proofs.Common.{◌≡◌, ℕ, ◌<◌, length, slice_get, slice_set, Some, ap, sym, ◌∙◌, subst, arith}
use Rattle.n2_runs.specs.Machine.{Machine}
use Rattle.n2_runs.specs.Knows.{IsBookKept}
use Rattle.n2_runs.specs.Replay.{quiet_turn}
use Rattle.n2_smp.specs.Standing.{Parts, StandsFor}
use Rattle.n2_smp.specs.Replayed.{Follows}
use Rattle.n2_smp.proofs.Machines.{ready, stands_at, indexed}
use Rattle.n2_smp.proofs.Following.{is_off, no_core_quiet, quiet_sound, quiet_follows}
use Rattle.n2_smp.proofs.machine.Machine.quiet_turn.Goals as goal

pub returns-then-actor-len-clause-follows : goal.returns-then-actor-len-clause-follows
returns-then-actor-len-clause-follows c =
    let count = c.self.invariant.stands.count in
    let board = ap (λ (v : Parts). length v.board.core) c.self.view_is in
    λ m h kept. is_off c.args.self.now (quiet_turn c.args.self.now.board c.args.self.now.map m c.args.actor) m (no_core_quiet c.args.self.now.board c.args.self.now.map m kept.count c.args.actor (omega arith)) h kept

pub quiet_turn_of_core-requires : goal.quiet_turn_of_core-requires
quiet_turn_of_core-requires c =
    let lt : c.args.actor < length c.self.inside.cores.items = omega arith in
    (c.self.inside.bus, ready _ c.self.invariant c.args.actor c.index_mut.result.now (indexed c.self.inside.cores.items c.args.actor c.index_mut.result.now lt c.index_mut.ensures.value))

pub invariant_of-self : goal.invariant_of-self
invariant_of-self c =
    let lt : c.args.actor < length c.self.inside.cores.items = omega arith in
    quiet_sound _ c.self.invariant c.args.actor c.index_mut.result.now (indexed c.self.inside.cores.items c.args.actor c.index_mut.result.now lt c.index_mut.ensures.value)
    c.quiet_turn_of_core.new.core c.quiet_turn_of_core.result c.quiet_turn_of_core.ensures.quiet c.quiet_turn_of_core.ensures.same

pub returns-clause-follows : goal.returns-clause-follows
returns-clause-follows c =
    let lt : c.args.actor < length c.self.inside.cores.items = omega arith in
    let found = indexed c.self.inside.cores.items c.args.actor c.index_mut.result.now lt c.index_mut.ensures.value in
    let made = quiet_follows _ c.self.invariant c.args.actor c.index_mut.result.now found
    c.quiet_turn_of_core.new.core c.quiet_turn_of_core.result c.quiet_turn_of_core.ensures.quiet
    in
    subst (λ (v : Parts). (m : Machine) → StandsFor v m → IsBookKept v.board v.map m → Follows (record { board = c.self.inside.board; map = c.self.inside.layout; cores = slice_set c.self.inside.cores.items c.args.actor c.quiet_turn_of_core.new.core; bus = c.self.inside.bus; journal = c.self.inside.journal; script = c.self.inside.script }) c.quiet_turn_of_core.result (quiet_turn v.board v.map m c.args.actor)) c.self.view_is
    (λ m h kept. made m h kept (stands_at _ c.self.invariant c.args.actor c.index_mut.result.now found m h) c.quiet_turn_of_core.ensures.same)
