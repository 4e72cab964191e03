use Rattle.std.proofs.Common.{◌≡◌, ℕ, ◌<◌, length, slice_get, slice_set, Some, ap, sym, ◌∙◌, subst, arith}
use Rattle.n2_memory.specs.Memories.{Contents}
use Rattle.n2_runs.specs.Machine.{Machine, turn, is_over}
use Rattle.n2_runs.specs.FlatRun.{Flat}
use Rattle.n2_runs.specs.Along.{IsAlong, after}
use Rattle.n2_runs.specs.Knows.{IsBookKept}
use Rattle.n2_smp.specs.Standing.{Parts, StandsFor, answer_of}
use Rattle.n2_smp.proofs.Machines.{kept_after, agrees_after, ready, stands_at, core_stands, core_sound, event_stands, event_sound, indexed}
use Rattle.n2_smp.proofs.machine.Machine.turn.Goals as goal

-- ---- the device actor
pub invariant_of-self : goal.invariant_of-self
invariant_of-self c =
    let count = c.self.invariant.stands.count in
    let is : c.args.actor ≡ length c.self.inside.board.core = omega arith in
    event_sound _ c.self.invariant c.turn_of_devices.new.bus c.turn_of_devices.new.journal c.turn_of_devices.new.script c.turn_of_devices.result c.turn_of_devices.ensures.turned
    c.args.actor is c.turn_of_devices.ensures.reached c.turn_of_devices.ensures.tails c.turn_of_devices.ensures.rows

pub returns-then-actor-len-clause-stands : goal.returns-then-actor-len-clause-stands
returns-then-actor-len-clause-stands c =
    let count = c.self.invariant.stands.count in
    let is : c.args.actor ≡ length c.self.inside.board.core = omega arith in
    let made = event_stands _ c.self.invariant c.turn_of_devices.new.bus c.turn_of_devices.new.journal c.turn_of_devices.new.script c.turn_of_devices.result c.turn_of_devices.ensures.turned in
    subst (λ (v : Parts). (m : Machine) → StandsFor v m → IsBookKept v.board v.map m → StandsFor (record { board = c.self.inside.board; map = c.self.inside.layout; cores = c.self.inside.cores.items; bus = c.turn_of_devices.new.bus; journal = c.turn_of_devices.new.journal; script = c.turn_of_devices.new.script }) (turn v.board v.map m c.args.actor).machine)
    c.self.view_is (λ m h kept. made m c.args.actor is h kept)

pub returns-then-actor-len-clause-kept : goal.returns-then-actor-len-clause-kept
returns-then-actor-len-clause-kept c = subst (λ (v : Parts). (m : Machine) → IsBookKept v.board v.map m → IsBookKept v.board v.map (turn v.board v.map m c.args.actor).machine) c.self.view_is (λ m kept. kept_after _ c.self.invariant m c.args.actor kept)

pub returns-then-actor-len-clause-agrees : goal.returns-then-actor-len-clause-agrees
returns-then-actor-len-clause-agrees c =
    subst (λ (v : Parts). (first : Contents) (m : Machine) (f : Flat) → IsAlong v.board v.map first m f → IsAlong v.board v.map first (turn v.board v.map m c.args.actor).machine (after v.board v.map f (turn v.board v.map m c.args.actor).act))
    c.self.view_is (λ first m f h. agrees_after _ c.self.invariant first m f c.args.actor h)

-- ---- a core
pub turn_of_core-requires : goal.turn_of_core-requires
turn_of_core-requires c =
    let count = c.self.invariant.stands.count in
    let board = ap (λ (v : Parts). length v.board.core) c.self.view_is in
    let lt : c.args.actor < length c.self.inside.cores.items = omega arith in
    ready _ c.self.invariant c.args.actor c.index_mut.result.now (indexed c.self.inside.cores.items c.args.actor c.index_mut.result.now lt c.index_mut.ensures.value)

pub invariant_of-self-2 : goal.invariant_of-self-2
invariant_of-self-2 c =
    let count = c.self.invariant.stands.count in
    let board = ap (λ (v : Parts). length v.board.core) c.self.view_is in
    let lt : c.args.actor < length c.self.inside.cores.items = omega arith in
    core_sound _ c.self.invariant c.args.actor c.index_mut.result.now (indexed c.self.inside.cores.items c.args.actor c.index_mut.result.now lt c.index_mut.ensures.value)
    c.turn_of_core.new.core c.turn_of_core.new.bus c.turn_of_core.new.journal (λ b m at kept. (c.turn_of_core.ensures.turned b m at kept).stands) c.turn_of_core.ensures.tails c.turn_of_core.ensures.rows

pub returns-clause-stands : goal.returns-clause-stands
returns-clause-stands c =
    let count = c.self.invariant.stands.count in
    let board = ap (λ (v : Parts). length v.board.core) c.self.view_is in
    let lt : c.args.actor < length c.self.inside.cores.items = omega arith in
    let made = core_stands _ c.self.invariant c.args.actor c.index_mut.result.now (indexed c.self.inside.cores.items c.args.actor c.index_mut.result.now lt c.index_mut.ensures.value)
    c.turn_of_core.new.core c.turn_of_core.new.bus c.turn_of_core.new.journal (λ b m at kept. (c.turn_of_core.ensures.turned b m at kept).stands)
    in
    subst (λ (v : Parts). (m : Machine) → StandsFor v m → IsBookKept v.board v.map m → StandsFor (record { board = c.self.inside.board; map = c.self.inside.layout; cores = slice_set c.self.inside.cores.items c.args.actor c.turn_of_core.new.core; bus = c.turn_of_core.new.bus; journal = c.turn_of_core.new.journal; script = c.self.inside.script }) (turn v.board v.map m c.args.actor).machine)
    c.self.view_is made

pub returns-clause-answer : goal.returns-clause-answer
returns-clause-answer c =
    let count = c.self.invariant.stands.count in
    let board = ap (λ (v : Parts). length v.board.core) c.self.view_is in
    let lt : c.args.actor < length c.self.inside.cores.items = omega arith in
    let at = stands_at _ c.self.invariant c.args.actor c.index_mut.result.now (indexed c.self.inside.cores.items c.args.actor c.index_mut.result.now lt c.index_mut.ensures.value) in
    subst (λ (v : Parts). (m : Machine) → StandsFor v m → IsBookKept v.board v.map m → c.turn_of_core.result ≡ answer_of (is_over v.board m c.args.actor) (turn v.board v.map m c.args.actor).act) c.self.view_is
    (λ m h kept. (c.turn_of_core.ensures.turned c.self.inside.board m (at m h) kept).answer_is)

pub returns-clause-kept : goal.returns-clause-kept
returns-clause-kept c = subst (λ (v : Parts). (m : Machine) → IsBookKept v.board v.map m → IsBookKept v.board v.map (turn v.board v.map m c.args.actor).machine) c.self.view_is (λ m kept. kept_after _ c.self.invariant m c.args.actor kept)

pub returns-clause-agrees : goal.returns-clause-agrees
returns-clause-agrees c =
    subst (λ (v : Parts). (first : Contents) (m : Machine) (f : Flat) → IsAlong v.board v.map first m f → IsAlong v.board v.map first (turn v.board v.map m c.args.actor).machine (after v.board v.map f (turn v.board v.map m c.args.actor).act))
    c.self.view_is (λ first m f h. agrees_after _ c.self.invariant first m f c.args.actor h)
