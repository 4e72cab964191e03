use Rattle.std.proofs.Common.{◌≡◌, ℕ, ◌<◌, length, slice_get, Some, ap, sym, ◌∙◌, subst, arith}
use Rattle.std.specs.Prelude.{is_some}
use Rattle.n2_parts.specs.declared.stops.Stop.{Stop}
use Rattle.n2_runs.specs.Machine.{Machine, is_over}
use Rattle.n2_smp.specs.Standing.{Parts, StandsFor}
use Rattle.n2_smp.proofs.Machines.{indexed, core_over}
use Rattle.n2_smp.proofs.machine.Machine.over.Goals as goal

pub returns : goal.returns
returns c =
    let count = c.self.invariant.stands.count in
    let board = ap (λ (v : Parts). length v.board.core) c.self.view_is in
    let lt : c.args.actor < length c.self.inside.cores.items = omega arith in
    subst (λ (v : Parts). (m : Machine) → StandsFor v m → length m.cores ≡ length v.board.core → c.is_some.result ≡ is_over v.board m c.args.actor) c.self.view_is
    (λ m h many. c.is_some.ensures ∙ ap is_some c.stop.ensures ∙ core_over _ m h many c.args.actor c.index.result.now (indexed c.self.inside.cores.items c.args.actor c.index.result.now lt c.index.ensures))
