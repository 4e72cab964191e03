use Rattle.std.proofs.Common.{◌≡◌, ℕ, ◌<◌, length, slice_get, Some, ap, sym, ◌∙◌, subst, arith}
use Rattle.n2_front.specs.Core.{Core, stop_of}
use Rattle.n2_runs.specs.Machine.{Machine}
use Rattle.n2_smp.specs.Standing.{Parts, StandsFor}
use Rattle.n2_smp.proofs.Machines.{indexed}
use Rattle.n2_smp.proofs.machine.Machine.stop.Goals as goal

pub returns : goal.returns
returns c =
    let count = c.self.invariant.stands.count in
    let board = ap (λ (v : Parts). length v.board.core) c.self.view_is in
    let lt : c.args.core < length c.self.inside.cores.items = omega arith in
    subst (λ (v : Parts). (m : Machine) (d : Core) → StandsFor v m → slice_get m.cores c.args.core ≡ Some d → c.stop.result ≡ stop_of d) c.self.view_is
    (λ m d h there. c.stop.ensures ∙ (h.cores c.args.core c.index.result.now d (indexed c.self.inside.cores.items c.args.core c.index.result.now lt c.index.ensures) there).stop)
