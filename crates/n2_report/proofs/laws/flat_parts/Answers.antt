use Rattle.n2_memory.specs.Start as first
use Rattle.n2_runs.specs.Machine.{start, run, acts}
use Rattle.n2_runs.specs.FlatRun.{flat_start, flat}
use Rattle.n2_runs.proofs.Turns.{run_keeps}
use Rattle.n2_runs.proofs.Begins.{starts_along}
use Rattle.n2_runs.proofs.Agreed.{agreed}
use Rattle.n2_report.proofs.Sent.{same_flat_part}
use Rattle.n2_report.proofs.laws.flat_parts.Goals as goal

pub returns : goal.returns
returns c = λ b images map' order valid is long fits sized.
    same_flat_part b images map' order valid is long
    (agreed b map' (first.start b.memory images) (run b map' (start b images) order) (flat b map' (flat_start b images) (acts b map' (start b images) order))
    (run_keeps b images map' valid is (first.start b.memory images) order (start b images) (flat_start b images) (starts_along b images map' valid long fits sized)))
