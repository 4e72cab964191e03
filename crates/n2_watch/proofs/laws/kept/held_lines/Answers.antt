use Rattle.n2_watch.proofs.KeptEvents.{dirty_may, stale_may}
use Rattle.n2_watch.proofs.laws.kept.held_lines.Goals as goal

pub returns-clause-dirty : goal.returns-clause-dirty
returns-clause-dirty c = dirty_may

pub returns-clause-stale : goal.returns-clause-stale
returns-clause-stale c = stale_may
