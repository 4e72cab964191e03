use Rattle.std.proofs.Common.{ap, ◌∙◌}
use Rattle.n2_report.specs.Stops.{status_of}
use Rattle.n2_report.proofs.RunEnds.{same_stops}
use Rattle.n2_report.proofs.of_run.run_status.Goals as goal

pub returns-clause-status : goal.returns-clause-status
returns-clause-status c = λ m h count.
    c.status.ensures ∙ ap status_of (c.deref.ensures.value ∙ c.in_ok-stops.ensures ∙ same_stops c.args.board.now c.args.layout.now c.args.ran.now m h count)
