use Rattle.std.proofs.Common.{◌-◌, ◌<◌, ◌≤◌, length}
use Rattle.n2_watch.specs.Table.{run_at}
use Rattle.n2_watch.proofs.runs.up_to.Given as goal

abbrev pub invariant-loop-low : goal.invariant-loop-low
invariant-loop-low l = record {
  ordered : l.low ≤ l.high;
  within : l.high ≤ length l.runs;
  last : 0 < l.low → (run_at l.runs (l.low - 1)).first ≤ l.line;
  next : l.high < length l.runs → l.line < (run_at l.runs l.high).first;
}

abbrev pub decreases-loop-low : goal.decreases-loop-low
decreases-loop-low l = l.high - l.low
