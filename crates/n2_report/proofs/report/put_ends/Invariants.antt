use Rattle.std.proofs.Common.{◌≡◌, ◌++◌, drop}
use Rattle.n2_report.specs.Report.{ends_text}
use Rattle.n2_report.proofs.report.put_ends.Given as goal

abbrev pub invariant-loop-k : goal.invariant-loop-k
invariant-loop-k l = l.out.items ++ ends_text l.k (drop l.k l.cores) (drop l.k l.turns) ≡ l.fn.out.items ++ ends_text 0 l.cores l.turns
