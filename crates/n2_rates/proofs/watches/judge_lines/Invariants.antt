use Rattle.std.proofs.Common.{◌<◌}
use Rattle.n2_rates.proofs.watches.judge_lines.Given as goal

abbrev pub invariant-judgements : goal.invariant-judgements
invariant-judgements l = l.at < l.lines
