use Rattle.std.proofs.Common.{◌≡◌, ◌+◌, ◌≤◌, length}
use Rattle.n2_asm.specs.Rows.{rows_of}
use Rattle.n2_asm.specs.Seen.{survey_seen, output_seen}
use Rattle.n2_asm.specs.Sources.{rows_put, no_output}
use Rattle.n2_asm.proofs.output.put_rows.Given as goal

abbrev pub invariant-loop-rest : goal.invariant-loop-rest
invariant-loop-rest l = record {
  same : rows_put (survey_seen l.survey) l.n (rows_of l.rest) (output_seen l.out) ≡ rows_put (survey_seen l.survey) 1 (rows_of l.source) no_output;
  few : l.n + length l.rest ≤ length l.source + 1;
}

abbrev pub decreases-loop-rest : goal.decreases-loop-rest
decreases-loop-rest l = length l.rest
