use Rattle.std.proofs.Common.{◌≡◌, ◌+◌, ◌≤◌, length}
use Rattle.n2_asm.specs.Rows.{rows_of}
use Rattle.n2_asm.specs.Seen.{survey_seen}
use Rattle.n2_asm.specs.Survey.{with_rows, nothing_surveyed}
use Rattle.n2_asm.proofs.survey.survey_rows.Given as goal

abbrev pub invariant-loop-rest : goal.invariant-loop-rest
invariant-loop-rest l = record {
  same : with_rows l.row (rows_of l.rest) (survey_seen l.survey) ≡ with_rows 1 (rows_of l.source) nothing_surveyed;
  few : l.row + length l.rest ≤ length l.source + 1;
}

abbrev pub decreases-loop-rest : goal.decreases-loop-rest
decreases-loop-rest l = length l.rest
