use Rattle.std.proofs.Common.{◌≡◌, ◌-◌, length}
use Rattle.n2_statement.specs.Statements.{labels_within}
use Rattle.n2_asm.specs.Seen.{survey_seen}
use Rattle.n2_asm.specs.Survey.{with_labels}
use Rattle.n2_asm.proofs.survey.name_labels.Given as goal

abbrev pub invariant-loop-i : goal.invariant-loop-i
invariant-loop-i l = with_labels l.row (labels_within (length l.bytes - l._i) l.rest) l.value (survey_seen l.survey) ≡ with_labels l.row (labels_within (length l.bytes) l.bytes) l.value (survey_seen l.initial.survey)
