use Rattle.std.proofs.Common.{◌≡◌, ◌+◌, ◌<◌, arith, ap, sym, ◌∙◌, length}
use Rattle.std.proofs.lemmas.Bool.Decides.{nat_tests}
use Rattle.n2_asm.specs.Rows.{first_row, rows_of}
use Rattle.n2_asm.specs.Seen.{survey_seen}
use Rattle.n2_asm.specs.Survey.{with_row, with_rows, survey_of}
use Rattle.n2_asm.proofs.RowSteps.{rows_next, rows_over, first_shorter}
use Rattle.n2_asm.proofs.survey.survey_rows.Goals as goal

pub loop-rest-smaller : goal.loop-rest-smaller
loop-rest-smaller c =
    let some : 0 < length c.loop-rest.rest.now = grind (arith, nat_tests) in
    omega (arith, first_shorter c.loop-rest.rest.now some, ap length c.first_row.ensures.rest)

pub loop-rest-preserved : goal.loop-rest-preserved
loop-rest-preserved c =
    let some : 0 < length c.loop-rest.rest.now = grind (arith, nat_tests) in
    let bs = c.loop-rest.rest.now in
    let row = c.loop-rest.row in
    let s = survey_seen c.loop-rest.survey in
    record {
      same =
          ap (λ r. with_rows (row + 1) (rows_of r) (survey_seen c.survey_row.new.survey)) c.first_row.ensures.rest
          ∙ ap (λ t. with_rows (row + 1) (rows_of (first_row bs).1) t) (c.in_ok-survey_row.ensures ∙ ap (λ b. with_row row b s) c.first_row.ensures.row)
          ∙ sym (ap (λ rows. with_rows row rows s) (rows_next bs some))
          ∙ c.loop-rest.invariant.same;
      few = omega (arith, first_shorter bs some, ap length c.first_row.ensures.rest);
    }

pub returns : goal.returns
unfolding survey_of
returns c =
    let over : length c.loop-rest.rest.now ≡ 0 = grind (arith, nat_tests) in
    sym (ap (λ rows. with_rows c.loop-rest.row rows (survey_seen c.loop-rest.survey)) (rows_over c.loop-rest.rest.now over)) ∙ c.loop-rest.invariant.same
