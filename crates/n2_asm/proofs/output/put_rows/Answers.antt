use Rattle.std.proofs.Common.{◌≡◌, ◌+◌, ◌<◌, arith, ap, sym, ◌∙◌, length}
use Rattle.std.proofs.lemmas.Bool.Decides.{nat_tests}
use Rattle.n2_asm.specs.Rows.{first_row, rows_of}
use Rattle.n2_asm.specs.Seen.{survey_seen, output_seen}
use Rattle.n2_asm.specs.Sources.{row_put, rows_put, output_of}
use Rattle.n2_asm.proofs.RowSteps.{rows_over, first_shorter, put_more, put_fault}
use Rattle.n2_asm.proofs.output.put_rows.Goals as goal

pub loop-rest-smaller : goal.loop-rest-smaller
loop-rest-smaller c =
    let some : 0 < length c.loop-rest.rest.now = grind (arith, nat_tests) in
    omega (arith, first_shorter c.loop-rest.rest.now some, ap length c.first_row.ensures.rest)

pub loop-rest-preserved : goal.loop-rest-preserved
loop-rest-preserved c =
    let some : 0 < length c.loop-rest.rest.now = grind (arith, nat_tests) in
    let s = survey_seen c.args.survey.now in
    record {
      same =
          ap (λ r. rows_put s (c.loop-rest.n + 1) (rows_of r) (output_seen c.take_row.new.out)) c.first_row.ensures.rest
          ∙ put_more s c.loop-rest.n c.loop-rest.rest.now (output_seen c.loop-rest.out) _ _ some (sym (ap (λ b. row_put s c.loop-rest.n b (output_seen c.loop-rest.out)) c.first_row.ensures.row) ∙ c.in-Ok.ensures.ok) c.loop-rest.invariant.same;
      few = omega (arith, first_shorter c.loop-rest.rest.now some, ap length c.first_row.ensures.rest);
    }

pub returns-in-Err-clause-err : goal.returns-in-Err-clause-err
unfolding output_of
returns-in-Err-clause-err c = λ other.
    let some : 0 < length c.loop-rest.rest.now = grind (arith, nat_tests) in
    let s = survey_seen c.args.survey.now in
    put_fault s c.loop-rest.n c.loop-rest.rest.now (output_seen c.loop-rest.out) _ _ some (sym (ap (λ b. row_put s c.loop-rest.n b (output_seen c.loop-rest.out)) c.first_row.ensures.row) ∙ c.in-Err.ensures.err other) c.loop-rest.invariant.same

pub returns-clause-ok : goal.returns-clause-ok
unfolding output_of
returns-clause-ok c =
    let over : length c.loop-rest.rest.now ≡ 0 = grind (arith, nat_tests) in
    sym c.loop-rest.invariant.same ∙ ap (λ rows. rows_put (survey_seen c.args.survey.now) c.loop-rest.n rows (output_seen c.loop-rest.out)) (rows_over c.loop-rest.rest.now over)
