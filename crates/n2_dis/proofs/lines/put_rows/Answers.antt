use Rattle.std.proofs.Common.{◌≡◌, ◌<◌, ◌++◌, length, refl, ap, ◌+◌, ◌%◌, ◌∙◌, arith}
use Rattle.std.proofs.lemmas.Bool.Decides.{nat_tests}
use Rattle.n2_dis.specs.Texts.{rows_text}
use Rattle.n2_dis.proofs.Rows.{rows_more}
use Rattle.n2_dis.proofs.lines.put_rows.Goals as goal

pub loop-rest-preserved : goal.loop-rest-preserved
loop-rest-preserved c =
    let some : 0 < length c.loop-rest.rest.now = grind (arith, nat_tests) in
    ap (λ xs. xs ++ rows_text ((c.loop-rest.here + 4) % 4294967296) c.first_word-word.result.1.now) c.in_ok-put_row.ensures
    ∙ rows_more c.loop-rest.out.items c.loop-rest.here _ _ c.loop-rest.rest.now _ _ some c.first_word-word.ensures.word c.first_word-word.ensures.rest refl c.loop-rest.invariant
