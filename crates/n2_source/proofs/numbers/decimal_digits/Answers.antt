use Rattle.std.proofs.Common.{arith, ◌+◌, ap, ◌∙◌, drop, sym}
use Rattle.std.specs.Prelude.{option_map}
use Rattle.n2_text.specs.Fields.{digits_after}
use Rattle.n2_source.specs.Numbers.{capped}
use Rattle.n2_source.proofs.DigitSteps.{decimal_more}
use Rattle.n2_source.proofs.numbers.decimal_digits.Goals as goal

pub loop-c-preserved : goal.loop-c-preserved
loop-c-preserved c = record {
  small = c.capped-n.ensures.small;
  same =
      ap (λ k. option_map capped (digits_after k (drop (c.loop-c.c-index + 1) c.args.word.now))) (rw c.from.ensures at c.capped-n.ensures.value)
      ∙ decimal_more c.loop-c.n c.args.word.now c.loop-c.c-index c.loop-c-test.true (sym c.is_digit.ensures ∙ c.if-not-is_digit.false) ∙ c.loop-c.invariant.same;
}
