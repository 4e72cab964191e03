use Rattle.std.proofs.Common.{ap, sym, ◌+◌, ◌∙◌, drop, map}
use Rattle.std.specs.Prelude.{option_map}
use Rattle.n2_text.specs.Fields.{digit_value, hex_digits_after}
use Rattle.n2_source.specs.Numbers.{capped, lowered}
use Rattle.n2_source.proofs.DigitSteps.{hex_more}
use Rattle.n2_source.proofs.numbers.hexadecimal.Goals as goal

pub loop-c-preserved : goal.loop-c-preserved
loop-c-preserved c = record {
  small = c.capped-n.ensures.small;
  same =
      ap (λ k. option_map capped (hex_digits_after k (map lowered (drop (c.loop-c.c-index + 1) c.args.word.now)))) c.capped-n.ensures.value
      ∙ hex_more c.loop-c.n _ c.args.word.now c.loop-c.c-index c.loop-c-test.true (sym c.in_ok-digit_value.was ∙ c.digit_value.ensures.value ∙ ap digit_value c.lowered.ensures) ∙ c.loop-c.invariant.same;
}
