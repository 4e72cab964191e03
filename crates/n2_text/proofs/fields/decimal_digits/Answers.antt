use Rattle.std.proofs.Common.{◌-◌, ◌^◌, sym, ◌∙◌, arith}
use Rattle.n2_text.proofs.Numerals.{digits_fault, digits_end}
use Rattle.n2_text.proofs.fields.decimal_digits.Goals as goal

pub returns-in_err-n : goal.returns-in_err-n
returns-in_err-n c =
    c.from_residual.ensures
    ∙ digits_fault (2 ^ 64 - 1) c.loop-c.n c.args.text.now c.loop-c.c-index c.loop-c-test.true (omega (arith, c.if-not-is_ascii_digit.ensures.cases)) (omega (arith, c.if-not-is_ascii_digit.ensures.cases)) (sym c.in_err-n.was ∙ c.with_digit.ensures)
    ∙ c.loop-c.invariant.1

pub returns : goal.returns
returns c = digits_end (2 ^ 64 - 1) c.loop-c.n c.args.text.now c.loop-c.c-index c.loop-c-test.false c.loop-c.invariant.0 ∙ c.loop-c.invariant.1
