use Rattle.n2_text.proofs.Decimals.{numeral-decimal, decimal-numeral, digits-decimal}
use Rattle.n2_text.proofs.laws.numbers.Goals as goal

pub returns-clause-read : goal.returns-clause-read
returns-clause-read c = numeral-decimal

pub returns-clause-spelled : goal.returns-clause-spelled
returns-clause-spelled c = decimal-numeral

pub returns-clause-digits : goal.returns-clause-digits
returns-clause-digits c = digits-decimal
