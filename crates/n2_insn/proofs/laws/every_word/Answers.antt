use Rattle.n2_insn.proofs.Again.{again}
use Rattle.n2_insn.proofs.Fits.{number_found, valid_found, half_found}
use Rattle.n2_insn.proofs.laws.every_word.Goals as goal

pub returns-clause-number : goal.returns-clause-number
returns-clause-number c = number_found

pub returns-clause-valid : goal.returns-clause-valid
returns-clause-valid c = valid_found

pub returns-clause-half : goal.returns-clause-half
returns-clause-half c = half_found

pub returns-clause-again : goal.returns-clause-again
returns-clause-again c = λ word insn small e. again insn (valid_found word insn small e) (half_found word insn e)
