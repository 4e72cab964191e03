use Rattle.n2_exec.proofs.Sizes.{small_extended}
use Rattle.n2_exec.proofs.Words.{words, addresses, passed-words, loaded-words, raised-words, latched-words, reset-words}
use Rattle.n2_exec.proofs.laws.every_word.Goals as goal

pub returns-clause-effect : goal.returns-clause-effect
returns-clause-effect c = words

pub returns-clause-address : goal.returns-clause-address
returns-clause-address c = addresses

pub returns-clause-passed : goal.returns-clause-passed
returns-clause-passed c = passed-words

pub returns-clause-loaded : goal.returns-clause-loaded
returns-clause-loaded c = loaded-words

pub returns-clause-raised : goal.returns-clause-raised
returns-clause-raised c = raised-words

pub returns-clause-latched : goal.returns-clause-latched
returns-clause-latched c = latched-words

pub returns-clause-reset : goal.returns-clause-reset
returns-clause-reset c = reset-words

pub returns-clause-extended : goal.returns-clause-extended
returns-clause-extended c = small_extended
