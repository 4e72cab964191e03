use Rattle.n2_exec.proofs.Fetched.{outside, inside, word-proper, word-follows, word-bits, word-words, word-address}
use Rattle.n2_exec.proofs.laws.every_fetched_word.Goals as goal

pub returns-clause-outside : goal.returns-clause-outside
returns-clause-outside c = outside

pub returns-clause-inside : goal.returns-clause-inside
returns-clause-inside c = inside

pub returns-clause-proper : goal.returns-clause-proper
returns-clause-proper c = word-proper

pub returns-clause-next : goal.returns-clause-next
returns-clause-next c = word-follows

pub returns-clause-status : goal.returns-clause-status
returns-clause-status c = word-bits

pub returns-clause-words : goal.returns-clause-words
returns-clause-words c = word-words

pub returns-clause-address : goal.returns-clause-address
returns-clause-address c = word-address
