use Rattle.n2_bus.proofs.CoreLines.{lines_below}
use Rattle.n2_bus.proofs.Ranges.{start_holds, next_words, reply_words}
use Rattle.n2_bus.proofs.laws.words.Goals as goal

pub returns-clause-start : goal.returns-clause-start
returns-clause-start c = start_holds

pub returns-clause-next : goal.returns-clause-next
returns-clause-next c = next_words

pub returns-clause-reply : goal.returns-clause-reply
returns-clause-reply c = reply_words

pub returns-clause-lines : goal.returns-clause-lines
returns-clause-lines c = lines_below
