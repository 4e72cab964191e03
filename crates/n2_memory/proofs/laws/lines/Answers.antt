use Rattle.std.proofs.Common.{List, ℕ, ap}
use Rattle.n2_word.specs.Lines.{line, read_in_line}
use Rattle.n2_memory.specs.Memories.{first_word}
use Rattle.n2_memory.proofs.Lines.{word_of_eight}
use Rattle.n2_memory.proofs.Writes.{length-line_at, same_line, other_line, full-with_line}
use Rattle.n2_memory.proofs.laws.lines.Goals as goal

pub returns-clause-words : goal.returns-clause-words
returns-clause-words c = λ m l i lt. word_of_eight m.words (first_word m l) i lt

pub returns-clause-eight : goal.returns-clause-eight
returns-clause-eight c = length-line_at

pub returns-clause-there : goal.returns-clause-there
returns-clause-there c = same_line

pub returns-clause-read : goal.returns-clause-read
returns-clause-read c = λ m address width words full here long. ap (λ (ws : List ℕ). read_in_line ws address width) (same_line m (line address) words full here long)

pub returns-clause-other : goal.returns-clause-other
returns-clause-other c = other_line

pub returns-clause-full : goal.returns-clause-full
returns-clause-full c = full-with_line
