use Rattle.n2_memory.proofs.WordRanges.{line_words, read_below, put_words, stored_word, start_words}
use Rattle.n2_memory.proofs.laws.words.Goals as goal

pub returns-clause-line : goal.returns-clause-line
returns-clause-line c = line_words

pub returns-clause-read : goal.returns-clause-read
returns-clause-read c = read_below

pub returns-clause-put : goal.returns-clause-put
returns-clause-put c = put_words

pub returns-clause-stored : goal.returns-clause-stored
returns-clause-stored c = stored_word

pub returns-clause-start : goal.returns-clause-start
returns-clause-start c = start_words
