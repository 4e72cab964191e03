use Rattle.n2_text.proofs.Words.{hex_word-word_text, word_text-hex_word, hex_word-small, length-word_text, digits-word_text}
use Rattle.n2_text.proofs.laws.words.Goals as goal

pub returns-clause-read : goal.returns-clause-read
returns-clause-read c = hex_word-word_text

pub returns-clause-spelled : goal.returns-clause-spelled
returns-clause-spelled c = word_text-hex_word

pub returns-clause-small : goal.returns-clause-small
returns-clause-small c = hex_word-small

pub returns-clause-length : goal.returns-clause-length
returns-clause-length c = length-word_text

pub returns-clause-digits : goal.returns-clause-digits
returns-clause-digits c = digits-word_text
