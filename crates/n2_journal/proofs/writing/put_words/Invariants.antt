use Rattle.std.proofs.Common.{◌≡◌, ◌++◌, drop}
use Rattle.n2_journal.specs.Texts.{spaced, words_fields}
use Rattle.n2_journal.proofs.writing.put_words.Given as goal

abbrev pub invariant-loop-word : goal.invariant-loop-word
invariant-loop-word l = l.out.items ++ spaced (words_fields (drop l.word-index l.words)) ≡ l.fn.out.items ++ spaced (words_fields l.words)
