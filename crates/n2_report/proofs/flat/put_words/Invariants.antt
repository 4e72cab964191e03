use Rattle.std.proofs.Common.{◌≡◌, ◌++◌, take}
use Rattle.n2_report.specs.Flat.{words_text}
use Rattle.n2_report.proofs.flat.put_words.Given as goal

abbrev pub invariant-loop-word : goal.invariant-loop-word
invariant-loop-word l = l.out.items ≡ l.fn.out.items ++ words_text (take l.word-index l.words)
