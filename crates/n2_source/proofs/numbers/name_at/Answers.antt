use Rattle.std.proofs.Common.{subst, sym}
use Rattle.std.specs.Str.{IsUtf8}
use Rattle.n2_source.proofs.Ascii.{IsUtf8-word}
use Rattle.n2_source.proofs.numbers.name_at.Goals as goal

pub returns-in-Err : goal.returns-in-Err
returns-in-Err c = absurd (c.in-Err.ensures.cases.0 (subst IsUtf8 (sym c.word_at.ensures.word) (IsUtf8-word c.skip.result.now)))
