use Rattle.std.proofs.Common.{◌≡◌, arith}
use Rattle.std.proofs.lemmas.Nat.{and_mask}
use Rattle.n2_word.proofs.merge_byte.Goals as goal

pub returns-in_default : goal.returns-in_default
returns-in_default c =
    let last : c.args.lane ≡ 3 = omega arith in rw (last, and_mask c.args.value 8, and_mask c.args.word 24) (omega arith)
