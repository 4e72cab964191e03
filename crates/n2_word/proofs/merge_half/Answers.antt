use Rattle.std.proofs.Common.{◌≡◌, arith}
use Rattle.std.proofs.lemmas.Nat.{and_mask}
use Rattle.n2_word.proofs.Lanes.{upper_lane}
use Rattle.n2_word.proofs.merge_half.Goals as goal

pub returns-in-0 : goal.returns-in-0
returns-in-0 c = rw (c.in-0.is, and_mask c.args.value 16) (omega arith)

pub returns-in_default : goal.returns-in_default
returns-in_default c =
    let upper : c.args.lane ≡ 2 = upper_lane c.args.lane (omega arith) c.requires.place c.requires.aligned in
    rw (upper, and_mask c.args.value 16, and_mask c.args.word 16) (omega arith)
