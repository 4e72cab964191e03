use Rattle.std.proofs.Common.{◌<◌, ◌^◌, arith}
use Rattle.n2_text.proofs.Words.{below_sixteen_to}
use Rattle.n2_text.proofs.fields.hex_digits.Goals as goal

pub overflow_mul-n : goal.overflow_mul-n
overflow_mul-n c =
    let short : c.loop-c.n < 16 ^ 7 = below_sixteen_to c.loop-c.c-index _ (omega arith) c.loop-c.invariant.0 in omega arith

pub overflow_add-n : goal.overflow_add-n
overflow_add-n c =
    let short : c.loop-c.n < 16 ^ 7 = below_sixteen_to c.loop-c.c-index _ (omega arith) c.loop-c.invariant.0 in omega arith
