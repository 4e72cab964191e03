-- The fields keep their widths, and reads answer halves of words.
use Rattle.std.proofs.Common.{ℕ, zero, suc, ◌<◌, ◌^◌, arith, rules}
use Rattle.std.proofs.lemmas.Bool.Decides.{nat_tests}
use Rattle.n2_timer.specs.Timer.{State, IsInRange, started, value_of, after_write, tick, ticks}

pub started-in_range : (period : ℕ) → period < 2 ^ 32 → IsInRange (started period)
started-in_range period is_word = search rules

pub after_write-in_range : (state : State) (offset word : ℕ) → IsInRange state → word < 2 ^ 32 → IsInRange (after_write state offset word)
after_write-in_range state offset word in_range is_word = search rules

pub tick-in_range : (state : State) → IsInRange state → IsInRange (tick state)
tick-in_range state in_range = search rules

pub ticks-in_range : (n : ℕ) (state : State) → IsInRange state → IsInRange (ticks n state)
unfolding ticks
ticks-in_range zero state in_range = in_range
ticks-in_range (suc n) state in_range = tick-in_range (ticks n state) (ticks-in_range n state in_range)

pub value_of-below : (state : State) (offset : ℕ) → IsInRange state → value_of state offset < 2 ^ 16
value_of-below state offset in_range = grind (arith, nat_tests)
