-- The fields keep their widths, and reads answer words.
use Rattle.std.proofs.Common.{ℕ, ◌<◌, ◌^◌, arith, rules}
use Rattle.std.proofs.lemmas.Bool.Decides.{nat_tests}
use Rattle.n2_mutex.specs.Mutex.{State, IsInRange, started, value_of, after_write}

pub started-in_range : IsInRange started
started-in_range = search rules

pub after_write-in_range : (state : State) (offset word : ℕ) → IsInRange state → word < 2 ^ 32 → IsInRange (after_write state offset word)
after_write-in_range state offset word in_range is_word = search rules

pub value_of-below : (state : State) (offset : ℕ) → IsInRange state → value_of state offset < 2 ^ 32
value_of-below state offset in_range = grind (arith, nat_tests)
