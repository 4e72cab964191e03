-- Command and Pointer keep their widths, and reads answer words.
use Rattle.std.proofs.Common.{ℕ, ◌<◌, ◌^◌, rules}
use Rattle.n2_mailbox.specs.declared.Side.{Side}
use Rattle.n2_mailbox.specs.declared.Side.TheVariants.{Send, Receive}
use Rattle.n2_mailbox.specs.Mailbox.{State, IsInRange, started, value_of, pointer_taken, after_read, after_write}

pub started-in_range : IsInRange started
started-in_range = search rules

pub after_read-in_range : (state : State) (side : Side) (offset : ℕ) → IsInRange state → IsInRange (after_read state side offset)
after_read-in_range state Send offset in_range = search rules
after_read-in_range state Receive offset in_range = search rules

pub after_write-in_range : (state : State) (side : Side) (offset word : ℕ) → IsInRange state → word < 2 ^ 32 → IsInRange (after_write state side offset word)
after_write-in_range state Send offset word in_range is_word = search rules
after_write-in_range state Receive offset word in_range is_word = search rules

pub value_of-below : (state : State) (side : Side) (offset : ℕ) → IsInRange state → value_of state side offset < 2 ^ 32
value_of-below state Send offset in_range = search rules
value_of-below state Receive offset in_range = search rules

pub pointer_taken-below : (state : State) (side : Side) (offset : ℕ) → IsInRange state → pointer_taken state side offset < 2 ^ 32
pointer_taken-below state Send offset in_range = search rules
pointer_taken-below state Receive offset in_range = search rules
