-- The queues keep within their depths, and reads answer words.
use Rattle.std.proofs.Common.{◌≡◌, ℕ, ◌<◌, ◌≤◌, ◌^◌, List, [], ◌∷◌, ◌++◌, length, drop, refl, arith}
use Rattle.std.specs.Prelude.{if◌then◌else◌, ◌==◌, suc, Bool, true, false}
use Rattle.std.proofs.lemmas.Bool.Decides.{nat_tests}
use Rattle.std.proofs.lemmas.Grind.{common_steps}
use Rattle.std.proofs.lemmas.List.Elements.{All-nil, All-drop, All-push, All-head}
use Rattle.n2_word.specs.Words.{bit_of}
use Rattle.n2_juart.specs.Uart.{State, IsQueue, IsInRange, started, ri_of, wi_of, data_of, control_of, value_of, after_read, takes, with_written, after_write, has_room, after_receive, after_drain, after_host}

-- a queue without its oldest byte
IsQueue-drop : (queue : List ℕ) (depth : ℕ) → IsQueue queue depth → IsQueue (drop 1 queue) depth
IsQueue-drop queue depth q =
    record { bytes = All-drop (λ byte. byte < 2 ^ 8) 1 queue q.bytes; room = grind (arith, common_steps); largest = q.largest }

-- a queue with one more byte
IsQueue-push : (queue : List ℕ) (depth byte : ℕ) → IsQueue queue depth → length queue < depth → byte < 2 ^ 8 → IsQueue (queue ++ byte ∷ []) depth
IsQueue-push queue depth byte q room is_byte =
    record { bytes = All-push (λ byte. byte < 2 ^ 8) queue byte q.bytes is_byte; room = grind (arith, common_steps); largest = q.largest }

pub started-in_range : (read_depth write_depth : ℕ) → read_depth ≤ 32768 → write_depth ≤ 32768 → IsInRange (started read_depth write_depth)
started-in_range read_depth write_depth reads writes =
    record { reads = record { bytes = All-nil (λ byte. byte < 2 ^ 8); room = omega arith; largest = reads }; writes = record { bytes = All-nil (λ byte. byte < 2 ^ 8); room = omega arith; largest = writes } }

-- a state that a test picks, where the state for a test that holds may rest on that
picked-in_range : (test : Bool) (first second : State) → (test ≡ true → IsInRange first) → IsInRange second → IsInRange (if test then first else second)
picked-in_range true first second if_true if_false = if_true refl
picked-in_range false first second if_true if_false = if_false

pub after_read-in_range : (state : State) (offset : ℕ) → IsInRange state → IsInRange (after_read state offset)
after_read-in_range state offset in_range =
    picked-in_range (offset == 0) _ _ (λ _. record { reads = IsQueue-drop _ _ in_range.reads; writes = in_range.writes }) in_range

-- a write of data
with_written-in_range : (state : State) (word : ℕ) → IsInRange state → IsInRange (with_written state word)
with_written-in_range state word in_range =
    picked-in_range (takes state 0 word) _ _ (λ took. let room : length state.write_queue < state.write_depth = grind (arith, nat_tests) in record { reads = in_range.reads; writes = IsQueue-push _ _ _ in_range.writes room (omega arith) }) in_range

pub after_write-in_range : (state : State) (offset word : ℕ) → IsInRange state → IsInRange (after_write state offset word)
after_write-in_range state offset word in_range =
    picked-in_range (offset == 0) _ _ (λ at_data. with_written-in_range state word in_range) (record { reads = in_range.reads; writes = in_range.writes })

pub after_receive-in_range : (state : State) (byte : ℕ) → IsInRange state → byte < 2 ^ 8 → IsInRange (after_receive state byte)
after_receive-in_range state byte in_range is_byte =
    picked-in_range (has_room state) _ _ (λ roomy. let room : length state.read_queue < state.read_depth = grind (arith, nat_tests) in record { reads = IsQueue-push _ _ _ in_range.reads room is_byte; writes = in_range.writes }) in_range

pub after_drain-in_range : (state : State) → IsInRange state → IsInRange (after_drain state)
after_drain-in_range state in_range =
    record { reads = in_range.reads; writes = IsQueue-drop _ _ in_range.writes }

pub after_host-in_range : (state : State) → IsInRange state → IsInRange (after_host state)
after_host-in_range state in_range = record { reads = in_range.reads; writes = in_range.writes }

-- the data register is a word
data_of-below : (queue : List ℕ) (depth : ℕ) → IsQueue queue depth → data_of queue < 2 ^ 32
data_of-below [] depth q = omega arith
data_of-below (byte ∷ rest) depth q =
    let is_byte : byte < 2 ^ 8 = All-head (λ byte. byte < 2 ^ 8) byte rest q.bytes in
    let short : suc (length rest) ≤ depth = q.room in
    let largest : depth ≤ 32768 = q.largest in omega arith

-- a bit is 0 or 1
bit_of-below : (on : Bool) → bit_of on < 2
bit_of-below true = omega arith
bit_of-below false = omega arith

-- the control register is a word
control_of-below : (state : State) → state.write_depth ≤ 32768 → control_of state < 2 ^ 32
control_of-below state largest =
    omega (arith, bit_of-below state.re, bit_of-below state.we, bit_of-below (ri_of state), bit_of-below (wi_of state), bit_of-below state.ac)

-- a number that a test picks
picked-below : (test : Bool) (first second most : ℕ) → first < most → second < most → (if test then first else second) < most
picked-below true first second most if_true if_false = if_true
picked-below false first second most if_true if_false = if_false

pub value_of-below : (state : State) (offset : ℕ) → IsInRange state → value_of state offset < 2 ^ 32
value_of-below state offset in_range =
    picked-below (offset == 0) _ _ _ (data_of-below _ _ in_range.reads) (control_of-below state in_range.writes.largest)
