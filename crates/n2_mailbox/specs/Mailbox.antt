-- The Mailbox of the Embedded Peripherals IP User Guide, one message deep, by the registers of its two sides:
-- Command 0, Pointer 1, Status 2 and Mask 3. Offsets count words, and a word is a number below 2 ^ 32.
use Rattle.std.specs.Prelude.{ℕ, ◌*◌, ◌^◌, ◌<◌, Bool, true, false, not, ◌&&◌, ◌||◌, ◌==◌, if◌then◌else◌}
use Rattle.n2_word.specs.Words.{bit_of, has_bit}
use Rattle.n2_mailbox.specs.declared.Side.{Side}
use Rattle.n2_mailbox.specs.declared.Side.TheVariants.{Send, Receive}

-- the fields of the registers, in the order of the register map
pub record State : Type 0 where
  -- offset 0, Command, the same at both sides
  pub command : ℕ
  -- offset 1, Pointer, the same at both sides
  pub pointer : ℕ
  -- offset 2, Status: a message waits, so pending (bit 0) and full (bit 1) are both 1
  pub waiting : Bool
  -- offset 3, Mask of the sending side: bit 1, for the line that tells of room
  pub send_mask : Bool
  -- offset 3, Mask of the receiving side: bit 0, for the line that tells of a message
  pub receive_mask : Bool

-- the state at the start: all registers are 0
abbrev pub started : State
started = record { command = 0; pointer = 0; waiting = false; send_mask = false; receive_mask = false }

-- the Status register of either side
abbrev pub status_of : State → ℕ
status_of state = 3 * bit_of state.waiting

-- the Mask register of a side
abbrev pub mask_of : State → Side → ℕ
mask_of state Send = 2 * bit_of state.send_mask
mask_of state Receive = bit_of state.receive_mask

-- what a read answers
abbrev pub value_of : State → Side → ℕ → ℕ
value_of state side offset =
    if offset == 0 then state.command
    else (if offset == 1 then state.pointer
    else (if offset == 2 then status_of state
    else mask_of state side))

-- whether a read takes the message that waits: one of Command at the receiving side, while there is a message
abbrev pub takes_message : State → Side → ℕ → Bool
takes_message state Send offset = false
takes_message state Receive offset = offset == 0 && state.waiting

-- the Pointer of the message that a read takes, and 0 where it takes none
abbrev pub pointer_taken : State → Side → ℕ → ℕ
pointer_taken state side offset = if takes_message state side offset then state.pointer else 0

-- the state after a read: a message that was taken waits no more
abbrev pub after_read : State → Side → ℕ → State
after_read state side offset =
    if takes_message state side offset then record state { waiting = false } else state

-- whether a write takes effect: at the sending side of Command and Pointer while no message waits, and of Mask;
-- at the receiving side of Mask alone
abbrev pub takes : State → Side → ℕ → ℕ → Bool
takes state Send offset word = if offset == 0 || offset == 1 then not state.waiting else offset == 3
takes state Receive offset word = offset == 3

-- the state with a word in the Mask register of a side, which keeps one bit
abbrev pub with_mask : State → Side → ℕ → State
with_mask state Send word = record state { send_mask = has_bit word 1 }
with_mask state Receive word = record state { receive_mask = has_bit word 0 }

-- the state with a word in a register; a word in Command makes a message wait
abbrev pub with_register : State → Side → ℕ → ℕ → State
with_register state side offset word =
    if offset == 0 then record state { command = word; waiting = true }
    else (if offset == 1 then record state { pointer = word }
    else with_mask state side word)

-- the state after a write: unchanged where it does not take effect
abbrev pub after_write : State → Side → ℕ → ℕ → State
after_write state side offset word =
    if takes state side offset word then with_register state side offset word else state

-- whether the interrupt line of a side is on: its Mask bit is 1, and there is room to send or a message to receive
abbrev pub is_on : State → Side → Bool
is_on state Send = state.send_mask && not state.waiting
is_on state Receive = state.receive_mask && state.waiting

-- Command and Pointer are words
pub record IsInRange (state : State) : Type 0 where
  pub command_width : state.command < 2 ^ 32
  pub pointer_width : state.pointer < 2 ^ 32
