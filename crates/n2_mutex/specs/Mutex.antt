-- The Mutex Core of the Embedded Peripherals IP User Guide, as its register map has it.
-- Offsets count words, and a word is a number below 2 ^ 32.
use Rattle.std.specs.Prelude.{ℕ, ◌+◌, ◌*◌, ◌/◌, ◌%◌, ◌^◌, ◌<◌, Bool, true, not, ◌&&◌, ◌||◌, ◌==◌, if◌then◌else◌}
use Rattle.n2_word.specs.Words.{bit_of, has_bit}

-- the fields of the registers, in the order of the register map
pub record State : Type 0 where
  -- offset 0, the mutex register: OWNER, bits 31 to 16
  pub owner : ℕ
  -- offset 0, the mutex register: VALUE, bits 15 to 0
  pub value : ℕ
  -- offset 1, the reset register: RESET, bit 0
  pub reset : Bool

-- the state at the start: nobody holds the mutex, and RESET is 1
abbrev pub started : State
started = record { owner = 0; value = 0; reset = true }

-- the OWNER that a word for the mutex register has
abbrev pub owner_in : ℕ → ℕ
owner_in word = word / 2 ^ 16

-- the VALUE that a word for the mutex register has
abbrev pub value_in : ℕ → ℕ
value_in word = word % 2 ^ 16

-- what a read answers
abbrev pub value_of : State → ℕ → ℕ
value_of state offset =
    if offset == 0 then state.owner * 2 ^ 16 + state.value
    else bit_of state.reset

-- a read changes nothing
abbrev pub after_read : State → ℕ → State
after_read state offset = state

-- whether a write takes effect: at the mutex register where VALUE is 0 or the written OWNER is the present one,
-- at the reset register always
abbrev pub takes : State → ℕ → ℕ → Bool
takes state offset word =
    if offset == 0 then (state.value == 0 || state.owner == owner_in word)
    else true

-- a write of the mutex register: OWNER and VALUE are the written ones where it takes effect
abbrev pub with_owner_and_value : State → ℕ → State
with_owner_and_value state word =
    if takes state 0 word then record state { owner = owner_in word; value = value_in word } else state

-- the state after a write; at the reset register a RESET that is written as 1 is cleared
abbrev pub after_write : State → ℕ → ℕ → State
after_write state offset word =
    if offset == 0 then with_owner_and_value state word
    else record state { reset = state.reset && not (has_bit word 0) }

-- the fields have the widths of the register map
pub record IsInRange (state : State) : Type 0 where
  pub owner_width : state.owner < 2 ^ 16
  pub value_width : state.value < 2 ^ 16
