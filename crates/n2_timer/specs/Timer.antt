-- The Interval Timer Core of the Embedded Peripherals IP User Guide, by its register map: status 0, control 1,
-- periodl 2, periodh 3, snapl 4 and snaph 5. Each register has 16 bits. Offsets count words, and a word is a
-- number below 2 ^ 32.
use Rattle.std.specs.Prelude.{ℕ, zero, suc, ◌+◌, ◌-◌, ◌*◌, ◌/◌, ◌%◌, ◌^◌, ◌<◌, Bool, true, false, not, ◌&&◌, ◌||◌, ◌==◌, if◌then◌else◌}
use Rattle.n2_word.specs.Words.{bit_of, has_bit}

-- the fields of the registers, in the order of the register map, and the counter
pub record State : Type 0 where
  -- status: TO, bit 0, and RUN, bit 1
  pub to : Bool
  pub run : Bool
  -- control: ITO, bit 0, and CONT, bit 1
  pub ito : Bool
  pub cont : Bool
  -- the period, whose low half is periodl and whose high half is periodh
  pub period : ℕ
  -- the snapshot, whose low half is snapl and whose high half is snaph
  pub snapshot : ℕ
  -- the internal counter
  pub counter : ℕ

-- the state at the start: the period is in the period registers and in the counter, and all else is 0
abbrev pub started : ℕ → State
started period =
    record { to = false; run = false; ito = false; cont = false; period = period; snapshot = 0; counter = period }

-- the low half of a number of 32 bits, and its high half
abbrev pub low_half : ℕ → ℕ
low_half number = number % 2 ^ 16

abbrev pub high_half : ℕ → ℕ
high_half number = number / 2 ^ 16

-- the status register: TO, bit 0, and RUN, bit 1
abbrev pub status_of : State → ℕ
status_of state = bit_of state.to + 2 * bit_of state.run

-- the control register: ITO, bit 0, and CONT, bit 1; START and STOP read 0
abbrev pub control_of : State → ℕ
control_of state = bit_of state.ito + 2 * bit_of state.cont

-- what a read answers
abbrev pub value_of : State → ℕ → ℕ
value_of state offset =
    if offset == 0 then status_of state
    else (if offset == 1 then control_of state
    else (if offset == 2 then low_half state.period
    else (if offset == 3 then high_half state.period
    else (if offset == 4 then low_half state.snapshot
    else high_half state.snapshot))))

-- a read changes nothing
abbrev pub after_read : State → ℕ → State
after_read state offset = state

-- every write takes effect
abbrev pub takes : State → ℕ → ℕ → Bool
takes state offset word = true

-- RUN after a write of control: STOP (bit 3) clears it, else START (bit 2) sets it
abbrev pub run_after : State → ℕ → Bool
run_after state word = not (has_bit word 3) && (has_bit word 2 || state.run)

-- a write of control keeps ITO (bit 0) and CONT (bit 1)
abbrev pub with_control : State → ℕ → State
with_control state word =
    record state { ito = has_bit word 0; cont = has_bit word 1; run = run_after state word }

-- a new period stops the timer and is loaded into the counter
abbrev pub with_period : State → ℕ → State
with_period state period = record state { period = period; counter = period; run = false }

-- the state after a write: of status, which clears TO; of control; of a half of the period, the other half staying;
-- of either snap register, which copies the counter to the snapshot
abbrev pub after_write : State → ℕ → ℕ → State
after_write state offset word =
    if offset == 0 then record state { to = false }
    else (if offset == 1 then with_control state word
    else (if offset == 2 then with_period state (high_half state.period * 2 ^ 16 + low_half word)
    else (if offset == 3 then with_period state (low_half word * 2 ^ 16 + low_half state.period)
    else record state { snapshot = state.counter })))

-- a counter that is not 0 falls by one; at 0 TO is set, the counter is the period again, and the timer goes on
-- where CONT is 1
abbrev pub counted_down : State → State
counted_down state =
    if state.counter == 0 then record state { to = true; counter = state.period; run = state.cont }
    else record state { counter = state.counter - 1 }

-- one tick: nothing happens while RUN is 0
abbrev pub tick : State → State
tick state =
    if state.run then counted_down state else state

-- so many ticks, one after another
unfoldable pub ticks : ℕ → State → State
ticks zero state = state
ticks (suc n) state = tick (ticks n state)

-- whether the interrupt line is on: TO and ITO
abbrev pub is_on : State → Bool
is_on state = state.to && state.ito

-- the period, the snapshot and the counter are words
pub record IsInRange (state : State) : Type 0 where
  pub period_width : state.period < 2 ^ 32
  pub snapshot_width : state.snapshot < 2 ^ 32
  pub counter_width : state.counter < 2 ^ 32
