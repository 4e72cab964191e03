-- The JTAG UART Core of the Embedded Peripherals IP User Guide, by its register map: data 0 and control 1. Offsets
-- count words, and a word is a number below 2 ^ 32. Queues are lists of bytes, the oldest first.
use Rattle.std.specs.Prelude.{ℕ, ◌+◌, ◌-◌, ◌*◌, ◌%◌, ◌^◌, ◌<◌, ◌≤◌, Bool, true, false, not, ◌&&◌, ◌||◌, ◌==◌, nat_lt, nat_le, List, [], ◌∷◌, ◌++◌, length, drop, slice_get, All, Option, if◌then◌else◌}
use Rattle.n2_word.specs.Words.{bit_of, has_bit}

-- the queues and the fields of the registers
pub record State : Type 0 where
  -- data: the bytes from the host that wait to be read, and how many may wait
  pub read_queue : List ℕ
  pub read_depth : ℕ
  -- data: the written bytes that wait for the host, and how many may wait
  pub write_queue : List ℕ
  pub write_depth : ℕ
  -- control: RE, bit 0, WE, bit 1, and AC, bit 10
  pub re : Bool
  pub we : Bool
  pub ac : Bool

-- the state at the start: both queues are empty, and RE, WE and AC are 0
abbrev pub started : ℕ → ℕ → State
started read_depth write_depth =
    record { read_queue = []; read_depth = read_depth; write_queue = []; write_depth = write_depth; re = false; we = false; ac = false }

-- the byte that a word for the data register has
abbrev pub byte_in : ℕ → ℕ
byte_in word = word % 2 ^ 8

-- RI: RE is set and a byte waits to be read
abbrev pub ri_of : State → Bool
ri_of state = state.re && not (length state.read_queue == 0)

-- WI: WE is set and at most eight bytes wait for the host
abbrev pub wi_of : State → Bool
wi_of state = state.we && nat_le (length state.write_queue) 8

-- WSPACE: how many more bytes the write queue can take
abbrev pub wspace_of : State → ℕ
wspace_of state = state.write_depth - length state.write_queue

-- the data register of a read queue: the oldest byte in DATA (bits 7 to 0), RVALID (bit 15), and the number of bytes
-- behind it in RAVAIL (bits 31 to 16); 0 where no byte waits
abbrev pub data_of : List ℕ → ℕ
data_of [] = 0
data_of (byte ∷ rest) = byte + 2 ^ 15 + length rest * 2 ^ 16

-- the control register: RE, WE, RI, WI, AC and WSPACE
abbrev pub control_of : State → ℕ
control_of state =
    bit_of state.re + 2 * bit_of state.we + 2 ^ 8 * bit_of (ri_of state) + 2 ^ 9 * bit_of (wi_of state)
    + 2 ^ 10 * bit_of state.ac + 2 ^ 16 * wspace_of state

-- what a read answers
abbrev pub value_of : State → ℕ → ℕ
value_of state offset = if offset == 0 then data_of state.read_queue else control_of state

-- the state after a read: one of data takes the oldest byte out of the read queue
abbrev pub after_read : State → ℕ → State
after_read state offset =
    if offset == 0 then record state { read_queue = drop 1 state.read_queue } else state

-- whether a write takes effect: one of data where there is room in the write queue, one of control always
abbrev pub takes : State → ℕ → ℕ → Bool
takes state offset word =
    if offset == 0 then nat_lt (length state.write_queue) state.write_depth else true

-- a write of control sets RE and WE, and clears AC where its bit 10 is 1
abbrev pub with_control : State → ℕ → State
with_control state word =
    record state { re = has_bit word 0; we = has_bit word 1; ac = state.ac && not (has_bit word 10) }

-- a write of data adds its byte to the write queue where it takes effect, else the byte is lost
abbrev pub with_written : State → ℕ → State
with_written state word =
    if takes state 0 word then record state { write_queue = state.write_queue ++ byte_in word ∷ [] }
    else state

-- the state after a write
abbrev pub after_write : State → ℕ → ℕ → State
after_write state offset word =
    if offset == 0 then with_written state word else with_control state word

-- whether there is room for a byte from the host
abbrev pub has_room : State → Bool
has_room state = nat_lt (length state.read_queue) state.read_depth

-- the state after a byte from the host came, which is lost where there is no room
abbrev pub after_receive : State → ℕ → State
after_receive state byte =
    if has_room state then record state { read_queue = state.read_queue ++ byte ∷ [] }
    else state

-- the byte that the host takes: the oldest of the write queue, where there is one
abbrev pub drained : State → Option ℕ
drained state = slice_get state.write_queue 0

-- the state after the host took a byte
abbrev pub after_drain : State → State
after_drain state = record state { write_queue = drop 1 state.write_queue }

-- the state after the host was active: AC is set
abbrev pub after_host : State → State
after_host state = record state { ac = true }

-- whether the interrupt line is on: RI or WI
abbrev pub is_on : State → Bool
is_on state = ri_of state || wi_of state

-- a queue holds bytes, at most as many as its depth
pub record IsQueue (queue : List ℕ) (depth : ℕ) : Type 0 where
  pub bytes : All (λ byte. byte < 2 ^ 8) queue
  pub room : length queue ≤ depth
  pub largest : depth ≤ 32768

-- both queues hold bytes within their depths
pub record IsInRange (state : State) : Type 0 where
  pub reads : IsQueue state.read_queue state.read_depth
  pub writes : IsQueue state.write_queue state.write_depth
