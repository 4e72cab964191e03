-- The states of all devices of a board, and what a read, a write or an event does to them. What a register is
-- and does stands with its device; offsets count words, and the words of a mailbox are 0 to 3 at its sending
-- side and 4 to 7 at its receiving side.
use Rattle.std.specs.Prelude.{ℕ, ◌-◌, Bool, true, false, ◌&&◌, nat_lt, if◌then◌else◌, List, [], ◌∷◌, length, map, Option, Some, None, is_some, option_map, slice_get, slice_set}
use Rattle.n2_mutex.specs.Mutex as mutex
use Rattle.n2_mailbox.specs.Mailbox as mailbox
use Rattle.n2_mailbox.specs.declared.Side.{Side}
use Rattle.n2_mailbox.specs.declared.Side.TheVariants.{Send, Receive}
use Rattle.n2_timer.specs.Timer as timer
use Rattle.n2_juart.specs.Uart as uart
use Rattle.n2_parts.specs.declared.board.Board.{Board}
use Rattle.n2_parts.specs.declared.board.UartRow.{UartRow}
use Rattle.n2_parts.specs.declared.board.Part.{Part}
use Rattle.n2_parts.specs.declared.board.PartKind.{PartKind}
use Rattle.n2_parts.specs.declared.board.PartKind.TheVariants as kinds
use Rattle.n2_parts.specs.declared.board.DeviceEvent.{DeviceEvent}
use Rattle.n2_parts.specs.declared.board.DeviceEvent.TheVariants as events
use Rattle.n2_parts.specs.Parts as parts
use Rattle.n2_parts.specs.Rules.{event_has_uart}
use Rattle.n2_devices.specs.declared.answer.Answer.{Answer}
use Rattle.n2_devices.specs.declared.terminal.Terminal.{Terminal}

-- the state of each device, by kinds and in the board's order
pub record Devices : Type 0 where
  pub mutexes : List mutex.State
  pub mailboxes : List mailbox.State
  pub timers : List timer.State
  -- a UART with the bytes of its input that are left
  pub uarts : List Terminal

-- ---- at the start

abbrev pub started_terminal : UartRow → Terminal
started_terminal row = record { uart = uart.started row.read_depth row.write_depth; input = row.input }

abbrev pub started : Board → Devices
started b = record {
  mutexes = map (λ row. mutex.started) b.mutex;
  mailboxes = map (λ row. mailbox.started) b.mailbox;
  timers = map (λ row. timer.started row.period) b.timer;
  uarts = map started_terminal b.uart;
}

-- ---- which words there are

-- how many devices of a kind there are
abbrev pub count_of : Devices → PartKind → ℕ
count_of d kinds.Mutex = length d.mutexes
count_of d kinds.Mailbox = length d.mailboxes
count_of d kinds.Timer = length d.timers
count_of d kinds.Uart = length d.uarts
count_of d _ = 0

-- how many words a device of a kind has
abbrev pub words_of : PartKind → ℕ
words_of kinds.Mutex = 2
words_of kinds.Mailbox = 8
words_of kinds.Timer = 6
words_of kinds.Uart = 2
words_of _ = 0

-- whether a part has a word of that offset
abbrev pub has_word : Devices → Part → ℕ → Bool
has_word d part offset = nat_lt part.index (count_of d part.kind) && nat_lt offset (words_of part.kind)

-- the same by the board
abbrev pub is_word : Board → Part → ℕ → Bool
is_word b part offset = nat_lt part.index (parts.count_of b part.kind) && nat_lt offset (words_of part.kind)

-- ---- how a device reacts to an access or an event: the state that it is left in, and what it answers

pub record Reaction (S : Type 0) : Type 0 where
  pub state : S
  pub answer : Answer

-- a word is read
abbrev pub answered : {S : Type 0} → S → ℕ → Reaction S
answered state value = record { state = state; answer = record { value = value; took = false; pointer = 0 } }

-- something took effect or did not
abbrev pub took : {S : Type 0} → S → Bool → Reaction S
took state effect = record { state = state; answer = record { value = 0; took = effect; pointer = 0 } }

-- nothing happens
abbrev pub idle : {S : Type 0} → S → Reaction S
idle state = took state false

-- the devices of a kind where the one of that number, if it is there, reacts
abbrev pub reaction_at : {S : Type 0} → List S → ℕ → Option (Reaction S) → Reaction (List S)
reaction_at states index None = idle states
reaction_at states index (Some reaction) = record { state = slice_set states index reaction.state; answer = reaction.answer }

abbrev pub at_device : {S : Type 0} → (S → Reaction S) → List S → ℕ → Reaction (List S)
at_device act states index = reaction_at states index (option_map act (slice_get states index))

-- all devices where those of one kind react
abbrev pub with_mutexes : Devices → Reaction (List mutex.State) → Reaction Devices
with_mutexes d reaction = record { state = record d { mutexes = reaction.state }; answer = reaction.answer }

abbrev pub with_mailboxes : Devices → Reaction (List mailbox.State) → Reaction Devices
with_mailboxes d reaction = record { state = record d { mailboxes = reaction.state }; answer = reaction.answer }

abbrev pub with_timers : Devices → Reaction (List timer.State) → Reaction Devices
with_timers d reaction = record { state = record d { timers = reaction.state }; answer = reaction.answer }

abbrev pub with_uarts : Devices → Reaction (List Terminal) → Reaction Devices
with_uarts d reaction = record { state = record d { uarts = reaction.state }; answer = reaction.answer }

-- ---- reads

abbrev pub read_mutex : ℕ → mutex.State → Reaction mutex.State
read_mutex offset state = answered (mutex.after_read state offset) (mutex.value_of state offset)

-- a read at a side of a mailbox tells whether it took a message, and the Pointer of the message
abbrev pub read_side : Side → ℕ → mailbox.State → Reaction mailbox.State
read_side side offset state = record {
  state = mailbox.after_read state side offset;
  answer = record { value = mailbox.value_of state side offset; took = mailbox.takes_message state side offset; pointer = mailbox.pointer_taken state side offset };
}

abbrev pub read_mailbox : ℕ → mailbox.State → Reaction mailbox.State
read_mailbox offset state = if nat_lt offset 4 then read_side Send offset state else read_side Receive (offset - 4) state

abbrev pub read_timer : ℕ → timer.State → Reaction timer.State
read_timer offset state = answered (timer.after_read state offset) (timer.value_of state offset)

abbrev pub read_uart : ℕ → Terminal → Reaction Terminal
read_uart offset t = answered (record t { uart = uart.after_read t.uart offset }) (uart.value_of t.uart offset)

abbrev pub read_at : Devices → PartKind → ℕ → ℕ → Reaction Devices
read_at d kinds.Mutex index offset = with_mutexes d (at_device (read_mutex offset) d.mutexes index)
read_at d kinds.Mailbox index offset = with_mailboxes d (at_device (read_mailbox offset) d.mailboxes index)
read_at d kinds.Timer index offset = with_timers d (at_device (read_timer offset) d.timers index)
read_at d kinds.Uart index offset = with_uarts d (at_device (read_uart offset) d.uarts index)
read_at d _ index offset = idle d

-- a read of a word of a device
abbrev pub read_word : Devices → Part → ℕ → Reaction Devices
read_word d part offset = read_at d part.kind part.index offset

-- ---- writes

abbrev pub write_mutex : ℕ → ℕ → mutex.State → Reaction mutex.State
write_mutex offset word state = took (mutex.after_write state offset word) (mutex.takes state offset word)

abbrev pub write_side : Side → ℕ → ℕ → mailbox.State → Reaction mailbox.State
write_side side offset word state = took (mailbox.after_write state side offset word) (mailbox.takes state side offset word)

abbrev pub write_mailbox : ℕ → ℕ → mailbox.State → Reaction mailbox.State
write_mailbox offset word state = if nat_lt offset 4 then write_side Send offset word state else write_side Receive (offset - 4) word state

abbrev pub write_timer : ℕ → ℕ → timer.State → Reaction timer.State
write_timer offset word state = took (timer.after_write state offset word) (timer.takes state offset word)

abbrev pub write_uart : ℕ → ℕ → Terminal → Reaction Terminal
write_uart offset word t = took (record t { uart = uart.after_write t.uart offset word }) (uart.takes t.uart offset word)

abbrev pub write_at : Devices → PartKind → ℕ → ℕ → ℕ → Reaction Devices
write_at d kinds.Mutex index offset word = with_mutexes d (at_device (write_mutex offset word) d.mutexes index)
write_at d kinds.Mailbox index offset word = with_mailboxes d (at_device (write_mailbox offset word) d.mailboxes index)
write_at d kinds.Timer index offset word = with_timers d (at_device (write_timer offset word) d.timers index)
write_at d kinds.Uart index offset word = with_uarts d (at_device (write_uart offset word) d.uarts index)
write_at d _ index offset word = idle d

-- a write of a word of a device, which tells whether it took effect
abbrev pub write_word : Devices → Part → ℕ → ℕ → Reaction Devices
write_word d part offset word = write_at d part.kind part.index offset word

-- ---- events

-- the next byte of the input moves to the read queue where there is one and room
abbrev pub fed_from : uart.State → List ℕ → Reaction Terminal
fed_from state [] = took (record { uart = state; input = [] }) false
fed_from state (byte ∷ rest) =
    if uart.has_room state then took (record { uart = uart.after_receive state byte; input = rest }) true
    else took (record { uart = state; input = byte ∷ rest }) false

abbrev pub fed : Terminal → Reaction Terminal
fed t = fed_from t.uart t.input

-- the host was active: AC is set
abbrev pub with_host : Reaction Terminal → Reaction Terminal
with_host reaction = record { state = record reaction.state { uart = uart.after_host reaction.state.uart }; answer = reaction.answer }

-- a byte from the host, if one can come; the answer tells whether a byte moved
abbrev pub received : Terminal → Reaction Terminal
received t = with_host (fed t)

-- a byte for the host: the oldest one of the write queue, if there is one
abbrev pub drained : Terminal → Reaction Terminal
drained t = with_host (took (record t { uart = uart.after_drain t.uart }) (is_some (uart.drained t.uart)))

-- so many ticks of every timer; a byte from or for the host at a UART
abbrev pub happened : Devices → DeviceEvent → Reaction Devices
happened d (events.Tick n) = with_timers d (took (map (timer.ticks n) d.timers) false)
happened d (events.Receive u) = with_uarts d (at_device received d.uarts u)
happened d (events.Drain u) = with_uarts d (at_device drained d.uarts u)

-- whether the UART that an event names is there
abbrev pub has_event : Devices → DeviceEvent → Bool
has_event d event = event_has_uart (length d.uarts) event
