-- The interrupt lines of a core: which devices of a board are wired to it, and what they show it.
use Rattle.std.specs.Prelude.{ℕ, ◌+◌, ◌^◌, Bool, true, false, ◌==◌, if◌then◌else◌, List, [], ◌∷◌, ◌++◌, length, map, Option, Some, None, slice_get, bit_or}
use Rattle.std.specs.List.{range_with_len}
use Rattle.n2_mailbox.specs.Mailbox as mailbox
use Rattle.n2_mailbox.specs.declared.Side.TheVariants.{Send, Receive}
use Rattle.n2_timer.specs.Timer as timer
use Rattle.n2_juart.specs.Uart as uart
use Rattle.n2_parts.specs.declared.board.Board.{Board}
use Rattle.n2_parts.specs.declared.board.MailboxRow.{MailboxRow}
use Rattle.n2_parts.specs.declared.board.TimerRow.{TimerRow}
use Rattle.n2_parts.specs.declared.board.UartRow.{UartRow}
use Rattle.n2_devices.specs.declared.wires.Source.{Source}
use Rattle.n2_devices.specs.declared.wires.Source.TheVariants as sources
use Rattle.n2_devices.specs.declared.wires.Wire.{Wire}
use Rattle.n2_devices.specs.Devices.{Devices, started}

-- ---- which devices are wired to a core

-- a side of a device with an interrupt number that belongs to the core is wired to it; the wire has the bit of that
-- number
abbrev pub wired : Bool → Source → Option ℕ → List Wire
wired true source (Some irq) = record { source = source; bit = 2 ^ irq } ∷ []
wired _ source _ = []

-- the wires of mailboxes to core k, from mailbox i on
abbrev pub mailbox_wires : ℕ → ℕ → List MailboxRow → List Wire
mailbox_wires k i [] = []
mailbox_wires k i (row ∷ rows) =
    wired (row.sender == k) (sources.Sender i) row.send_irq ++ wired (row.receiver == k) (sources.Receiver i) row.receive_irq ++ mailbox_wires k (i + 1) rows

-- those of timers
abbrev pub timer_wires : ℕ → ℕ → List TimerRow → List Wire
timer_wires k i [] = []
timer_wires k i (row ∷ rows) = wired (row.core == k) (sources.Timer i) row.irq ++ timer_wires k (i + 1) rows

-- those of UARTs
abbrev pub uart_wires : ℕ → ℕ → List UartRow → List Wire
uart_wires k i [] = []
uart_wires k i (row ∷ rows) = wired (row.core == k) (sources.Uart i) row.irq ++ uart_wires k (i + 1) rows

-- all wires to a core
abbrev pub wires_to : Board → ℕ → List Wire
wires_to b k = mailbox_wires k 0 b.mailbox ++ timer_wires k 0 b.timer ++ uart_wires k 0 b.uart

-- those of each core
abbrev pub wires_of : Board → List (List Wire)
wires_of b = map (wires_to b) (range_with_len 0 (length b.core))

-- ---- what they show

-- a test of the device of that number among those of its kind
abbrev pub holds_at : {S : Type 0} → (S → Bool) → Option S → Bool
holds_at test None = false
holds_at test (Some state) = test state

-- whether the interrupt line of a side of a device is on
abbrev pub is_on : Devices → Source → Bool
is_on d (sources.Sender i) = holds_at (λ state. mailbox.is_on state Send) (slice_get d.mailboxes i)
is_on d (sources.Receiver i) = holds_at (λ state. mailbox.is_on state Receive) (slice_get d.mailboxes i)
is_on d (sources.Timer i) = holds_at timer.is_on (slice_get d.timers i)
is_on d (sources.Uart i) = holds_at (λ t. uart.is_on t.uart) (slice_get d.uarts i)

-- the bit of a wire while its line is on
abbrev pub bit_shown : Devices → Wire → ℕ
bit_shown d wire = if is_on d wire.source then wire.bit else 0

-- the bits of all wires; several may have one bit
abbrev pub shown : Devices → List Wire → ℕ
shown d [] = 0
shown d (wire ∷ wires) = bit_or (bit_shown d wire) (shown d wires)

-- the interrupt lines of a core
abbrev pub lines : Board → Devices → ℕ → ℕ
lines b d k = shown d (wires_to b k)

-- the devices of a board with the wires of each core, at the start
pub record Wired : Type 0 where
  pub devices : Devices
  pub wires : List (List Wire)

abbrev pub opened : Board → Wired
opened b = record { devices = started b; wires = wires_of b }
