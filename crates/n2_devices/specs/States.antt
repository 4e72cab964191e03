-- The state of one device of a board, whatever its kind.
use Rattle.std.specs.Prelude.{ℕ, Option, None, option_map, slice_get}
use Rattle.n2_mutex.specs.Mutex as mutex
use Rattle.n2_mailbox.specs.Mailbox as mailbox
use Rattle.n2_timer.specs.Timer as timer
use Rattle.n2_parts.specs.declared.board.Part.{Part}
use Rattle.n2_parts.specs.declared.board.PartKind.{PartKind}
use Rattle.n2_parts.specs.declared.board.PartKind.TheVariants as kinds
use Rattle.n2_devices.specs.declared.terminal.Terminal.{Terminal}
use Rattle.n2_devices.specs.Devices.{Devices}

pub data DeviceState : Type 0 where
  OfMutex : (state : mutex.State) → DeviceState
  OfMailbox : (state : mailbox.State) → DeviceState
  OfTimer : (state : timer.State) → DeviceState
  OfUart : (terminal : Terminal) → DeviceState

-- the state of a part, where it is a device
abbrev pub state_at : Devices → PartKind → ℕ → Option DeviceState
state_at d kinds.Mutex i = option_map OfMutex (slice_get d.mutexes i)
state_at d kinds.Mailbox i = option_map OfMailbox (slice_get d.mailboxes i)
state_at d kinds.Timer i = option_map OfTimer (slice_get d.timers i)
state_at d kinds.Uart i = option_map OfUart (slice_get d.uarts i)
state_at d _ i = None

abbrev pub state_of : Devices → Part → Option DeviceState
state_of d part = state_at d part.kind part.index
