-- The numbers that memories and devices hold, and that replies have, fit their fields.
use Rattle.std.specs.Prelude.{◌^◌, ◌<◌}
use Rattle.std.specs.List.{All}
use Rattle.n2_mutex.specs.Mutex as mutex
use Rattle.n2_mailbox.specs.Mailbox as mailbox
use Rattle.n2_timer.specs.Timer as timer
use Rattle.n2_juart.specs.Uart as uart
use Rattle.n2_parts.specs.declared.board.Board.{Board}
use Rattle.n2_memory.specs.Memories.{AreWords}
use Rattle.n2_devices.specs.declared.terminal.Terminal.{Terminal}
use Rattle.n2_devices.specs.Devices.{Devices}
use Rattle.n2_bus.specs.declared.request.Reply.{Reply}
use Rattle.n2_bus.specs.Transfer.{Shared}

-- a UART and the input that is left for it
abbrev pub IsTerminal : Terminal → Type 0
IsTerminal t = uart.IsInRange t.uart × All (λ byte. byte < 2 ^ 8) t.input

pub record AreInRange (d : Devices) : Type 0 where
  pub mutexes : All mutex.IsInRange d.mutexes
  pub mailboxes : All mailbox.IsInRange d.mailboxes
  pub timers : All timer.IsInRange d.timers
  pub uarts : All IsTerminal d.uarts

pub record HoldsWords (s : Shared) : Type 0 where
  pub memory : AreWords s.memory.words
  pub devices : AreInRange s.devices

-- the periods and the inputs of a board fit their fields, as those of every board in the program do
pub record FitsItsFields (b : Board) : Type 0 where
  pub periods : All (λ row. row.period < 2 ^ 32) b.timer
  pub inputs : All (λ row. All (λ byte. byte < 2 ^ 8) row.input) b.uart

pub record FitsReply (reply : Reply) : Type 0 where
  pub words : AreWords reply.words
  pub pointer : reply.pointer < 2 ^ 32
