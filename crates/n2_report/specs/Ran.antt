-- What the code's values show of cores, UARTs and places.
use Rattle.std.specs.Prelude.{ℕ, zero, suc, ◌+◌, ◌==◌, ◌&&◌, Bool, true, false, List, [], ◌∷◌, Option, Some, None}
use Rattle.n2_parts.specs.declared.board.UartRow.{UartRow}
use Rattle.n2_parts.specs.declared.board.PartKind.{PartKind}
use Rattle.n2_parts.specs.declared.board.PartKind.TheVariants as kinds
use Rattle.n2_parts.specs.declared.stops.Stop.{Stop}
use Rattle.n2_board.specs.declared.places.Place.{Place}
use Rattle.n2_board.specs.declared.places.Place.TheVariants as places
use Rattle.n2_board.specs.AddressMap.{AddressMap}
use Rattle.n2_journal.specs.declared.entry.Entry.{Entry}
use Rattle.n2_cpu.specs.declared.state.State.{State}
use Rattle.n2_report.specs.declared.ends.CoreEnd.{CoreEnd}
use Rattle.n2_report.specs.Flat.{Uart}
use Rattle.n2_report.specs.OfRun.{given_to}

abbrev pub end_of : State → CoreEnd
end_of s = record { regs = s.regs; stop = s.stop }

abbrev pub turns_of : State → ℕ
turns_of s = s.clock.turns

abbrev pub stop_of : State → Option Stop
stop_of s = s.stop

abbrev pub is_uart : PartKind → Bool
is_uart kinds.Uart = true
is_uart kind = false

-- a place is the data register of a UART
abbrev pub is_data_of : Place → ℕ → Bool
is_data_of (places.Device part offset) uart = is_uart part.kind && part.index == uart && offset == 0
is_data_of _ uart = false

-- one byte, or none
abbrev pub listed : Option ℕ → List ℕ
listed None = []
listed (Some byte) = byte ∷ []

-- what so many UARTs were given, from number i on
abbrev pub all_given : AddressMap → List Entry → ℕ → ℕ → List (List ℕ)
all_given map' entries i zero = []
all_given map' entries i (suc n) = given_to map' i entries ∷ all_given map' entries (i + 1) n

-- UARTs with what they were given
abbrev pub named : List UartRow → List (List ℕ) → List Uart
named [] given = []
named (row ∷ rows) [] = []
named (row ∷ rows) (sent ∷ given) = record { name = row.name; sent = sent } ∷ named rows given
