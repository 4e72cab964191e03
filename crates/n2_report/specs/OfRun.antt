-- The report of a run of a board: its cores, its UARTs by the journal, and the lines of main memory that the board dumps.
use Rattle.std.specs.Prelude.{ℕ, ◌+◌, ◌%◌, ◌^◌, ◌==◌, ◌&&◌, Bool, List, [], ◌∷◌, map, if◌then◌else◌}
use Rattle.std.specs.List.{flat_map}
use Rattle.n2_parts.specs.declared.board.Board.{Board}
use Rattle.n2_parts.specs.declared.board.UartRow.{UartRow}
use Rattle.n2_parts.specs.declared.board.PartKind.{PartKind}
use Rattle.n2_parts.specs.declared.board.PartKind.TheVariants as kinds
use Rattle.n2_board.specs.declared.places.Place.{Place}
use Rattle.n2_board.specs.declared.places.Place.TheVariants as places
use Rattle.n2_board.specs.AddressMap.{AddressMap, place}
use Rattle.n2_bus.specs.declared.request.Request.{Request}
use Rattle.n2_bus.specs.declared.request.Request.TheVariants as requests
use Rattle.n2_journal.specs.declared.entry.Entry.{Entry}
use Rattle.n2_front.specs.Core.{Core, stop_of}
use Rattle.n2_runs.specs.Machine.{Machine}
use Rattle.n2_report.specs.declared.ends.CoreEnd.{CoreEnd}
use Rattle.n2_report.specs.Flat.{Uart, flat_part}
use Rattle.n2_report.specs.Stops.{status_of}
use Rattle.n2_report.specs.Transfers.{transfers_of}
use Rattle.n2_report.specs.OfFlat.{dumped}
use Rattle.n2_report.specs.Report.{report_text}

-- ---- what the journal says that a UART was given

-- a write of a UART's data register that was taken gave its low byte
abbrev pub byte_given : ℕ → PartKind → ℕ → ℕ → ℕ → Bool → List ℕ
byte_given uart kinds.Uart index offset value took = if index == uart && offset == 0 && took then value % 2 ^ 8 ∷ [] else []
byte_given uart kind index offset value took = []

abbrev pub given_at : ℕ → Place → ℕ → Bool → List ℕ
given_at uart (places.Device part offset) value took = byte_given uart part.kind part.index offset value took
given_at uart _ value took = []

abbrev pub given_by : AddressMap → ℕ → Request → Bool → List ℕ
given_by map' uart (requests.Write address width value) took = given_at uart (place map' address) value took
given_by map' uart _ took = []

abbrev pub given_to : AddressMap → ℕ → List Entry → List ℕ
given_to map' uart entries = flat_map (λ (entry : Entry). given_by map' uart entry.request entry.reply.took) entries

-- UARTs, of which the first has number i
abbrev pub uarts_given : AddressMap → ℕ → List UartRow → List Entry → List Uart
uarts_given map' i [] entries = []
uarts_given map' i (row ∷ rows) entries = record { name = row.name; sent = given_to map' i entries } ∷ uarts_given map' (i + 1) rows entries

-- ---- the report

abbrev pub core_end : Core → CoreEnd
core_end c = record { regs = c.front.regs; stop = stop_of c }

abbrev pub turns_of : Core → ℕ
turns_of c = c.turns

-- the flat part of a run's report
abbrev pub run_flat_part : Board → AddressMap → Machine → List ℕ
run_flat_part b map' m = flat_part (map core_end m.cores) (uarts_given map' 0 b.uart m.entries)

unfoldable pub run_report : Board → AddressMap → Machine → List ℕ
run_report b map' m =
    report_text (map core_end m.cores) (map turns_of m.cores) (uarts_given map' 0 b.uart m.entries) (transfers_of m.entries) (dumped m.world.memory b.dump)

abbrev pub run_status : Machine → ℕ
run_status m = status_of (map (λ (c : Core). stop_of c) m.cores)
