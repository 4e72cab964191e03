-- The report of a run: the flat part, how each core ended, its transfers, and lines of main memory.
use Rattle.std.specs.Prelude.{ℕ, ◌+◌, List, [], ◌∷◌, ◌++◌, Option, Some, None, codes, decimal}
use Rattle.std.specs.List.{flat_map}
use Rattle.n2_parts.specs.declared.stops.Stop.{Stop}
use Rattle.n2_parts.specs.declared.stops.Stop.TheVariants.{Spent, LogFull}
use Rattle.n2_report.specs.declared.ends.CoreEnd.{CoreEnd}
use Rattle.n2_report.specs.declared.ends.MemoryLine.{MemoryLine}
use Rattle.n2_report.specs.declared.transfers.Transfers.{Transfers}
use Rattle.n2_report.specs.Flat.{Uart, flat_part, memory_row}

-- why a core ended: its turns or the journal were used up, or it stopped by itself
abbrev pub why_text : Option Stop → List ℕ
why_text (Some Spent) = codes "spent"
why_text (Some LogFull) = codes "logfull"
why_text (Some stop) = codes "stopped"
why_text None = codes "running"

-- core k: why it ended, after how many turns
unfoldable pub end_row : ℕ → Option Stop → ℕ → List ℕ
end_row k stop turns = codes "end " ++ decimal k ++ codes " " ++ why_text stop ++ codes " " ++ decimal turns ++ codes "\n"

-- cores with their turns, of which the first has number k
abbrev pub ends_text : ℕ → List CoreEnd → List ℕ → List ℕ
ends_text k [] turns = []
ends_text k (core ∷ cores) [] = []
ends_text k (core ∷ cores) (n ∷ turns) = end_row k core.stop n ++ ends_text (k + 1) cores turns

-- numbers with a space before each
abbrev pub numbers_text : List ℕ → List ℕ
numbers_text numbers = flat_map (λ n. 32 ∷ decimal n) numbers

-- fills of code and data caches, write-backs, reads and writes past the caches, samples, and events of the devices
abbrev pub transfers_row : Transfers → List ℕ
transfers_row t = codes "transfers" ++ numbers_text (t.code ∷ t.fill ∷ t.back ∷ t.read ∷ t.write ∷ t.sample ∷ t.device ∷ []) ++ codes "\n"

-- the report
unfoldable pub report_text : List CoreEnd → List ℕ → List Uart → Transfers → List MemoryLine → List ℕ
report_text cores turns uarts transfers lines =
    codes "nios2 report 1\n" ++ flat_part cores uarts ++ ends_text 0 cores turns ++ transfers_row transfers ++ flat_map memory_row lines
