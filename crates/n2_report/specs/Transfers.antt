-- How many transfers of each kind a journal has.
use Rattle.std.specs.Prelude.{ℕ, List, count_by, Bool, true, false}
use Rattle.n2_bus.specs.declared.request.Request.{Request}
use Rattle.n2_bus.specs.declared.request.Request.TheVariants.{FillCode, FillData, WriteBack, Read, Write, Sample, Tick, Receive, Drain}
use Rattle.n2_journal.specs.declared.entry.Entry.{Entry}
use Rattle.n2_report.specs.declared.transfers.Transfers.{Transfers}

abbrev pub is_code : Request → Bool
is_code (FillCode line) = true
is_code _ = false

abbrev pub is_fill : Request → Bool
is_fill (FillData line) = true
is_fill _ = false

abbrev pub is_back : Request → Bool
is_back (WriteBack line words) = true
is_back _ = false

abbrev pub is_read : Request → Bool
is_read (Read address width) = true
is_read _ = false

abbrev pub is_write : Request → Bool
is_write (Write address width value) = true
is_write _ = false

abbrev pub is_sample : Request → Bool
is_sample Sample = true
is_sample _ = false

-- an event of the devices
abbrev pub is_device : Request → Bool
is_device (Tick n) = true
is_device (Receive uart) = true
is_device (Drain uart) = true
is_device _ = false

-- how many requests are of a kind
abbrev pub how_many : (Request → Bool) → List Entry → ℕ
how_many kind entries = count_by (λ entry. kind entry.request) entries

-- the transfers of a journal, by their kinds
abbrev pub transfers_of : List Entry → Transfers
transfers_of entries = record {
  code = how_many is_code entries;
  fill = how_many is_fill entries;
  back = how_many is_back entries;
  read = how_many is_read entries;
  write = how_many is_write entries;
  sample = how_many is_sample entries;
  device = how_many is_device entries;
}
