-- Entries that a row of a journal's text can show.
use Rattle.std.specs.Prelude.{◌≡◌, ℕ, ◌^◌, ◌<◌, List, All}
use Rattle.n2_bus.specs.declared.request.Request.{Request}
use Rattle.n2_bus.specs.declared.request.Request.TheVariants.{WriteBack, Write, Tick}
use Rattle.n2_journal.specs.declared.entry.Entry.{Entry}
use Rattle.n2_journal.specs.Journals.{AreEightWords, IsRequestWithin, IsReplyWithin, shown}

-- a row shows what an entry asked for, and all that was replied
pub record FitsRow (entry : Entry) : Type 0 where
  pub request : IsRequestWithin entry.request
  pub reply : IsReplyWithin entry.reply
  pub shown : entry.reply ≡ shown entry.request entry.reply

abbrev pub FitRows : List Entry → Type 0
FitRows entries = All FitsRow entries

-- the values of a request are those of its types: words, eight of them in a line
abbrev pub HasItsTypes : Request → Type 0
HasItsTypes (WriteBack line words) = AreEightWords words
HasItsTypes (Write address width value) = value < 2 ^ 32
HasItsTypes (Tick n) = n < 2 ^ 32
HasItsTypes _ = Unit {0}
