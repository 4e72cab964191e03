-- What turns keep and what they leave to others: what of the book a core knows, and what the machine keeps of its book by itself.
use Rattle.std.specs.Prelude.{◌≡◌, ℕ, ◌+◌, length, slice_get, slice_set, Some, None}
use Rattle.n2_parts.specs.declared.board.Board.{Board}
use Rattle.n2_parts.specs.declared.board.MailboxRow.{MailboxRow}
use Rattle.n2_parts.specs.declared.stops.Stop.{Stop}
use Rattle.n2_board.specs.declared.guards.Guard.{Guard}
use Rattle.n2_board.specs.AddressMap.{AddressMap}
use Rattle.n2_watch.specs.Book.{Book, owned_by, pointer_of}
use Rattle.n2_watch.specs.Kept.{IsKept}
use Rattle.n2_watch.specs.Shapes.{HasBoardShape}
use Rattle.n2_front.specs.Front.{stopped}
use Rattle.n2_front.specs.Core.{Core}
use Rattle.n2_runs.specs.Machine.{Machine}
use Rattle.n2_runs.specs.Agree.{fronts_of, pasts_of}

-- core k knows the same of two books: it owns the same guards, and the mailboxes that it sends to have the same Pointer registers
pub record KnowsSame (b : Board) (k : ℕ) (before after : Book) : Type 0 where
  pub guards : (guard : Guard) → owned_by b after k guard ≡ owned_by b before k guard
  pub pointers : (index : ℕ) (row : MailboxRow) → slice_get b.mailbox index ≡ Some row → row.sender ≡ k → pointer_of after index ≡ pointer_of before index

-- the parts of the agreement that speak of the book and the past events alone
pub record IsBookKept (b : Board) (map : AddressMap) (m : Machine) : Type 0 where
  pub count : length m.cores ≡ length b.core
  pub shape : HasBoardShape b m.world.book
  pub kept : IsKept b map m.world.book (pasts_of (fronts_of m.cores))

-- a core after a turn that stopped it, by a refusal, by a stray access or by `break`
abbrev pub only_stopped : Core → Stop → Core
only_stopped c stop = record {
  front = stopped c.front stop;
  data_slots = c.data_slots;
  code_slots = c.code_slots;
  turns = c.turns + 1;
  local = c.local + 1;
  ended = None;
}

-- a machine after it
abbrev pub with_stopped : Machine → ℕ → Core → Stop → Machine
with_stopped m k c stop = record { world = m.world; cores = slice_set m.cores k (only_stopped c stop); entries = m.entries; script = m.script }
