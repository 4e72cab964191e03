-- All that the cores of a board share: the memory and the book. What a transfer makes of them, in one machine as in the other.
use Rattle.std.specs.Prelude.{ℕ, List}
use Rattle.n2_elf.specs.declared.image.Image.{Image}
use Rattle.n2_parts.specs.declared.board.Board.{Board}
use Rattle.n2_board.specs.AddressMap.{AddressMap}
use Rattle.n2_memory.specs.Memories.{Contents}
use Rattle.n2_memory.specs.Start.{start}
use Rattle.n2_bus.specs.declared.request.Request.{Request}
use Rattle.n2_bus.specs.declared.request.Reply.{Reply}
use Rattle.n2_bus.specs.Wiring.{wiring_of}
use Rattle.n2_bus.specs.Transfer.{Shared, served}
use Rattle.n2_watch.specs.Book.{Book, start_book, book_after}

pub record World : Type 0 where
  pub memory : Contents
  pub book : Book

-- at the start
abbrev pub start_world : Board → List Image → World
start_world b images = record { memory = start b.memory images; book = start_book b }

abbrev pub shared : World → Shared
shared w = record { memory = w.memory; devices = w.book.devices }

-- what a request leaves behind, and what it is replied
pub record Transferred : Type 0 where
  pub world : World
  pub reply : Reply

abbrev pub transferred_with : Board → AddressMap → World → Request → Shared → Reply → Transferred
transferred_with b map w request after reply =
    record { world = record { memory = after.memory; book = book_after b map w.book after.devices request reply }; reply = reply }

-- an actor's transfer
unfoldable pub transferred : Board → AddressMap → ℕ → World → Request → Transferred
transferred b map actor w request =
    transferred_with b map w request (served (wiring_of b) actor (shared w) request).shared (served (wiring_of b) actor (shared w) request).reply
