-- What an access past the caches makes of memory and of the book.
use Rattle.std.proofs.Common.{◌≡◌, ℕ, true, false, refl}
use Rattle.n2_word.specs.declared.Width.{Width}
use Rattle.n2_parts.specs.declared.board.Board.{Board}
use Rattle.n2_parts.specs.declared.board.Part.{Part}
use Rattle.n2_board.specs.declared.places.Place.TheVariants as places
use Rattle.n2_board.specs.AddressMap.{AddressMap, place}
use Rattle.n2_board.specs.Places.{places_of, place_in}
use Rattle.n2_memory.specs.Memories.{Contents, read_at, written_at}
use Rattle.n2_bus.specs.declared.request.Request.TheVariants.{Read, Write}
use Rattle.n2_bus.specs.Wiring.{wiring_of}
use Rattle.n2_bus.specs.Transfer.{served, no_words, one_word, lines_of}
use Rattle.n2_watch.specs.Book.{Book}
use Rattle.n2_watch.specs.World.{World, transferred}

abbrev pub world_of : Contents → Book → World
world_of memory book = record { memory = memory; book = book }

module _ (b : Board) (map : AddressMap) (k : ℕ) (book : Book) (a : ℕ) (width : Width) where
  pub put_memory : (m : Contents) (value : ℕ) → place map a ≡ places.Memory → place_in (places_of b) a ≡ places.Memory
      → transferred b map k (world_of m book) (Write a width value) ≡ record { world = world_of (written_at m a width value) book; reply = record { words = no_words; lines = lines_of (wiring_of b) book.devices k; took = true; pointer = 0 } }
  unfolding transferred served
  put_memory m value e f = rw (e, f) refl

  pub got_memory : (m : Contents) → place map a ≡ places.Memory → place_in (places_of b) a ≡ places.Memory
      → transferred b map k (world_of m book) (Read a width) ≡ record { world = world_of m book; reply = record { words = one_word (read_at m a width); lines = lines_of (wiring_of b) book.devices k; took = false; pointer = 0 } }
  unfolding transferred served
  got_memory m e f = rw (e, f) refl

  module _ (part : Part) (offset : ℕ) (f : place_in (places_of b) a ≡ places.Device part offset) where
    pub put_left : (m : Contents) (value : ℕ) → (transferred b map k (world_of m book) (Write a width value)).world.memory ≡ m
    unfolding transferred served
    put_left m value = rw f refl

    pub put_book : (m m' : Contents) (value : ℕ) → (transferred b map k (world_of m book) (Write a width value)).world.book ≡ (transferred b map k (world_of m' book) (Write a width value)).world.book
    unfolding transferred served
    put_book m m' value = rw f refl

    pub put_reply : (m m' : Contents) (value : ℕ) → (transferred b map k (world_of m book) (Write a width value)).reply ≡ (transferred b map k (world_of m' book) (Write a width value)).reply
    unfolding transferred served
    put_reply m m' value = rw f refl

    pub got_left : (m : Contents) → (transferred b map k (world_of m book) (Read a width)).world.memory ≡ m
    unfolding transferred served
    got_left m = rw f refl

    pub got_book : (m m' : Contents) → (transferred b map k (world_of m book) (Read a width)).world.book ≡ (transferred b map k (world_of m' book) (Read a width)).world.book
    unfolding transferred served
    got_book m m' = rw f refl

    pub got_reply : (m m' : Contents) → (transferred b map k (world_of m book) (Read a width)).reply ≡ (transferred b map k (world_of m' book) (Read a width)).reply
    unfolding transferred served
    got_reply m m' = rw f refl
