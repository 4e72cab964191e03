-- Every proper request keeps the memories whole and the book one of its board.
use Rattle.std.proofs.Common.{◌≡◌, ℕ, ◌/◌, ◌%◌, ◌^◌, ◌<◌, true, ◌&&◌, ltb, List, refl, sym, subst, ap, arith}
use Rattle.std.proofs.lemmas.Bool.{ltb-true, and_parts}
use Rattle.n2_word.specs.declared.Width.{Width}
use Rattle.n2_word.specs.Words.{is_aligned}
use Rattle.n2_word.specs.Lines.{line}
use Rattle.n2_parts.specs.declared.board.Board.{Board}
use Rattle.n2_parts.specs.declared.board.MemoryRow.{MemoryRow}
use Rattle.n2_parts.specs.MemoryLines.{HasLine, line_count, line_place}
use Rattle.n2_parts.specs.Valid.{IsValid}
use Rattle.n2_board.specs.declared.places.Place.{Place}
use Rattle.n2_board.specs.declared.places.Place.TheVariants as places
use Rattle.n2_board.specs.AddressMap.{AddressMap}
use Rattle.n2_board.specs.Places.{place_in, places_of}
use Rattle.n2_board.proofs.Memories.{is_line}
use Rattle.n2_memory.specs.Memories.{Contents, IsFull, written_at}
use Rattle.n2_memory.proofs.Writes.{full-written_at, full-with_line}
use Rattle.n2_bus.specs.declared.request.Request.{Request}
use Rattle.n2_bus.specs.declared.request.Request.TheVariants as requests
use Rattle.n2_bus.specs.Wiring.{wiring_of, is_core, is_access, is_accessed, proper}
use Rattle.n2_bus.specs.Transfer.{Shared, served, write_served, read_served}
use Rattle.n2_watch.specs.World.{World, shared, transferred}
use Rattle.n2_watch.specs.Shapes.{HasWorldShape, HasWords}
use Rattle.n2_watch.proofs.KeptShapes.{shape_kept}

-- memories of a board with all their words
record IsWhole (b : Board) (m : Contents) : Type 0 where
  memories : m.memories ≡ b.memory
  full : IsFull m

line_in : (b : Board) (m : Contents) (number : ℕ) → IsWhole b m → HasLine b.memory number → HasLine m.memories number
line_in b m number h there = subst (λ (rows : List MemoryRow). HasLine rows number) (sym h.memories) there

pub written_whole : (b : Board) (m : Contents) (address : ℕ) (width : Width) (value : ℕ) → IsFull m → m.memories ≡ b.memory → HasLine b.memory (line address) → IsFull (written_at m address width value)
written_whole b m address width value full is there = full-written_at m address width value full (line_in b m (line address) (record { memories = is; full = full }) there)

low_line : (b : Board) (address : ℕ) → address < 2 ^ 31 → HasLine b.memory (address / 32) → HasLine b.memory (line address)
low_line b address lt h = let e : address % 2 ^ 31 ≡ address = omega arith in subst (λ (n : ℕ). HasLine b.memory n) (sym (ap (λ (n : ℕ). n / 32) e)) h

-- what a write needs
module _ (b : Board) (valid : IsValid b) (actor : ℕ) (s : Shared) (h : IsWhole b s.memory) where
  put_whole : (address : ℕ) (width : Width) (value : ℕ) → address < 2 ^ 31 → (there : Place) → place_in (places_of b) address ≡ there → IsWhole b (write_served (wiring_of b) actor s there address width value).shared.memory
  put_whole address width value lt places.Memory e = record { memories = h.memories; full = written_whole b s.memory address width value h.full h.memories (low_line b address lt (is_line b address valid e)) }
  put_whole address width value lt (places.Device part offset) e = h
  put_whole address width value lt places.Nothing e = h

  got_whole : (address : ℕ) (width : Width) (there : Place) → IsWhole b (read_served (wiring_of b) actor s there address width).shared.memory
  got_whole address width places.Memory = h
  got_whole address width (places.Device part offset) = h
  got_whole address width places.Nothing = h

  served_whole : (request : Request) → proper (wiring_of b) actor request ≡ true → HasWords request → IsWhole b (served (wiring_of b) actor s request).shared.memory
  unfolding served
  served_whole (requests.FillCode number) p words = h
  served_whole (requests.FillData number) p words = h
  served_whole (requests.WriteBack number words) p eight =
      let there = ltb-true (line_place b.memory number) (line_count b.memory) (and_parts (is_core (wiring_of b) actor) (ltb (line_place b.memory number) (line_count b.memory)) p).1 in
      record { memories = h.memories; full = full-with_line s.memory number words h.full (line_in b s.memory number h there) eight }
  served_whole (requests.Read address width) p words = got_whole address width (place_in (places_of b) address)
  served_whole (requests.Write address width value) p words =
      let access = (and_parts (is_core (wiring_of b) actor) (is_access (wiring_of b) address width) p).1 in
      let low = (and_parts (is_aligned address width) (ltb address (2 ^ 31)) (and_parts (is_aligned address width && ltb address (2 ^ 31)) (is_accessed (place_in (places_of b) address) width) access).0).1 in
      put_whole address width value (ltb-true address (2 ^ 31) low) (place_in (places_of b) address) refl
  served_whole requests.Sample p words = h
  served_whole (requests.Tick n) p words = h
  served_whole (requests.Receive uart) p words = h
  served_whole (requests.Drain uart) p words = h

pub world_kept : (b : Board) (map : AddressMap) (actor : ℕ) (w : World) (request : Request) → IsValid b → proper (wiring_of b) actor request ≡ true → HasWords request → HasWorldShape b w → HasWorldShape b (transferred b map actor w request).world
unfolding transferred
world_kept b map actor w request valid p words h =
    let m = served_whole b valid actor (shared w) (record { memories = h.memories; full = h.full }) request p words in
    record { memories = m.memories; full = m.full; book = shape_kept b map actor w request h.book }

-- the same for a load and a store past the caches, whatever is accessed
pub load_kept : (b : Board) (map : AddressMap) (actor : ℕ) (w : World) (address : ℕ) (width : Width) → IsValid b → HasWorldShape b w → HasWorldShape b (transferred b map actor w (requests.Read address width)).world
unfolding transferred served
load_kept b map actor w address width valid h =
    let m = got_whole b valid actor (shared w) (record { memories = h.memories; full = h.full }) address width (place_in (places_of b) address) in
    record { memories = m.memories; full = m.full; book = shape_kept b map actor w (requests.Read address width) h.book }

pub store_kept : (b : Board) (map : AddressMap) (actor : ℕ) (w : World) (address : ℕ) (width : Width) (value : ℕ) → IsValid b → address < 2 ^ 31 → HasWorldShape b w → HasWorldShape b (transferred b map actor w (requests.Write address width value)).world
unfolding transferred served
store_kept b map actor w address width value valid lt h =
    let m = put_whole b valid actor (shared w) (record { memories = h.memories; full = h.full }) address width value lt (place_in (places_of b) address) refl in
    record { memories = m.memories; full = m.full; book = shape_kept b map actor w (requests.Write address width value) h.book }
