-- Which lines of memory an access past the caches changes, and the memories at the start.
use Rattle.std.proofs.Common.{◌≡◌, ◌≢◌, ℕ, ◌/◌, ◌%◌, ◌^◌, Bool, true, false, List, [], ◌∷◌, Option, Some, None, refl, sym, subst, ap, ◌∙◌, arith}
use Rattle.std.specs.List.{AllByRecursion}
use Rattle.std.proofs.lemmas.Bool.{false≢true}
use Rattle.n2_word.specs.declared.Width.{Width}
use Rattle.n2_word.specs.Lines.{line, without_bypass}
use Rattle.n2_elf.specs.declared.image.Image.{Image}
use Rattle.n2_elf.specs.declared.image.Segment.{Segment}
use Rattle.n2_elf.specs.Reading.{IsSized}
use Rattle.n2_parts.specs.declared.board.Board.{Board}
use Rattle.n2_parts.specs.declared.board.MemoryRow.{MemoryRow}
use Rattle.n2_parts.specs.MemoryLines.{HasLine}
use Rattle.n2_parts.specs.Valid.{IsValid}
use Rattle.n2_parts.proofs.WholeLines.{whole_lines, few_lines}
use Rattle.n2_board.specs.declared.access.Route.TheVariants.{Bypassing}
use Rattle.n2_board.specs.declared.classes.Class.{Class}
use Rattle.n2_board.specs.declared.classes.Class.TheVariants as classes
use Rattle.n2_board.specs.declared.places.Place.{Place}
use Rattle.n2_board.specs.declared.places.Place.TheVariants as places
use Rattle.n2_board.specs.AddressMap.{AddressMap, address_map, class_of}
use Rattle.n2_board.specs.Access.{allows, data_target, target_at, memory_target}
use Rattle.n2_board.specs.Places.{place_in, places_of}
use Rattle.n2_board.proofs.Memories.{is_line}
use Rattle.n2_memory.specs.Memories.{Contents, IsFull, line_at, written_at}
use Rattle.n2_memory.specs.Start.{zeros, loaded, start, segments_of, bytes_of_segment, stored, AreInside}
use Rattle.n2_memory.proofs.Writes.{read_other_line}
use Rattle.n2_memory.proofs.Starts.{stored_memories, start_full}
use Rattle.n2_bus.specs.declared.request.Request.TheVariants as requests
use Rattle.n2_bus.specs.Wiring.{wiring_of}
use Rattle.n2_bus.specs.Transfer.{served, write_served, read_served}
use Rattle.n2_watch.specs.declared.past.Past.{Past}
use Rattle.n2_watch.specs.declared.access.Access.TheVariants.{Bypass}
use Rattle.n2_watch.specs.Discipline.{Knowledge, bypass_breach, breach, direction}
use Rattle.n2_watch.specs.Book.{knowledge}
use Rattle.n2_watch.specs.World.{World, start_world, shared, transferred}
use Rattle.n2_watch.specs.Shapes.{HasWorldShape, BypassAccess, IsLetPast, request_with, accessed}
use Rattle.n2_watch.proofs.KeptShapes.{start_shape}
use Rattle.n2_watch.proofs.KeptTransfers.{place_same}

-- ---- lines

pub other_written : (b : Board) (m : Contents) (address : ℕ) (width : Width) (value number : ℕ) → IsFull m → m.memories ≡ b.memory → HasLine b.memory (line address) → HasLine b.memory number → number ≢ line address → line_at (written_at m address width value) number ≡ line_at m number
other_written b m address width value number full is here there n =
    read_other_line m address width value number full (subst (λ (rows : List MemoryRow). HasLine rows (line address)) (sym is) here) (subst (λ (rows : List MemoryRow). HasLine rows number) (sym is) there) n

-- a store past the caches that breaks nothing is of an uncached line, where it is of memory
uncached_only : (class : Class) (k : ℕ) → allows class k Bypassing (direction true) ≡ true → class ≡ classes.Uncached
uncached_only classes.Code k e = absurd (false≢true e)
uncached_only (classes.Private owner) k e = absurd (false≢true e)
uncached_only (classes.Mutex mutex) k e = absurd (false≢true e)
uncached_only (classes.Passed region) k e = absurd (false≢true e)
uncached_only classes.Uncached k e = refl
uncached_only classes.Absent k e = absurd (false≢true e)

allowed_store : (b : Board) (map : AddressMap) (who : Knowledge) (value number : ℕ) (allowed : Bool) → bypass_breach b map who (memory_target allowed) true value number ≡ None → allowed ≡ true
allowed_store b map who value number true br = refl
allowed_store b map who value number false br = absurd (cc)

line_again : (address : ℕ) → line (without_bypass address) ≡ line address
line_again address = let e : address % 2 ^ 31 % 2 ^ 31 ≡ address % 2 ^ 31 = omega arith in ap (λ (n : ℕ). n / 32) e

module _ (b : Board) (valid : IsValid b) (map : AddressMap) (k : ℕ) (w : World) (past : List Past) (h : HasWorldShape b w) (number : ℕ) (there : HasLine b.memory number) (cached : class_of map number ≢ classes.Uncached) where
  put_line : (address value : ℕ) (width : Width) (stands : Place) → place_in (places_of b) (without_bypass address) ≡ stands → bypass_breach b map (knowledge b w.book k past) (target_at stands (class_of map (line address)) k width Bypassing (direction true)) true value (line address) ≡ None → line_at (write_served (wiring_of b) k (shared w) stands (without_bypass address) width value).shared.memory number ≡ line_at w.memory number
  put_line address value width places.Memory e br =
      let uncached = uncached_only (class_of map (line address)) k (allowed_store b map (knowledge b w.book k past) value (line address) (allows (class_of map (line address)) k Bypassing (direction true)) br) in
      let here : HasLine b.memory (line (without_bypass address)) = subst (λ (n : ℕ). HasLine b.memory n) (sym (line_again address)) (is_line b (without_bypass address) valid e) in
      other_written b w.memory (without_bypass address) width value number h.full h.memories here there (λ same. cached (ap (λ (n : ℕ). class_of map n) (same ∙ line_again address) ∙ uncached))
  put_line address value width (places.Device part offset) e br = refl
  put_line address value width places.Nothing e br = refl

  got_line : (address : ℕ) (width : Width) (stands : Place) → line_at (read_served (wiring_of b) k (shared w) stands address width).shared.memory number ≡ line_at w.memory number
  got_line address width places.Memory = refl
  got_line address width (places.Device part offset) = refl
  got_line address width places.Nothing = refl

  pub store_line : (images : List Image) → map ≡ address_map b images → (address value : ℕ) (width : Width) → breach b map (knowledge b w.book k past) (Bypass address true value) width ≡ None → line_at (transferred b map k w (requests.Write (without_bypass address) width value)).world.memory number ≡ line_at w.memory number
  unfolding breach data_target transferred served
  store_line images is address value width br =
      put_line address value width (place_in (places_of b) (without_bypass address)) refl
      (subst (λ (stands : Place). bypass_breach b map (knowledge b w.book k past) (target_at stands (class_of map (line address)) k width Bypassing (direction true)) true value (line address) ≡ None) (place_same b images map is (without_bypass address)) br)

  pub load_line : (address : ℕ) (width : Width) → line_at (transferred b map k w (requests.Read address width)).world.memory number ≡ line_at w.memory number
  unfolding transferred served
  load_line address width = got_line address width (place_in (places_of b) address)

bypass_with : (b : Board) (images : List Image) (map : AddressMap) (k : ℕ) (w : World) (past : List Past) (address : ℕ) (width : Width) (stored : Option ℕ) (number : ℕ) → IsLetPast b images map k w past (record { address = address; width = width; stored = stored }) → HasWorldShape b w → HasLine b.memory number → class_of map number ≢ classes.Uncached → line_at (transferred b map k w (request_with address width stored)).world.memory number ≡ line_at w.memory number
bypass_with b images map k w past address width None number x h there cached = load_line b x.valid map k w past h number there cached (without_bypass address) width
bypass_with b images map k w past address width (Some value) number x h there cached = store_line b x.valid map k w past h number there cached images x.map_is address value width x.unbroken

pub bypass_line : (b : Board) (images : List Image) (map : AddressMap) (k : ℕ) (w : World) (past : List Past) (access : BypassAccess) (number : ℕ) → IsLetPast b images map k w past access → HasWorldShape b w → HasLine b.memory number → class_of map number ≢ classes.Uncached → line_at (accessed b map k w access).world.memory number ≡ line_at w.memory number
bypass_line b images map k w past access number x h there cached = bypass_with b images map k w past access.address access.width access.stored number x h there cached

-- ---- the start
loaded_memories : (m : Contents) (segments : List Segment) → (loaded m segments).memories ≡ m.memories
unfolding loaded
loaded_memories m [] = refl
loaded_memories m (s ∷ segments) = loaded_memories (stored m s.at (bytes_of_segment s)) segments ∙ stored_memories m s.at (bytes_of_segment s)

start_memories : (memories : List MemoryRow) (images : List Image) → (start memories images).memories ≡ memories
unfolding start zeros
start_memories memories images = loaded_memories (zeros memories) (segments_of images)

pub start_whole : (b : Board) (images : List Image) → IsValid b → AreInside b.memory images → AllByRecursion IsSized images → HasWorldShape b (start_world b images)
start_whole b images valid inside sized = record {
  memories = start_memories b.memory images;
  full = start_full b.memory images (whole_lines b valid) (few_lines b valid) inside sized;
  book = start_shape b;
}
