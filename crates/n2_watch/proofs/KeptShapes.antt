-- Every request keeps the shape of the book.
use Rattle.std.proofs.Common.{◌≡◌, ℕ, zero, suc, ◌%◌, ◌^◌, ◌<◌, Bool, true, false, ◌&&◌, eqb, if◌then◌else◌, List, [], ◌∷◌, ◌++◌, length, get_or, map, slice_get, slice_set, Option, Some, None, length-set, inl, inr, refl, sym, ap, ◌∙◌, arith}
use Rattle.std.specs.Prelude.{option_map}
use Rattle.std.proofs.lemmas.Bool.{cases_eq}
use Rattle.std.proofs.lemmas.List.{length-map}
use Rattle.n2_word.specs.declared.Width.{Width}
use Rattle.n2_mutex.specs.Mutex as mutex
use Rattle.n2_parts.specs.declared.board.Board.{Board}
use Rattle.n2_parts.specs.declared.board.MutexRow.{MutexRow}
use Rattle.n2_parts.specs.declared.board.PartKind.{PartKind}
use Rattle.n2_parts.specs.declared.board.PartKind.TheVariants as kinds
use Rattle.n2_board.specs.declared.places.Place.{Place}
use Rattle.n2_board.specs.declared.places.Place.TheVariants as places
use Rattle.n2_board.specs.AddressMap.{AddressMap, place}
use Rattle.n2_board.specs.declared.guards.Holder.{Holder}
use Rattle.n2_board.specs.declared.guards.Holder.TheVariants.{ByMailbox}
use Rattle.n2_board.specs.Places.{place_in, places_of}
use Rattle.n2_devices.specs.Devices.{Devices, Reaction, reaction_at, read_mutex, write_mutex, read_at, write_at}
use Rattle.n2_bus.specs.declared.request.Request.{Request}
use Rattle.n2_bus.specs.declared.request.Request.TheVariants as requests
use Rattle.n2_bus.specs.declared.request.Reply.{Reply}
use Rattle.n2_bus.specs.Wiring.{wiring_of}
use Rattle.n2_bus.specs.Transfer.{Shared, served, read_served, write_served}
use Rattle.n2_watch.specs.Book.{Book, start_book, region_at, pointer_of, with_holder, holders_read, holders_written, holders_after, holders_after_read, holders_after_write, sent_written, sent_after, sent_after_write}
use Rattle.n2_watch.specs.World.{World, shared, transferred}
use Rattle.n2_watch.specs.Shapes.{HasBoardShape}
use Rattle.n2_watch.proofs.KeptLists.{get-set_same, get-set_other}

abbrev IsNarrow : mutex.State → Type 0
IsNarrow state = state.value < 2 ^ 16

abbrev AreNarrow : List mutex.State → Type 0
AreNarrow states = (index : ℕ) (state : mutex.State) → slice_get states index ≡ Some state → IsNarrow state

record IsSameSize (before after : Devices) : Type 0 where
  mutexes : length after.mutexes ≡ length before.mutexes
  mailboxes : length after.mailboxes ≡ length before.mailboxes
  timers : length after.timers ≡ length before.timers
  uarts : length after.uarts ≡ length before.uarts
  values : AreNarrow before.mutexes → AreNarrow after.mutexes

same_size : (d : Devices) → IsSameSize d d
same_size d = record { mutexes = refl; mailboxes = refl; timers = refl; uarts = refl; values = λ h. h }

reacted_size : {S : Type 0} (states : List S) (index : ℕ) (o : Option (Reaction S)) → length (reaction_at states index o).state ≡ length states
reacted_size states index None = refl
reacted_size states index (Some reaction) = length-set states index reaction.state

reacted_values : (act : mutex.State → Reaction mutex.State) → ((s : mutex.State) → IsNarrow s → IsNarrow (act s).state) → (states : List mutex.State) (index : ℕ) (o : Option mutex.State) → slice_get states index ≡ o → AreNarrow states → AreNarrow (reaction_at states index (option_map act o)).state
reacted_values act keeps states index None e h = h
reacted_values act keeps states index (Some s) e h = λ i state f. elim (cases_eq i index) [
  | inl x ↦
      let z : ◌≡◌ {A = Option mutex.State} (Some (act s).state) (Some state) = sym (get-set_same states index s (act s).state e) ∙ ap (λ (y : ℕ). slice_get (slice_set states index (act s).state) y) (sym x) ∙ f in
      let same : (act s).state ≡ state = grind arith in
      rw (← same) (keeps s (h index s e))
  | inr n ↦ h i state (sym (get-set_other states index i (act s).state n) ∙ f)
]

narrow_word : (w : ℕ) → w % 2 ^ 16 < 2 ^ 16
narrow_word w = omega arith

narrow_taken : (s : mutex.State) (w : ℕ) (takes : Bool) → IsNarrow s → IsNarrow (if takes then record s { owner = mutex.owner_in w; value = mutex.value_in w } else s)
narrow_taken s w true h = narrow_word w
narrow_taken s w false h = h

narrow_written : (offset w : ℕ) (s : mutex.State) (register : Bool) → IsNarrow s → IsNarrow (if register then mutex.with_owner_and_value s w else record s { reset = (mutex.after_write s 1 w).reset })
narrow_written offset w s true h = narrow_taken s w (mutex.takes s 0 w) h
narrow_written offset w s false h = h

write_size : (d : Devices) (kind : PartKind) (index offset w : ℕ) → IsSameSize d (write_at d kind index offset w).state
write_size d kinds.Top index offset w = same_size d
write_size d kinds.Memory index offset w = same_size d
write_size d kinds.Core index offset w = same_size d
write_size d kinds.Mutex index offset w = record { mutexes = reacted_size d.mutexes index _; mailboxes = refl; timers = refl; uarts = refl; values = reacted_values (write_mutex offset w) (λ s. narrow_written offset w s (eqb offset 0)) d.mutexes index (slice_get d.mutexes index) refl }
write_size d kinds.Mailbox index offset w = record { mutexes = refl; mailboxes = reacted_size d.mailboxes index _; timers = refl; uarts = refl; values = λ h. h }
write_size d kinds.Timer index offset w = record { mutexes = refl; mailboxes = refl; timers = reacted_size d.timers index _; uarts = refl; values = λ h. h }
write_size d kinds.Uart index offset w = record { mutexes = refl; mailboxes = refl; timers = refl; uarts = reacted_size d.uarts index _; values = λ h. h }
write_size d kinds.Region index offset w = same_size d
write_size d kinds.Dump index offset w = same_size d
write_size d kinds.Script index offset w = same_size d

read_size : (d : Devices) (kind : PartKind) (index offset : ℕ) → IsSameSize d (read_at d kind index offset).state
read_size d kinds.Top index offset = same_size d
read_size d kinds.Memory index offset = same_size d
read_size d kinds.Core index offset = same_size d
read_size d kinds.Mutex index offset = record { mutexes = reacted_size d.mutexes index _; mailboxes = refl; timers = refl; uarts = refl; values = reacted_values (read_mutex offset) (λ s h. h) d.mutexes index (slice_get d.mutexes index) refl }
read_size d kinds.Mailbox index offset = record { mutexes = refl; mailboxes = reacted_size d.mailboxes index _; timers = refl; uarts = refl; values = λ h. h }
read_size d kinds.Timer index offset = record { mutexes = refl; mailboxes = refl; timers = reacted_size d.timers index _; uarts = refl; values = λ h. h }
read_size d kinds.Uart index offset = record { mutexes = refl; mailboxes = refl; timers = refl; uarts = reacted_size d.uarts index _; values = λ h. h }
read_size d kinds.Region index offset = same_size d
read_size d kinds.Dump index offset = same_size d
read_size d kinds.Script index offset = same_size d

read_served_size : (b : Board) (k : ℕ) (s : Shared) (there : Place) (address : ℕ) (width : Width) → IsSameSize s.devices (read_served (wiring_of b) k s there address width).shared.devices
read_served_size b k s places.Memory address width = same_size s.devices
read_served_size b k s (places.Device part offset) address width = read_size s.devices part.kind part.index offset
read_served_size b k s places.Nothing address width = same_size s.devices

write_served_size : (b : Board) (k : ℕ) (s : Shared) (there : Place) (address : ℕ) (width : Width) (value : ℕ) → IsSameSize s.devices (write_served (wiring_of b) k s there address width value).shared.devices
write_served_size b k s places.Memory address width value = same_size s.devices
write_served_size b k s (places.Device part offset) address width value = write_size s.devices part.kind part.index offset value
write_served_size b k s places.Nothing address width value = same_size s.devices

served_size : (b : Board) (k : ℕ) (s : Shared) (request : Request) → IsSameSize s.devices (served (wiring_of b) k s request).shared.devices
unfolding served
served_size b k s (requests.FillCode number) = same_size s.devices
served_size b k s (requests.FillData number) = same_size s.devices
served_size b k s (requests.WriteBack number words) = same_size s.devices
served_size b k s (requests.Read address width) = read_served_size b k s (place_in (places_of b) address) address width
served_size b k s (requests.Write address width value) = write_served_size b k s (place_in (places_of b) address) address width value
served_size b k s requests.Sample = same_size s.devices
served_size b k s (requests.Tick n) = record { mutexes = refl; mailboxes = refl; timers = length-map s.devices.timers _; uarts = refl; values = λ h. h }
served_size b k s (requests.Receive uart) = record { mutexes = refl; mailboxes = refl; timers = refl; uarts = reacted_size s.devices.uarts uart _; values = λ h. h }
served_size b k s (requests.Drain uart) = record { mutexes = refl; mailboxes = refl; timers = refl; uarts = reacted_size s.devices.uarts uart _; values = λ h. h }

-- ---- holders and sent bytes
with_holder_size : (holders : List (Option Holder)) (o : Option ℕ) (holder : Holder) → length (with_holder holders o holder) ≡ length holders
with_holder_size holders None holder = refl
with_holder_size holders (Some region) holder = length-set holders region (Some holder)

either_size : {X : Type 0} (test : Bool) (xs ys : List X) → length xs ≡ length ys → length (if test then xs else ys) ≡ length ys
either_size true xs ys e = e
either_size false xs ys e = refl

module _ (b : Board) (map' : AddressMap) (book : Book) (reply : Reply) where
  read_holders_size : (kind : PartKind) (index : ℕ) → length (holders_read b map' book kind index reply) ≡ length book.holders
  read_holders_size kinds.Mailbox index = either_size reply.took _ book.holders (with_holder_size book.holders _ _)
  read_holders_size _ index = refl

  written_holders_size : (kind : PartKind) (index offset : ℕ) → length (holders_written map' book kind index offset reply) ≡ length book.holders
  written_holders_size kinds.Mailbox index offset = either_size (eqb offset 0 && reply.took) (with_holder book.holders (region_at map' (pointer_of book index)) (ByMailbox index)) book.holders (with_holder_size book.holders (region_at map' (pointer_of book index)) (ByMailbox index))
  written_holders_size _ index offset = refl

  written_sent_size : (kind : PartKind) (index offset value : ℕ) → length (sent_written book kind index offset value reply) ≡ length book.sent
  written_sent_size kinds.Uart index offset value = either_size (eqb offset 0 && reply.took) (slice_set book.sent index (get_or book.sent index [] ++ value % 2 ^ 8 ∷ [])) book.sent (length-set book.sent index (get_or book.sent index [] ++ value % 2 ^ 8 ∷ []))
  written_sent_size _ index offset value = refl

  place_holders_read : (there : Place) → length (holders_after_read b map' book there reply) ≡ length book.holders
  place_holders_read places.Memory = refl
  place_holders_read (places.Device part offset) = read_holders_size part.kind part.index
  place_holders_read places.Nothing = refl

  place_holders_written : (there : Place) → length (holders_after_write map' book there reply) ≡ length book.holders
  place_holders_written places.Memory = refl
  place_holders_written (places.Device part offset) = written_holders_size part.kind part.index offset
  place_holders_written places.Nothing = refl

  place_sent : (there : Place) (value : ℕ) → length (sent_after_write book there value reply) ≡ length book.sent
  place_sent places.Memory value = refl
  place_sent (places.Device part offset) value = written_sent_size part.kind part.index offset value
  place_sent places.Nothing value = refl

  holders_size : (request : Request) → length (holders_after b map' book request reply) ≡ length book.holders
  holders_size (requests.Read address width) = place_holders_read (place map' address)
  holders_size (requests.Write address width value) = place_holders_written (place map' address)
  holders_size _ = refl

  sent_size : (request : Request) → length (sent_after map' book request reply) ≡ length book.sent
  sent_size (requests.Write address width value) = place_sent (place map' address) value
  sent_size _ = refl

pub shape_kept : (b : Board) (map' : AddressMap) (actor : ℕ) (w : World) (request : Request) → HasBoardShape b w.book → HasBoardShape b (transferred b map' actor w request).world.book
unfolding transferred
shape_kept b map' actor w request h =
    let size = served_size b actor (shared w) request in
    let reply = (served (wiring_of b) actor (shared w) request).reply in
    record {
      mutexes = size.mutexes ∙ h.mutexes;
      mailboxes = size.mailboxes ∙ h.mailboxes;
      timers = size.timers ∙ h.timers;
      uarts = size.uarts ∙ h.uarts;
      sent = sent_size b map' w.book reply request ∙ h.sent;
      holders = holders_size b map' w.book reply request ∙ h.holders;
      values = size.values h.values;
    }

started_narrow : (rows : List MutexRow) → AreNarrow (map (λ (row : MutexRow). mutex.started) rows)
started_narrow [] index state e = absurd (cc)
started_narrow (row ∷ rows) zero state e = let same : mutex.started ≡ state = grind arith in rw (← same) (omega arith)
started_narrow (row ∷ rows) (suc index) state e = started_narrow rows index state e

pub start_shape : (b : Board) → HasBoardShape b (start_book b)
start_shape b = record {
  mutexes = length-map b.mutex _;
  mailboxes = length-map b.mailbox _;
  timers = length-map b.timer _;
  uarts = length-map b.uart _;
  sent = length-map b.uart _;
  holders = length-map b.region _;
  values = started_narrow b.mutex;
}
