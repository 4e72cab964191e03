-- What a transfer for an access that breaks nothing changes of what cores own.
use Rattle.std.proofs.Common.{◌≡◌, ℕ, ◌<◌, ◌≤◌, Bool, true, false, ◌&&◌, eqb, if◌then◌else◌, List, [], ◌∷◌, length, slice_get, slice_set, Option, Some, None, refl, ap, subst, arith}
use Rattle.std.specs.Prelude.{option_map}
use Rattle.std.proofs.lemmas.Bool.{true≢false}
use Rattle.n2_word.specs.declared.Width.{Width}
use Rattle.n2_word.specs.declared.Width.TheVariants.{Byte, Half, Word}
use Rattle.n2_word.specs.Lines.{line, without_bypass}
use Rattle.n2_mutex.specs.Mutex as mutex
use Rattle.n2_elf.specs.declared.image.Image.{Image}
use Rattle.n2_parts.specs.declared.board.Board.{Board}
use Rattle.n2_parts.specs.declared.board.Part.{Part}
use Rattle.n2_parts.specs.declared.board.PartKind.{PartKind}
use Rattle.n2_parts.specs.declared.board.PartKind.TheVariants as kinds
use Rattle.n2_parts.specs.Valid.{IsValid}
use Rattle.n2_board.specs.declared.access.Route.TheVariants.{Bypassing}
use Rattle.n2_board.specs.declared.classes.Class.{Class}
use Rattle.n2_board.specs.declared.guards.Guard.TheVariants.{Mutex}
use Rattle.n2_board.specs.declared.places.Place.{Place}
use Rattle.n2_board.specs.declared.places.Place.TheVariants as places
use Rattle.n2_board.specs.AddressMap.{AddressMap, address_map, class_of, place}
use Rattle.n2_board.specs.Access.{data_target, target_at}
use Rattle.n2_board.specs.Places.{place_in, places_of}
use Rattle.n2_devices.specs.Devices.{Reaction, reaction_at, read_mutex, write_mutex, read_at, write_at}
use Rattle.n2_bus.specs.declared.request.Request.{Request}
use Rattle.n2_bus.specs.declared.request.Request.TheVariants.{Read, Write}
use Rattle.n2_bus.specs.declared.request.Request.TheVariants as requests
use Rattle.n2_bus.specs.Wiring.{Wiring, wiring_of}
use Rattle.n2_bus.specs.Transfer.{Served, served, read_served, write_served, device_reply}
use Rattle.n2_watch.specs.declared.past.Past.{Past}
use Rattle.n2_watch.specs.declared.access.Access.TheVariants.{Bypass}
use Rattle.n2_watch.specs.Discipline.{mutex_breach, device_breach, bypass_breach, breach, direction}
use Rattle.n2_watch.specs.Book.{Book, knowledge, guards_read, guards_written, guards_after_read, guards_after_write, guards_touched, holders_read, holders_written, holders_after_read, holders_after_write, sent_after_write}
use Rattle.n2_watch.specs.World.{World, shared, transferred}
use Rattle.n2_watch.specs.Kept.{IsPosted}
use Rattle.n2_watch.specs.Shapes.{HasBoardShape, BypassAccess, IsLetPast, request_with, request_of, accessed, is_access}
use Rattle.n2_watch.proofs.KeptDevices.{IsExchange, quiet_exchange, mutex_exchange, mutex_quiet}
use Rattle.n2_watch.proofs.KeptAccess.{mail_written, mail_read}

-- ---- a device of each kind
abbrev mutex_book : Book → Reaction (List mutex.State) → List (List ℕ) → Book
mutex_book before r sent = record { devices = record before.devices { mutexes = r.state }; sent = sent; holders = before.holders }

few_mutexes : (z : Bool) (index : ℕ) → length (if z then Mutex index ∷ [] else []) ≤ 1
few_mutexes true index = omega arith
few_mutexes false index = omega arith

module _ (b : Board) (valid : IsValid b) (map : AddressMap) (k : ℕ) (klt : k < length b.core) (before : Book) (past : List Past) (shape : HasBoardShape b before) (posts : IsPosted map before) (sent : List (List ℕ)) where
  mutex_put : (index offset value number : ℕ) (s : mutex.State) → slice_get before.devices.mutexes index ≡ Some s → (register : Bool) → (if register && true then mutex_breach map (knowledge b before k past) index value number else None) ≡ None → IsExchange b map k before (record { devices = record before.devices { mutexes = slice_set before.devices.mutexes index (if register then mutex.with_owner_and_value s value else record s { reset = (mutex.after_write s 1 value).reset }) }; sent = sent; holders = before.holders }) past (if register then Mutex index ∷ [] else [])
  mutex_put index offset value number s there true br = mutex_exchange b valid map k klt before _ past index value number s br (shape.values index s there) there refl refl refl posts
  mutex_put index offset value number s there false br = mutex_quiet b map k before _ past [] (omega arith) index s (record s { reset = (mutex.after_write s 1 value).reset }) there refl refl refl refl posts

  mutex_written : (index offset value number : ℕ) → (if eqb offset 0 && true then mutex_breach map (knowledge b before k past) index value number else None) ≡ None → (o : Option mutex.State) → slice_get before.devices.mutexes index ≡ o → IsExchange b map k before (mutex_book before (reaction_at before.devices.mutexes index (option_map (write_mutex offset value) o)) sent) past (if eqb offset 0 then Mutex index ∷ [] else [])
  mutex_written index offset value number br None there = quiet_exchange b map k before _ past _ (few_mutexes (eqb offset 0) index) refl refl refl posts
  mutex_written index offset value number br (Some s) there = mutex_put index offset value number s there (eqb offset 0) br

  mutex_read : (index offset : ℕ) → (o : Option mutex.State) → slice_get before.devices.mutexes index ≡ o → IsExchange b map k before (mutex_book before (reaction_at before.devices.mutexes index (option_map (read_mutex offset) o)) sent) past []
  mutex_read index offset None there = quiet_exchange b map k before _ past [] (omega arith) refl refl refl posts
  mutex_read index offset (Some s) there = mutex_quiet b map k before _ past [] (omega arith) index s s there refl refl refl refl posts

  write_kind : (w : Wiring) (kind : PartKind) (index offset value number : ℕ) → device_breach b map (knowledge b before k past) kind index offset true value number ≡ None → IsExchange b map k before (record { devices = (write_at before.devices kind index offset value).state; sent = sent; holders = holders_written map before kind index offset (device_reply w k (write_at before.devices kind index offset value).state (write_at before.devices kind index offset value).answer) }) past (guards_written map before kind index offset)
  write_kind w kinds.Top index offset value number br = quiet_exchange b map k before _ past [] (omega arith) refl refl refl posts
  write_kind w kinds.Memory index offset value number br = quiet_exchange b map k before _ past [] (omega arith) refl refl refl posts
  write_kind w kinds.Core index offset value number br = quiet_exchange b map k before _ past [] (omega arith) refl refl refl posts
  write_kind w kinds.Mutex index offset value number br = mutex_written index offset value number br (slice_get before.devices.mutexes index) refl
  write_kind w kinds.Mailbox index offset value number br = mail_written b map k before past index sent posts shape.mailboxes offset value number br (slice_get before.devices.mailboxes index) refl
  write_kind w kinds.Timer index offset value number br = quiet_exchange b map k before _ past [] (omega arith) refl refl refl posts
  write_kind w kinds.Uart index offset value number br = quiet_exchange b map k before _ past [] (omega arith) refl refl refl posts
  write_kind w kinds.Region index offset value number br = quiet_exchange b map k before _ past [] (omega arith) refl refl refl posts
  write_kind w kinds.Dump index offset value number br = quiet_exchange b map k before _ past [] (omega arith) refl refl refl posts
  write_kind w kinds.Script index offset value number br = quiet_exchange b map k before _ past [] (omega arith) refl refl refl posts

  read_kind : (w : Wiring) (kind : PartKind) (index offset number : ℕ) → device_breach b map (knowledge b before k past) kind index offset false 0 number ≡ None → IsExchange b map k before (record { devices = (read_at before.devices kind index offset).state; sent = sent; holders = holders_read b map before kind index (device_reply w k (read_at before.devices kind index offset).state (read_at before.devices kind index offset).answer) }) past (guards_read map kind (device_reply w k (read_at before.devices kind index offset).state (read_at before.devices kind index offset).answer))
  read_kind w kinds.Top index offset number br = quiet_exchange b map k before _ past [] (omega arith) refl refl refl posts
  read_kind w kinds.Memory index offset number br = quiet_exchange b map k before _ past [] (omega arith) refl refl refl posts
  read_kind w kinds.Core index offset number br = quiet_exchange b map k before _ past [] (omega arith) refl refl refl posts
  read_kind w kinds.Mutex index offset number br = mutex_read index offset (slice_get before.devices.mutexes index) refl
  read_kind w kinds.Mailbox index offset number br = mail_read b map k before past index sent posts shape.mailboxes offset number br (slice_get before.devices.mailboxes index) refl
  read_kind w kinds.Timer index offset number br = quiet_exchange b map k before _ past [] (omega arith) refl refl refl posts
  read_kind w kinds.Uart index offset number br = quiet_exchange b map k before _ past [] (omega arith) refl refl refl posts
  read_kind w kinds.Region index offset number br = quiet_exchange b map k before _ past [] (omega arith) refl refl refl posts
  read_kind w kinds.Dump index offset number br = quiet_exchange b map k before _ past [] (omega arith) refl refl refl posts
  read_kind w kinds.Script index offset number br = quiet_exchange b map k before _ past [] (omega arith) refl refl refl posts

-- ---- an access by what stands at its address, for the book and for the bus
abbrev reply_written : Board → ℕ → World → Place → ℕ → Width → ℕ → Served
reply_written b k w there address width value = write_served (wiring_of b) k (shared w) there address width value

abbrev reply_read : Board → ℕ → World → Place → ℕ → Width → Served
reply_read b k w there address width = read_served (wiring_of b) k (shared w) there address width

abbrev book_written : Board → AddressMap → ℕ → World → Place → Place → ℕ → Width → ℕ → Book
book_written b map k w here there address width value = record {
  devices = (reply_written b k w there address width value).shared.devices;
  sent = sent_after_write w.book here value (reply_written b k w there address width value).reply;
  holders = holders_after_write map w.book here (reply_written b k w there address width value).reply;
}

abbrev book_read : Board → AddressMap → ℕ → World → Place → Place → ℕ → Width → Book
book_read b map k w here there address width = record {
  devices = (reply_read b k w there address width).shared.devices;
  sent = w.book.sent;
  holders = holders_after_read b map w.book here (reply_read b k w there address width).reply;
}

-- a map of a board has its places
pub place_same : (b : Board) (images : List Image) (map : AddressMap) → map ≡ address_map b images → (address : ℕ) → place map address ≡ place_in (places_of b) address
unfolding address_map
place_same b images map e address = ap (λ (m : AddressMap). place m address) e

module _ (b : Board) (valid : IsValid b) (map : AddressMap) (k : ℕ) (klt : k < length b.core) (w : World) (past : List Past) (shape : HasBoardShape b w.book) (posts : IsPosted map w.book) where
  device_put : (class : Class) (part : Part) (offset address value number : ℕ) (width : Width) → bypass_breach b map (knowledge b w.book k past) (target_at (places.Device part offset) class k width Bypassing (direction true)) true value number ≡ None → IsExchange b map k w.book (book_written b map k w (places.Device part offset) (places.Device part offset) address width value) past (guards_after_write map w.book (places.Device part offset))
  device_put class part offset address value number Byte br = absurd (cc)
  device_put class part offset address value number Half br = absurd (cc)
  device_put class part offset address value number Word br = write_kind b valid map k klt w.book past shape posts (sent_after_write w.book (places.Device part offset) value (reply_written b k w (places.Device part offset) address Word value).reply) (wiring_of b) part.kind part.index offset value number br

  device_got : (class : Class) (part : Part) (offset address number : ℕ) (width : Width) → bypass_breach b map (knowledge b w.book k past) (target_at (places.Device part offset) class k width Bypassing (direction false)) false 0 number ≡ None → IsExchange b map k w.book (book_read b map k w (places.Device part offset) (places.Device part offset) address width) past (guards_after_read map (places.Device part offset) (reply_read b k w (places.Device part offset) address width).reply)
  device_got class part offset address number Byte br = absurd (cc)
  device_got class part offset address number Half br = absurd (cc)
  device_got class part offset address number Word br = read_kind b valid map k klt w.book past shape posts w.book.sent (wiring_of b) part.kind part.index offset number br

  place_put : (class : Class) (there : Place) (address value number : ℕ) (width : Width) → bypass_breach b map (knowledge b w.book k past) (target_at there class k width Bypassing (direction true)) true value number ≡ None → IsExchange b map k w.book (book_written b map k w there there address width value) past (guards_after_write map w.book there)
  place_put class places.Memory address value number width br = quiet_exchange b map k w.book _ past [] (omega arith) refl refl refl posts
  place_put class (places.Device part offset) address value number width br = device_put class part offset address value number width br
  place_put class places.Nothing address value number width br = quiet_exchange b map k w.book _ past [] (omega arith) refl refl refl posts

  place_got : (class : Class) (there : Place) (address number : ℕ) (width : Width) → bypass_breach b map (knowledge b w.book k past) (target_at there class k width Bypassing (direction false)) false 0 number ≡ None → IsExchange b map k w.book (book_read b map k w there there address width) past (guards_after_read map there (reply_read b k w there address width).reply)
  place_got class places.Memory address number width br = quiet_exchange b map k w.book _ past [] (omega arith) refl refl refl posts
  place_got class (places.Device part offset) address number width br = device_got class part offset address number width br
  place_got class places.Nothing address number width br = quiet_exchange b map k w.book _ past [] (omega arith) refl refl refl posts

  pub put_exchange : (images : List Image) → map ≡ address_map b images → (address value : ℕ) (width : Width) → breach b map (knowledge b w.book k past) (Bypass address true value) width ≡ None → IsExchange b map k w.book (transferred b map k w (Write (without_bypass address) width value)).world.book past (guards_touched map w.book (Write (without_bypass address) width value) (transferred b map k w (Write (without_bypass address) width value)).reply)
  unfolding breach data_target transferred served
  put_exchange images is address value width br =
      subst (λ (there : Place). IsExchange b map k w.book (book_written b map k w (place map (without_bypass address)) there (without_bypass address) width value) past (guards_after_write map w.book (place map (without_bypass address)))) (place_same b images map is (without_bypass address))
      (place_put (class_of map (line address)) (place map (without_bypass address)) (without_bypass address) value (line address) width br)

  pub got_exchange : (images : List Image) → map ≡ address_map b images → (address : ℕ) (width : Width) → breach b map (knowledge b w.book k past) (Bypass address false 0) width ≡ None → IsExchange b map k w.book (transferred b map k w (Read (without_bypass address) width)).world.book past (guards_touched map w.book (Read (without_bypass address) width) (transferred b map k w (Read (without_bypass address) width)).reply)
  unfolding breach data_target transferred served
  got_exchange images is address width br =
      subst (λ (there : Place). IsExchange b map k w.book (book_read b map k w (place map (without_bypass address)) there (without_bypass address) width) past (guards_after_read map (place map (without_bypass address)) (reply_read b k w there (without_bypass address) width).reply)) (place_same b images map is (without_bypass address))
      (place_got (class_of map (line address)) (place map (without_bypass address)) (without_bypass address) (line address) width br)

exchange_with : (b : Board) (images : List Image) (map : AddressMap) (k : ℕ) (w : World) (past : List Past) (address : ℕ) (width : Width) (stored : Option ℕ) → IsLetPast b images map k w past (record { address = address; width = width; stored = stored }) → IsExchange b map k w.book (transferred b map k w (request_with address width stored)).world.book past (guards_touched map w.book (request_with address width stored) (transferred b map k w (request_with address width stored)).reply)
exchange_with b images map k w past address width None h = got_exchange b h.valid map k h.core w past h.shape h.posted images h.map_is address width h.unbroken
exchange_with b images map k w past address width (Some value) h = put_exchange b h.valid map k h.core w past h.shape h.posted images h.map_is address value width h.unbroken

pub exchange : (b : Board) (images : List Image) (map : AddressMap) (k : ℕ) (w : World) (past : List Past) (access : BypassAccess) → IsLetPast b images map k w past access → IsExchange b map k w.book (accessed b map k w access).world.book past (guards_touched map w.book (request_of access) (accessed b map k w access).reply)
exchange b images map k w past access h = exchange_with b images map k w past access.address access.width access.stored h

-- ---- other requests
pub record IsAlike (before after : Book) : Type 0 where
  pub mutexes : after.devices.mutexes ≡ before.devices.mutexes
  pub mailboxes : after.devices.mailboxes ≡ before.devices.mailboxes
  pub holders : after.holders ≡ before.holders

pub other_request : (b : Board) (map : AddressMap) (actor : ℕ) (w : World) (request : Request) → is_access request ≡ false → IsAlike w.book (transferred b map actor w request).world.book
unfolding transferred served
other_request b map actor w (requests.FillCode number) e = record { mutexes = refl; mailboxes = refl; holders = refl }
other_request b map actor w (requests.FillData number) e = record { mutexes = refl; mailboxes = refl; holders = refl }
other_request b map actor w (requests.WriteBack number words) e = record { mutexes = refl; mailboxes = refl; holders = refl }
other_request b map actor w (requests.Read address width) e = absurd (true≢false e)
other_request b map actor w (requests.Write address width value) e = absurd (true≢false e)
other_request b map actor w requests.Sample e = record { mutexes = refl; mailboxes = refl; holders = refl }
other_request b map actor w (requests.Tick n) e = record { mutexes = refl; mailboxes = refl; holders = refl }
other_request b map actor w (requests.Receive uart) e = record { mutexes = refl; mailboxes = refl; holders = refl }
other_request b map actor w (requests.Drain uart) e = record { mutexes = refl; mailboxes = refl; holders = refl }
