-- A watch follows each load or store past the caches that breaks nothing.
use Rattle.std.proofs.Common.{◌≡◌, ℕ, ◌-◌, Bool, true, false, ◌&&◌, eqb, ltb, if◌then◌else◌, List, [], ◌∷◌, slice_get, Option, Some, None, refl, ap, subst, ◌∙◌, arith}
use Rattle.std.specs.Prelude.{option_map, unwrap_or}
use Rattle.std.proofs.lemmas.Bool.{false≢true, true≢false, eq-eqb, ltb-false, ne_eqb}
use Rattle.std.proofs.lemmas.Option.{slice_get_within}
use Rattle.n2_word.specs.declared.Width.TheVariants.{Word}
use Rattle.n2_word.specs.Lines.{line, without_bypass}
use Rattle.n2_mutex.specs.Mutex as mutex
use Rattle.n2_mailbox.specs.Mailbox as mailbox
use Rattle.n2_mailbox.specs.declared.Side.TheVariants.{Send, Receive}
use Rattle.n2_elf.specs.declared.image.Image.{Image}
use Rattle.n2_parts.specs.declared.board.Board.{Board}
use Rattle.n2_parts.specs.declared.board.MailboxRow.{MailboxRow}
use Rattle.n2_parts.specs.declared.board.PartKind.{PartKind}
use Rattle.n2_parts.specs.declared.board.PartKind.TheVariants as kinds
use Rattle.n2_parts.specs.declared.stops.Kind.TheVariants.{Lock}
use Rattle.n2_board.specs.declared.access.Route.TheVariants.{Bypassing}
use Rattle.n2_board.specs.declared.classes.Class.{Class}
use Rattle.n2_board.specs.declared.guards.Guard.TheVariants.{Mutex}
use Rattle.n2_board.specs.declared.guards.Holder.{Holder}
use Rattle.n2_board.specs.declared.places.Place.{Place}
use Rattle.n2_board.specs.declared.places.Place.TheVariants as places
use Rattle.n2_board.specs.AddressMap.{AddressMap, address_map, class_of, place}
use Rattle.n2_board.specs.Access.{data_target, target_at}
use Rattle.n2_devices.specs.Devices.{read_timer, read_uart, Reaction, reaction_at, read_mutex, write_mutex, read_mailbox, write_mailbox, read_side, write_side, read_at, write_at}
use Rattle.n2_bus.specs.declared.request.Request.TheVariants.{Read, Write}
use Rattle.n2_bus.specs.Wiring.{Wiring, wiring_of}
use Rattle.n2_bus.specs.Transfer.{Served, served, read_served, write_served, device_reply}
use Rattle.n2_watch.specs.declared.past.Past.{Past}
use Rattle.n2_watch.specs.declared.access.Access.TheVariants.{Bypass}
use Rattle.n2_watch.specs.Discipline.{Breach, Breaks, mutex_breach, mailbox_breach, post_breach, device_breach, bypass_breach, breach, direction}
use Rattle.n2_watch.specs.Book.{Book, pointer_of, knowledge, region_at, region_guard, receiver_of, guards_read, guards_written, guards_after_read, guards_after_write, guards_touched, holders_read, holders_written, holders_after_read, holders_after_write, sent_after_write}
use Rattle.n2_watch.specs.World.{World, shared, transferred}
use Rattle.n2_watch.specs.Kept.{IsPosted}
use Rattle.n2_watch.specs.Shapes.{HasBoardShape, IsLetPast, accessed, past_accessed}
use Rattle.n2_watch.specs.declared.notes.Done.{Done}
use Rattle.n2_watch.specs.declared.notes.Done.TheVariants.{Wrote, Received}
use Rattle.n2_watch.specs.Watched.{Watched, StandsFor}
use Rattle.n2_watch.specs.Noted.{word_access, IsTaken, IsMutexWritten, IsSideWritten, IsKindWritten, IsPlaceWritten, IsWritten, IsRegionOwned, IsReceived}
use Rattle.n2_watch.proofs.KeptLists.{element_at}
use Rattle.n2_watch.proofs.KeptDevices.{IsExchange}
use Rattle.n2_watch.proofs.KeptAccess.{written_book, read_book}
use Rattle.n2_watch.proofs.KeptTransfers.{exchange, place_same}
use Rattle.n2_watch.proofs.FollowingRows.{Follows, same, alike, mutex_row, send_row, receive_row, read_row}

abbrev mutex_book : Book → Reaction (List mutex.State) → List (List ℕ) → Book
mutex_book before r sent = record { devices = record before.devices { mutexes = r.state }; sent = sent; holders = before.holders }

-- nothing is noted of a read that takes nothing
when_untaken : {old new : Watched} (took : Bool) (Effect : Type 0) → took ≡ false → IsTaken took Effect old new → new ≡ old
when_untaken true Effect e n = absurd (true≢false e)
when_untaken false Effect e n = n

none_taken : {S : Type 0} (states : List S) (index : ℕ) (act : S → Reaction S) → ((state : S) → (act state).answer.took ≡ false) → (o : Option S) → (reaction_at states index (option_map act o)).answer.took ≡ false
none_taken states index act e None = refl
none_taken states index act e (Some state) = e state

-- nothing is noted, whether it took effect or not
unmoved : {old new : Watched} (took : Bool) → IsTaken took (new ≡ old) old new → new ≡ old
unmoved true n = n
unmoved false n = n

sender_passes : (own z : Bool) (o : Option Breach) (number : ℕ) → (if own then (if z && true then o else None) else Some (Breaks Lock number)) ≡ None → (own ≡ true) × (z ≡ true → o ≡ None)
sender_passes true true o number e = (refl, λ t. e)
sender_passes true false o number e = (refl, λ t. absurd (false≢true t))
sender_passes false z o number e = absurd (cc)

receiver_passes : (own : Bool) (number : ℕ) → ◌≡◌ {A = Option Breach} (if own then None else Some (Breaks Lock number)) None → own ≡ true
receiver_passes true number e = refl
receiver_passes false number e = absurd (cc)

not_low : (offset n : ℕ) → n ≡ 0 → ltb offset 4 ≡ false → eqb offset n ≡ false
not_low offset n z e = let lt = ltb-false offset 4 e in ne_eqb offset n (λ x. omega arith)

not_pointer : (offset : ℕ) → ltb offset 4 ≡ false → eqb offset 1 ≡ false
not_pointer offset e = let lt = ltb-false offset 4 e in ne_eqb offset 1 (λ x. omega arith)

no_holders : (holders with : List (Option Holder)) (command : Bool) → (if command && false then with else holders) ≡ holders
no_holders holders with true = refl
no_holders holders with false = refl

module _ (b : Board) (map : AddressMap) (k : ℕ) (before : Book) (past : List Past) (old new : Watched) (shape : HasBoardShape b before) (h : StandsFor b map k old before past) (sent : List (List ℕ)) where
  mutex_written : (index offset value number : ℕ) → (if eqb offset 0 && true then mutex_breach map (knowledge b before k past) index value number else None) ≡ None → (o : Option mutex.State) → slice_get before.devices.mutexes index ≡ o → IsExchange b map k before (mutex_book before (reaction_at before.devices.mutexes index (option_map (write_mutex offset value) o)) sent) past (if eqb offset 0 then Mutex index ∷ [] else []) → IsTaken (reaction_at before.devices.mutexes index (option_map (write_mutex offset value) o)).answer.took (IsMutexWritten index (eqb offset 0) value old new) old new → Follows b map k before past old new shape h (mutex_book before (reaction_at before.devices.mutexes index (option_map (write_mutex offset value) o)) sent) (if eqb offset 0 then Mutex index ∷ [] else [])
  mutex_written index offset value number br None there x note = alike b map k before past old new shape h _ (if eqb offset 0 then Mutex index ∷ [] else []) note refl refl refl
  mutex_written index offset value number br (Some s) there x note =
      mutex_row b map k before past old new shape h index value number s there (eqb offset 0) (mutex.takes s 0 value) (mutex.after_write s 1 value).reset sent _ refl br x note

  write_low : (index : ℕ) (s : mailbox.State) → slice_get before.devices.mailboxes index ≡ Some s → (row : MailboxRow) → slice_get b.mailbox index ≡ Some row → (offset value number : ℕ) (low : Bool) → ltb offset 4 ≡ low → (if low then (if eqb row.sender k then (if eqb offset 0 && true then post_breach b map (knowledge b before k past) index (region_at map (pointer_of before index)) number else None) else Some (Breaks Lock number)) else (if eqb row.receiver k then None else Some (Breaks Lock number))) ≡ None → IsExchange b map k before (written_book map before index offset sent (reaction_at before.devices.mailboxes index (Some (if low then write_side Send offset value s else write_side Receive (offset - 4) value s)))) past (if eqb offset 0 then region_guard (region_at map (pointer_of before index)) else []) → IsTaken (reaction_at before.devices.mailboxes index (Some (if low then write_side Send offset value s else write_side Receive (offset - 4) value s))).answer.took (IsSideWritten map index (eqb offset 0) (eqb offset 1) value old new) old new → Follows b map k before past old new shape h (written_book map before index offset sent (reaction_at before.devices.mailboxes index (Some (if low then write_side Send offset value s else write_side Receive (offset - 4) value s)))) (if eqb offset 0 then region_guard (region_at map (pointer_of before index)) else [])
  write_low index s there row found offset value number true low br x note =
      let passes = sender_passes (eqb row.sender k) (eqb offset 0) _ number br in
      send_row b map k before past old new shape h index s there sent value number row found passes.0 (eqb offset 0) (eqb offset 1) (eqb offset 3) s.waiting passes.1 x note
  write_low index s there row found offset value number false low br x note =
      receive_row b map k before past old new shape h index s there sent (offset - 4) value (eqb offset 0) (eqb offset 1) (not_low offset 0 refl low) (not_pointer offset low) (if eqb offset 0 then region_guard (region_at map (pointer_of before index)) else []) (region_at map (pointer_of before index)) note

  read_low : (posts : IsPosted map before) (index : ℕ) (s : mailbox.State) → slice_get before.devices.mailboxes index ≡ Some s → (row : MailboxRow) → slice_get b.mailbox index ≡ Some row → (offset number : ℕ) (low : Bool) → (if low then (if eqb row.sender k then (if eqb offset 0 && false then post_breach b map (knowledge b before k past) index (region_at map (pointer_of before index)) number else None) else Some (Breaks Lock number)) else (if eqb row.receiver k then None else Some (Breaks Lock number))) ≡ None → IsExchange b map k before (read_book b map before index sent (reaction_at before.devices.mailboxes index (Some (if low then read_side Send offset s else read_side Receive (offset - 4) s)))) past (if (if low then read_side Send offset s else read_side Receive (offset - 4) s).answer.took then region_guard (region_at map (if low then read_side Send offset s else read_side Receive (offset - 4) s).answer.pointer) else []) → IsTaken (if low then read_side Send offset s else read_side Receive (offset - 4) s).answer.took (IsRegionOwned (region_at map (if low then read_side Send offset s else read_side Receive (offset - 4) s).answer.pointer) true old new) old new → Follows b map k before past old new shape h (read_book b map before index sent (reaction_at before.devices.mailboxes index (Some (if low then read_side Send offset s else read_side Receive (offset - 4) s)))) (if (if low then read_side Send offset s else read_side Receive (offset - 4) s).answer.took then region_guard (region_at map (if low then read_side Send offset s else read_side Receive (offset - 4) s).answer.pointer) else [])
  read_low posts index s there row found offset number true br x note =
      read_row b map k before past old new shape h index s there sent posts k (eqb_self k) false false refl x note
    where
      eqb_self : (n : ℕ) → eqb n n ≡ true
      eqb_self n = eq-eqb n n refl
  read_low posts index s there row found offset number false br x note =
      read_row b map k before past old new shape h index s there sent posts (receiver_of b index) (ap (λ (r : ℕ). eqb r k) (ap (λ (o : Option MailboxRow). unwrap_or (option_map (λ (row : MailboxRow). row.receiver) o) 0) found) ∙ receiver_passes (eqb row.receiver k) number br) (eqb (offset - 4) 0) (eqb (offset - 4) 0 && s.waiting) refl x note

  row_of : (index : ℕ) (s : mailbox.State) → slice_get before.devices.mailboxes index ≡ Some s → (row : MailboxRow) × (slice_get b.mailbox index ≡ Some row)
  row_of index s there = let lt = slice_get_within before.devices.mailboxes index s there in element_at b.mailbox index (omega (arith, lt, shape.mailboxes))

  mail_written : (index offset value number : ℕ) → mailbox_breach b map (knowledge b before k past) index (slice_get b.mailbox index) offset true number ≡ None → (o : Option mailbox.State) → slice_get before.devices.mailboxes index ≡ o → IsExchange b map k before (written_book map before index offset sent (reaction_at before.devices.mailboxes index (option_map (write_mailbox offset value) o))) past (if eqb offset 0 then region_guard (region_at map (pointer_of before index)) else []) → IsTaken (reaction_at before.devices.mailboxes index (option_map (write_mailbox offset value) o)).answer.took (IsSideWritten map index (eqb offset 0) (eqb offset 1) value old new) old new → Follows b map k before past old new shape h (written_book map before index offset sent (reaction_at before.devices.mailboxes index (option_map (write_mailbox offset value) o))) (if eqb offset 0 then region_guard (region_at map (pointer_of before index)) else [])
  mail_written index offset value number br None there x note =
      alike b map k before past old new shape h _ (if eqb offset 0 then region_guard (region_at map (pointer_of before index)) else []) note refl refl (no_holders before.holders _ (eqb offset 0))
  mail_written index offset value number br (Some s) there x note =
      let row = row_of index s there in
      write_low index s there row.0 row.1 offset value number (ltb offset 4) refl (rw row.1 at br) x note

  mail_read : (posts : IsPosted map before) (index offset number : ℕ) → mailbox_breach b map (knowledge b before k past) index (slice_get b.mailbox index) offset false number ≡ None → (o : Option mailbox.State) → slice_get before.devices.mailboxes index ≡ o → IsExchange b map k before (read_book b map before index sent (reaction_at before.devices.mailboxes index (option_map (read_mailbox offset) o))) past (if (reaction_at before.devices.mailboxes index (option_map (read_mailbox offset) o)).answer.took then region_guard (region_at map (reaction_at before.devices.mailboxes index (option_map (read_mailbox offset) o)).answer.pointer) else []) → IsTaken (reaction_at before.devices.mailboxes index (option_map (read_mailbox offset) o)).answer.took (IsRegionOwned (region_at map (reaction_at before.devices.mailboxes index (option_map (read_mailbox offset) o)).answer.pointer) true old new) old new → Follows b map k before past old new shape h (read_book b map before index sent (reaction_at before.devices.mailboxes index (option_map (read_mailbox offset) o))) (if (reaction_at before.devices.mailboxes index (option_map (read_mailbox offset) o)).answer.took then region_guard (region_at map (reaction_at before.devices.mailboxes index (option_map (read_mailbox offset) o)).answer.pointer) else [])
  mail_read posts index offset number br None there x note = alike b map k before past old new shape h _ [] note refl refl refl
  mail_read posts index offset number br (Some s) there x note =
      let row = row_of index s there in
      read_low posts index s there row.0 row.1 offset number (ltb offset 4) (rw row.1 at br) x note

  write_kind : (w : Wiring) (kind : PartKind) (index offset value number : ℕ) → device_breach b map (knowledge b before k past) kind index offset true value number ≡ None → IsExchange b map k before (record { devices = (write_at before.devices kind index offset value).state; sent = sent; holders = holders_written map before kind index offset (device_reply w k (write_at before.devices kind index offset value).state (write_at before.devices kind index offset value).answer) }) past (guards_written map before kind index offset) → IsTaken (write_at before.devices kind index offset value).answer.took (IsKindWritten map kind index offset value old new) old new → Follows b map k before past old new shape h (record { devices = (write_at before.devices kind index offset value).state; sent = sent; holders = holders_written map before kind index offset (device_reply w k (write_at before.devices kind index offset value).state (write_at before.devices kind index offset value).answer) }) (guards_written map before kind index offset)
  write_kind w kinds.Top index offset value number br x note = alike b map k before past old new shape h _ [] note refl refl refl
  write_kind w kinds.Memory index offset value number br x note = alike b map k before past old new shape h _ [] note refl refl refl
  write_kind w kinds.Core index offset value number br x note = alike b map k before past old new shape h _ [] note refl refl refl
  write_kind w kinds.Mutex index offset value number br x note = mutex_written index offset value number br (slice_get before.devices.mutexes index) refl x note
  write_kind w kinds.Mailbox index offset value number br x note = mail_written index offset value number br (slice_get before.devices.mailboxes index) refl x note
  write_kind w kinds.Timer index offset value number br x note = alike b map k before past old new shape h _ [] (unmoved _ note) refl refl refl
  write_kind w kinds.Uart index offset value number br x note = alike b map k before past old new shape h _ [] (unmoved _ note) refl refl refl
  write_kind w kinds.Region index offset value number br x note = alike b map k before past old new shape h _ [] note refl refl refl
  write_kind w kinds.Dump index offset value number br x note = alike b map k before past old new shape h _ [] note refl refl refl
  write_kind w kinds.Script index offset value number br x note = alike b map k before past old new shape h _ [] note refl refl refl

  read_kind : (posts : IsPosted map before) (w : Wiring) (kind : PartKind) (index offset number : ℕ) → device_breach b map (knowledge b before k past) kind index offset false 0 number ≡ None → IsExchange b map k before (record { devices = (read_at before.devices kind index offset).state; sent = sent; holders = holders_read b map before kind index (device_reply w k (read_at before.devices kind index offset).state (read_at before.devices kind index offset).answer) }) past (guards_read map kind (device_reply w k (read_at before.devices kind index offset).state (read_at before.devices kind index offset).answer)) → IsTaken (read_at before.devices kind index offset).answer.took (IsRegionOwned (region_at map (read_at before.devices kind index offset).answer.pointer) true old new) old new → Follows b map k before past old new shape h (record { devices = (read_at before.devices kind index offset).state; sent = sent; holders = holders_read b map before kind index (device_reply w k (read_at before.devices kind index offset).state (read_at before.devices kind index offset).answer) }) (guards_read map kind (device_reply w k (read_at before.devices kind index offset).state (read_at before.devices kind index offset).answer))
  read_kind posts w kinds.Top index offset number br x note = alike b map k before past old new shape h _ [] note refl refl refl
  read_kind posts w kinds.Memory index offset number br x note = alike b map k before past old new shape h _ [] note refl refl refl
  read_kind posts w kinds.Core index offset number br x note = alike b map k before past old new shape h _ [] note refl refl refl
  read_kind posts w kinds.Mutex index offset number br x note = same b map k before past old new shape h _ [] (when_untaken _ _ (none_taken before.devices.mutexes index (read_mutex offset) (λ state. refl) (slice_get before.devices.mutexes index)) note) (λ guard. x.mine guard refl) (λ i. refl)
  read_kind posts w kinds.Mailbox index offset number br x note = mail_read posts index offset number br (slice_get before.devices.mailboxes index) refl x note
  read_kind posts w kinds.Timer index offset number br x note = alike b map k before past old new shape h _ [] (when_untaken _ _ (none_taken before.devices.timers index (read_timer offset) (λ state. refl) (slice_get before.devices.timers index)) note) refl refl refl
  read_kind posts w kinds.Uart index offset number br x note = alike b map k before past old new shape h _ [] (when_untaken _ _ (none_taken before.devices.uarts index (read_uart offset) (λ state. refl) (slice_get before.devices.uarts index)) note) refl refl refl
  read_kind posts w kinds.Region index offset number br x note = alike b map k before past old new shape h _ [] note refl refl refl
  read_kind posts w kinds.Dump index offset number br x note = alike b map k before past old new shape h _ [] note refl refl refl
  read_kind posts w kinds.Script index offset number br x note = alike b map k before past old new shape h _ [] note refl refl refl

-- ---- an access by what stands at its address, for the book and for the bus
abbrev reply_written : Board → ℕ → World → Place → ℕ → ℕ → Served
reply_written b k w there address value = write_served (wiring_of b) k (shared w) there address Word value

abbrev reply_read : Board → ℕ → World → Place → ℕ → Served
reply_read b k w there address = read_served (wiring_of b) k (shared w) there address Word

abbrev book_written : Board → AddressMap → ℕ → World → Place → Place → ℕ → ℕ → Book
book_written b map k w here there address value = record {
  devices = (reply_written b k w there address value).shared.devices;
  sent = sent_after_write w.book here value (reply_written b k w there address value).reply;
  holders = holders_after_write map w.book here (reply_written b k w there address value).reply;
}

abbrev book_read : Board → AddressMap → ℕ → World → Place → Place → ℕ → Book
book_read b map k w here there address = record {
  devices = (reply_read b k w there address).shared.devices;
  sent = w.book.sent;
  holders = holders_after_read b map w.book here (reply_read b k w there address).reply;
}

module _ (b : Board) (map : AddressMap) (k : ℕ) (w : World) (past : List Past) (old new : Watched) (shape : HasBoardShape b w.book) (h : StandsFor b map k old w.book past) (posts : IsPosted map w.book) where
  place_put : (class : Class) (there : Place) (address value number : ℕ) → bypass_breach b map (knowledge b w.book k past) (target_at there class k Word Bypassing (direction true)) true value number ≡ None → IsExchange b map k w.book (book_written b map k w there there address value) past (guards_after_write map w.book there) → IsTaken (reply_written b k w there address value).reply.took (IsPlaceWritten map there value old new) old new → Follows b map k w.book past old new shape h (book_written b map k w there there address value) (guards_after_write map w.book there)
  place_put class places.Memory address value number br x note = alike b map k w.book past old new shape h _ [] note refl refl refl
  place_put class (places.Device part offset) address value number br x note = write_kind b map k w.book past old new shape h (sent_after_write w.book (places.Device part offset) value (reply_written b k w (places.Device part offset) address value).reply) (wiring_of b) part.kind part.index offset value number br x note
  place_put class places.Nothing address value number br x note = alike b map k w.book past old new shape h _ [] note refl refl refl

  place_got : (class : Class) (there : Place) (address number : ℕ) → bypass_breach b map (knowledge b w.book k past) (target_at there class k Word Bypassing (direction false)) false 0 number ≡ None → IsExchange b map k w.book (book_read b map k w there there address) past (guards_after_read map there (reply_read b k w there address).reply) → IsTaken (reply_read b k w there address).reply.took (IsRegionOwned (region_at map (reply_read b k w there address).reply.pointer) true old new) old new → Follows b map k w.book past old new shape h (book_read b map k w there there address) (guards_after_read map there (reply_read b k w there address).reply)
  place_got class places.Memory address number br x note = alike b map k w.book past old new shape h _ [] note refl refl refl
  place_got class (places.Device part offset) address number br x note = read_kind b map k w.book past old new shape h w.book.sent posts (wiring_of b) part.kind part.index offset number br x note
  place_got class places.Nothing address number br x note = alike b map k w.book past old new shape h _ [] note refl refl refl

  put_follows : (images : List Image) → map ≡ address_map b images → (address value : ℕ) → breach b map (knowledge b w.book k past) (Bypass address true value) Word ≡ None → IsExchange b map k w.book (transferred b map k w (Write (without_bypass address) Word value)).world.book past (guards_touched map w.book (Write (without_bypass address) Word value) (transferred b map k w (Write (without_bypass address) Word value)).reply) → IsWritten map (place map (without_bypass address)) value (transferred b map k w (Write (without_bypass address) Word value)).reply.took old new → Follows b map k w.book past old new shape h (transferred b map k w (Write (without_bypass address) Word value)).world.book (guards_touched map w.book (Write (without_bypass address) Word value) (transferred b map k w (Write (without_bypass address) Word value)).reply)
  unfolding breach data_target transferred served
  put_follows images is address value br x note =
      subst (λ (there : Place). IsExchange b map k w.book (book_written b map k w (place map (without_bypass address)) there (without_bypass address) value) past (guards_after_write map w.book (place map (without_bypass address))) → IsTaken (reply_written b k w there (without_bypass address) value).reply.took (IsPlaceWritten map (place map (without_bypass address)) value old new) old new → Follows b map k w.book past old new shape h (book_written b map k w (place map (without_bypass address)) there (without_bypass address) value) (guards_after_write map w.book (place map (without_bypass address)))) (place_same b images map is (without_bypass address))
      (place_put (class_of map (line address)) (place map (without_bypass address)) (without_bypass address) value (line address) br)
      x note

  got_follows : (images : List Image) → map ≡ address_map b images → (address : ℕ) → breach b map (knowledge b w.book k past) (Bypass address false 0) Word ≡ None → IsExchange b map k w.book (transferred b map k w (Read (without_bypass address) Word)).world.book past (guards_touched map w.book (Read (without_bypass address) Word) (transferred b map k w (Read (without_bypass address) Word)).reply) → IsReceived map (transferred b map k w (Read (without_bypass address) Word)).reply.took (transferred b map k w (Read (without_bypass address) Word)).reply.pointer old new → Follows b map k w.book past old new shape h (transferred b map k w (Read (without_bypass address) Word)).world.book (guards_touched map w.book (Read (without_bypass address) Word) (transferred b map k w (Read (without_bypass address) Word)).reply)
  unfolding breach data_target transferred served
  got_follows images is address br x note =
      subst (λ (there : Place). IsExchange b map k w.book (book_read b map k w (place map (without_bypass address)) there (without_bypass address)) past (guards_after_read map (place map (without_bypass address)) (reply_read b k w there (without_bypass address)).reply) → IsTaken (reply_read b k w there (without_bypass address)).reply.took (IsRegionOwned (region_at map (reply_read b k w there (without_bypass address)).reply.pointer) true old new) old new → Follows b map k w.book past old new shape h (book_read b map k w (place map (without_bypass address)) there (without_bypass address)) (guards_after_read map (place map (without_bypass address)) (reply_read b k w there (without_bypass address)).reply)) (place_same b images map is (without_bypass address))
      (place_got (class_of map (line address)) (place map (without_bypass address)) (without_bypass address) (line address) br)
      x note

-- a store and a load, by what was noted
pub wrote_follows : (b : Board) (images : List Image) (map : AddressMap) (k : ℕ) (w : World) (past : List Past) (old new : Watched) (address value : ℕ) (took : Bool) → IsLetPast b images map k w past (word_access address (Some value)) → took ≡ (accessed b map k w (word_access address (Some value))).reply.took → StandsFor b map k old w.book past → IsWritten map (place map (without_bypass address)) value took old new → StandsFor b map k new (accessed b map k w (word_access address (Some value))).world.book (past_accessed b map k w past (word_access address (Some value)))
wrote_follows b images map k w past old new address value took let_past e h note =
    put_follows b map k w past old new let_past.shape h let_past.posted images let_past.map_is address value let_past.unbroken (exchange b images map k w past (word_access address (Some value)) let_past)
    (subst (λ (t : Bool). IsWritten map (place map (without_bypass address)) value t old new) e note)

pub received_follows : (b : Board) (images : List Image) (map : AddressMap) (k : ℕ) (w : World) (past : List Past) (old new : Watched) (address : ℕ) (took : Bool) (pointer : ℕ) → IsLetPast b images map k w past (word_access address None) → took ≡ (accessed b map k w (word_access address None)).reply.took → pointer ≡ (accessed b map k w (word_access address None)).reply.pointer → StandsFor b map k old w.book past → IsReceived map took pointer old new → StandsFor b map k new (accessed b map k w (word_access address None)).world.book (past_accessed b map k w past (word_access address None))
received_follows b images map k w past old new address took pointer let_past e f h note =
    got_follows b map k w past old new let_past.shape h let_past.posted images let_past.map_is address let_past.unbroken (exchange b images map k w past (word_access address None) let_past)
    (subst (λ (p : ℕ). IsReceived map (accessed b map k w (word_access address None)).reply.took p old new) f (subst (λ (t : Bool). IsReceived map t pointer old new) e note))

-- ---- what was done is named once
pub wrote_as : (map : AddressMap) (old new : Watched) (address value : ℕ) (took : Bool) (address_is value_is : ℕ) (took_is : Bool) (done : Done) → done ≡ Wrote address value took → done ≡ Wrote address_is value_is took_is → IsWritten map (place map (without_bypass address)) value took old new → IsWritten map (place map (without_bypass address_is)) value_is took_is old new
wrote_as map old new address value took address_is value_is took_is done e d note =
    let a : address ≡ address_is = cc in
    let v : value ≡ value_is = cc in
    let t : took ≡ took_is = cc in
    subst (λ (x : ℕ). IsWritten map (place map (without_bypass x)) value_is took_is old new) a (subst (λ (y : ℕ). IsWritten map (place map (without_bypass address)) y took_is old new) v (subst (λ (z : Bool). IsWritten map (place map (without_bypass address)) value z old new) t note))

pub received_as : (map : AddressMap) (old new : Watched) (address : ℕ) (took : Bool) (pointer address_is : ℕ) (took_is : Bool) (pointer_is : ℕ) (done : Done) → done ≡ Received address took pointer → done ≡ Received address_is took_is pointer_is → IsReceived map took pointer old new → IsReceived map took_is pointer_is old new
received_as map old new address took pointer address_is took_is pointer_is done e d note =
    let p : pointer ≡ pointer_is = cc in
    let t : took ≡ took_is = cc in
    subst (λ (x : ℕ). IsReceived map took_is x old new) p (subst (λ (z : Bool). IsReceived map z pointer old new) t note)
