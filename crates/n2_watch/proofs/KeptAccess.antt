-- What an access past the caches that breaks nothing changes of what cores own.
use Rattle.std.proofs.Common.{◌≡◌, ℕ, ◌-◌, ◌≤◌, Bool, true, false, not, ◌&&◌, ◌||◌, eqb, ltb, if◌then◌else◌, List, [], length, slice_get, slice_set, Option, Some, None, refl, ap, ◌∙◌, arith}
use Rattle.std.specs.Prelude.{option_map, unwrap_or}
use Rattle.std.proofs.lemmas.Bool.{false≢true, true≢false, eqb-true, ltb-false, ne_eqb, and_parts}
use Rattle.std.proofs.lemmas.Option.{slice_get_within}
use Rattle.n2_word.specs.Words.{has_bit}
use Rattle.n2_mailbox.specs.Mailbox as mailbox
use Rattle.n2_mailbox.specs.declared.Side.TheVariants.{Send, Receive}
use Rattle.n2_parts.specs.declared.board.Board.{Board}
use Rattle.n2_parts.specs.declared.board.MailboxRow.{MailboxRow}
use Rattle.n2_parts.specs.declared.stops.Kind.TheVariants.{Lock}
use Rattle.n2_board.specs.AddressMap.{AddressMap}
use Rattle.n2_board.specs.declared.guards.Holder.{Holder}
use Rattle.n2_board.specs.declared.guards.Holder.TheVariants.{ByCore, ByMailbox}
use Rattle.n2_devices.specs.Devices.{Reaction, reaction_at, read_side, write_side, read_mailbox, write_mailbox}
use Rattle.n2_watch.specs.declared.past.Past.{Past}
use Rattle.n2_watch.specs.Discipline.{Breach, Breaks, mailbox_breach, post_breach}
use Rattle.n2_watch.specs.Book.{Book, pointer_of, knowledge, region_at, with_holder, region_guard, receiver_of}
use Rattle.n2_watch.specs.Kept.{IsPosted}
use Rattle.n2_watch.proofs.KeptLists.{element_at}
use Rattle.n2_watch.proofs.KeptDevices.{IsExchange, quiet_exchange}
use Rattle.n2_watch.proofs.KeptMailboxes.{few_regions, mail_quiet, mail_pointed, mail_put, mail_taken}

-- the book with another state of a mailbox
abbrev mail_book : Book → ℕ → mailbox.State → List (List ℕ) → List (Option Holder) → Book
mail_book book index new sent holders = record { devices = record book.devices { mailboxes = slice_set book.devices.mailboxes index new }; sent = sent; holders = holders }

-- a write at the sending side, by the tests on its offset and by whether a message waits
abbrev send_takes : Bool → Bool → Bool → Bool → Bool
send_takes command pointer mask waits = if command || pointer then not waits else mask

abbrev send_state : Bool → Bool → Bool → mailbox.State → ℕ → mailbox.State
send_state command pointer takes s value =
    if takes then (if command then record s { command = value; waiting = true } else (if pointer then record s { pointer = value } else record s { send_mask = has_bit value 1 })) else s

abbrev pub put_holders : AddressMap → Book → ℕ → ℕ → Bool → Bool → List (Option Holder)
put_holders map book index p command takes = if command && takes then with_holder book.holders (region_at map p) (ByMailbox index) else book.holders

few_if : (z : Bool) (o : Option ℕ) → length (if z then region_guard o else []) ≤ 1
few_if true o = few_regions o
few_if false o = omega arith

sender_passes : (own z : Bool) (o : Option Breach) (number : ℕ) → (if own then (if z && true then o else None) else Some (Breaks Lock number)) ≡ None → (own ≡ true) × (z ≡ true → o ≡ None)
sender_passes true true o number e = (refl, λ t. e)
sender_passes true false o number e = (refl, λ t. absurd (false≢true t))
sender_passes false z o number e = absurd (cc)

receiver_passes : (own : Bool) (number : ℕ) → ◌≡◌ {A = Option Breach} (if own then None else Some (Breaks Lock number)) None → own ≡ true
receiver_passes true number e = refl
receiver_passes false number e = absurd (cc)

module _ (b : Board) (map : AddressMap) (k : ℕ) (before : Book) (past : List Past) (index : ℕ) (sent : List (List ℕ)) (posts : IsPosted map before) where
  module _ (s : mailbox.State) (there : slice_get before.devices.mailboxes index ≡ Some s) where
    send_written : (value number p : ℕ) → p ≡ s.pointer → (row : MailboxRow) → slice_get b.mailbox index ≡ Some row → row.sender ≡ k → (command pointer mask waits : Bool) → s.waiting ≡ waits → (command ≡ true → post_breach b map (knowledge b before k past) index (region_at map p) number ≡ None) → IsExchange b map k before (mail_book before index (send_state command pointer (send_takes command pointer mask waits) s value) sent (put_holders map before index p command (send_takes command pointer mask waits))) past (if command then region_guard (region_at map p) else [])
    send_written value number p e row found sender true pointer mask true w br = mail_quiet b map k before _ past index s s there refl refl posts (region_guard (region_at map p)) (few_regions (region_at map p)) refl refl refl
    send_written value number p e row found sender true pointer mask false w br =
        rw e (mail_put b map k before (mail_book before index (record s { command = value; waiting = true }) sent (with_holder before.holders (region_at map s.pointer) (ByMailbox index))) past index s (record s { command = value; waiting = true }) there refl refl posts number (rw e at (br refl)) refl w refl refl)
    send_written value number p e row found sender false true mask true w br = mail_quiet b map k before _ past index s s there refl refl posts [] (omega arith) refl refl refl
    send_written value number p e row found sender false true mask false w br = mail_pointed b map k before _ past index s (record s { pointer = value }) there refl refl posts row found sender refl w w
    send_written value number p e row found sender false false true waits w br = mail_quiet b map k before _ past index s (record s { send_mask = has_bit value 1 }) there refl refl posts [] (omega arith) refl refl refl
    send_written value number p e row found sender false false false waits w br = mail_quiet b map k before _ past index s s there refl refl posts [] (omega arith) refl refl refl

    -- a write at the receiving side is of Mask alone
    masked : (n value : ℕ) (mask : Bool) → eqb n 3 ≡ mask → ((if mask then mailbox.with_register s Receive n value else s).waiting ≡ s.waiting) × ((if mask then mailbox.with_register s Receive n value else s).pointer ≡ s.pointer)
    masked n value true e = let z = eqb-true n 3 e in rw z (refl, refl)
    masked n value false e = (refl, refl)

    receive_written : (n value p : ℕ) (command : Bool) → command ≡ false → IsExchange b map k before (mail_book before index (mailbox.after_write s Receive n value) sent (put_holders map before index p command (mailbox.takes s Receive n value))) past (if command then region_guard (region_at map p) else [])
    receive_written n value p true e = absurd (true≢false e)
    receive_written n value p false e = let m = masked n value (eqb n 3) refl in mail_quiet b map k before _ past index s (mailbox.after_write s Receive n value) there refl refl posts [] (omega arith) refl m.0 m.1

    -- a read at the receiving side takes a message or nothing
    receive_read : (receiver : ℕ) → receiver ≡ k → (command taken : Bool) → (command && s.waiting) ≡ taken → IsExchange b map k before (mail_book before index (if taken then record s { waiting = false } else s) sent (if taken then with_holder before.holders (region_at map (if taken then s.pointer else 0)) (ByCore receiver) else before.holders)) past (if taken then region_guard (region_at map (if taken then s.pointer else 0)) else [])
    receive_read receiver own command true e =
        rw own (mail_taken b map k before (mail_book before index (record s { waiting = false }) sent (with_holder before.holders (region_at map s.pointer) (ByCore k))) past index s (record s { waiting = false }) there refl refl posts refl (and_parts command s.waiting e).1 refl refl)
    receive_read receiver own command false e = mail_quiet b map k before _ past index s s there refl refl posts [] (omega arith) refl refl refl

-- ---- by what stands at the mailbox's number
not_command : (offset : ℕ) → ltb offset 4 ≡ false → eqb offset 0 ≡ false
not_command offset e = let lt = ltb-false offset 4 e in ne_eqb offset 0 (λ z. omega arith)

abbrev pub written_book : AddressMap → Book → ℕ → ℕ → List (List ℕ) → Reaction (List mailbox.State) → Book
written_book map before index offset sent r = record {
  devices = record before.devices { mailboxes = r.state };
  sent = sent;
  holders = put_holders map before index (pointer_of before index) (eqb offset 0) r.answer.took;
}

abbrev pub read_book : Board → AddressMap → Book → ℕ → List (List ℕ) → Reaction (List mailbox.State) → Book
read_book b map before index sent r = record {
  devices = record before.devices { mailboxes = r.state };
  sent = sent;
  holders = if r.answer.took then with_holder before.holders (region_at map r.answer.pointer) (ByCore (receiver_of b index)) else before.holders;
}

no_holders : (map : AddressMap) (book : Book) (index p : ℕ) (command : Bool) → put_holders map book index p command false ≡ book.holders
no_holders map book index p true = refl
no_holders map book index p false = refl

module _ (b : Board) (map : AddressMap) (k : ℕ) (before : Book) (past : List Past) (index : ℕ) (sent : List (List ℕ)) (posts : IsPosted map before) where
  write_low : (s : mailbox.State) → slice_get before.devices.mailboxes index ≡ Some s → (row : MailboxRow) → slice_get b.mailbox index ≡ Some row → (offset value number : ℕ) (low : Bool) → ltb offset 4 ≡ low → (if low then (if eqb row.sender k then (if eqb offset 0 && true then post_breach b map (knowledge b before k past) index (region_at map (pointer_of before index)) number else None) else Some (Breaks Lock number)) else (if eqb row.receiver k then None else Some (Breaks Lock number))) ≡ None → IsExchange b map k before (written_book map before index offset sent (reaction_at before.devices.mailboxes index (Some (if low then write_side Send offset value s else write_side Receive (offset - 4) value s)))) past (if eqb offset 0 then region_guard (region_at map (pointer_of before index)) else [])
  write_low s there row found offset value number true low br =
      let passes = sender_passes (eqb row.sender k) (eqb offset 0) _ number br in
      send_written b map k before past index sent posts s there value number (pointer_of before index) (ap (λ (o : Option mailbox.State). unwrap_or (option_map (λ (state : mailbox.State). state.pointer) o) 0) there) row found (eqb-true row.sender k passes.0) (eqb offset 0) (eqb offset 1) (eqb offset 3) s.waiting refl passes.1
  write_low s there row found offset value number false low br =
      receive_written b map k before past index sent posts s there (offset - 4) value (pointer_of before index) (eqb offset 0) (not_command offset low)

  read_low : (s : mailbox.State) → slice_get before.devices.mailboxes index ≡ Some s → (row : MailboxRow) → slice_get b.mailbox index ≡ Some row → (offset number : ℕ) (low : Bool) → (if low then (if eqb row.sender k then (if eqb offset 0 && false then post_breach b map (knowledge b before k past) index (region_at map (pointer_of before index)) number else None) else Some (Breaks Lock number)) else (if eqb row.receiver k then None else Some (Breaks Lock number))) ≡ None → IsExchange b map k before (read_book b map before index sent (reaction_at before.devices.mailboxes index (Some (if low then read_side Send offset s else read_side Receive (offset - 4) s)))) past (if (if low then read_side Send offset s else read_side Receive (offset - 4) s).answer.took then region_guard (region_at map (if low then read_side Send offset s else read_side Receive (offset - 4) s).answer.pointer) else [])
  read_low s there row found offset number true br = mail_quiet b map k before _ past index s s there refl refl posts [] (omega arith) refl refl refl
  read_low s there row found offset number false br =
      receive_read b map k before past index sent posts s there (receiver_of b index) (ap (λ (o : Option MailboxRow). unwrap_or (option_map (λ (row : MailboxRow). row.receiver) o) 0) found ∙ eqb-true row.receiver k (receiver_passes (eqb row.receiver k) number br)) (eqb (offset - 4) 0) (eqb (offset - 4) 0 && s.waiting) refl

  row_of : length before.devices.mailboxes ≡ length b.mailbox → (s : mailbox.State) → slice_get before.devices.mailboxes index ≡ Some s → (row : MailboxRow) × (slice_get b.mailbox index ≡ Some row)
  row_of lengths s there = let lt = slice_get_within before.devices.mailboxes index s there in element_at b.mailbox index (omega arith)

  pub mail_written : length before.devices.mailboxes ≡ length b.mailbox → (offset value number : ℕ) → mailbox_breach b map (knowledge b before k past) index (slice_get b.mailbox index) offset true number ≡ None → (o : Option mailbox.State) → slice_get before.devices.mailboxes index ≡ o → IsExchange b map k before (written_book map before index offset sent (reaction_at before.devices.mailboxes index (option_map (write_mailbox offset value) o))) past (if eqb offset 0 then region_guard (region_at map (pointer_of before index)) else [])
  mail_written lengths offset value number br None there = quiet_exchange b map k before _ past _ (few_if (eqb offset 0) (region_at map (pointer_of before index))) refl refl (no_holders map before index (pointer_of before index) (eqb offset 0)) posts
  mail_written lengths offset value number br (Some s) there =
      let row = row_of lengths s there in
      write_low s there row.0 row.1 offset value number (ltb offset 4) refl (rw row.1 at br)

  pub mail_read : length before.devices.mailboxes ≡ length b.mailbox → (offset number : ℕ) → mailbox_breach b map (knowledge b before k past) index (slice_get b.mailbox index) offset false number ≡ None → (o : Option mailbox.State) → slice_get before.devices.mailboxes index ≡ o → IsExchange b map k before (read_book b map before index sent (reaction_at before.devices.mailboxes index (option_map (read_mailbox offset) o))) past (if (reaction_at before.devices.mailboxes index (option_map (read_mailbox offset) o)).answer.took then region_guard (region_at map (reaction_at before.devices.mailboxes index (option_map (read_mailbox offset) o)).answer.pointer) else [])
  mail_read lengths offset number br None there = quiet_exchange b map k before _ past [] (omega arith) refl refl refl posts
  mail_read lengths offset number br (Some s) there =
      let row = row_of lengths s there in
      read_low s there row.0 row.1 offset number (ltb offset 4) (rw row.1 at br)
