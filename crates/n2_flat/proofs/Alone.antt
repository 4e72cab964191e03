-- A load or a store past the caches that changes nothing of ownership, and nothing that was sent.
use Rattle.std.proofs.Common.{◌≡◌, ℕ, Bool, true, not, List, [], Option, Some, None, Result, Ok, Err, slice_get, refl, sym, ap, subst, ◌∙◌}
use Rattle.std.proofs.lemmas.Bool.{false≢true, eqb-true}
use Rattle.n2_word.specs.declared.Width.{Width}
use Rattle.n2_word.specs.Lines.{line}
use Rattle.n2_elf.specs.declared.image.Image.{Image}
use Rattle.n2_exec.specs.declared.registers.Regs.{Regs}
use Rattle.n2_exec.specs.Registers.{latched}
use Rattle.n2_parts.specs.declared.board.Board.{Board}
use Rattle.n2_parts.specs.declared.board.MailboxRow.{MailboxRow}
use Rattle.n2_parts.specs.declared.board.PartKind.{PartKind}
use Rattle.n2_parts.specs.declared.board.PartKind.TheVariants as kinds
use Rattle.n2_board.specs.declared.guards.Guard.{Guard}
use Rattle.n2_board.specs.declared.guards.Holder.{Holder}
use Rattle.n2_board.specs.declared.places.Place.{Place}
use Rattle.n2_board.specs.declared.places.Place.TheVariants as places
use Rattle.n2_board.specs.declared.access.Target.{Target}
use Rattle.n2_board.specs.declared.access.Violation.{Violation}
use Rattle.n2_board.specs.declared.access.Violation.TheVariants.{Stray, Separate}
use Rattle.n2_board.specs.declared.access.Route.TheVariants.{Bypassing}
use Rattle.n2_board.specs.AddressMap.{AddressMap, address_map, place}
use Rattle.n2_board.specs.Access.{data_target}
use Rattle.n2_board.specs.Places.{places_of, place_in}
use Rattle.n2_devices.specs.Devices.{Devices, read_at as read_device, write_at as write_device}
use Rattle.n2_bus.specs.Wiring.{Wiring, wiring_of}
use Rattle.n2_bus.specs.Transfer.{Shared, served, read_served, write_served}
use Rattle.n2_bus.specs.declared.request.Request.{Request}
use Rattle.n2_bus.specs.declared.request.Request.TheVariants.{Read, Write}
use Rattle.n2_bus.specs.declared.request.Reply.{Reply}
use Rattle.n2_watch.specs.declared.past.Past.{Past}
use Rattle.n2_watch.specs.declared.access.Access.TheVariants.{Bypass}
use Rattle.n2_watch.specs.Discipline.{Knowledge, direction, bypass_breach, breach}
use Rattle.n2_watch.specs.Book.{Book, owned_by, pointer_of, holders_after, sent_after, guards_touched, guards_read, guards_written, holders_read, holders_written, sent_written, holders_after_read, guards_after_read, holders_after_write, guards_after_write, sent_after_write, all_noted}
use Rattle.n2_watch.specs.World.{World, shared, transferred}
use Rattle.n2_watch.specs.Shapes.{BypassAccess, IsLetPast, request_of}
use Rattle.n2_watch.specs.Watched.{Watched, StandsFor}
use Rattle.n2_watch.proofs.KeptDevices.{among, pointer_like}
use Rattle.n2_watch.proofs.KeptTransfers.{exchange, place_same}
use Rattle.n2_front.specs.Front.{Front}
use Rattle.n2_front.specs.Tasks.{Task}
use Rattle.n2_front.specs.Retire.{acted, who, regs_replied, done_past}
use Rattle.n2_flat.specs.State.{CommonState, reads_alone, writes_alone, is_mailbox, is_shared, common_after}

-- ---- a request that leaves alone what was sent, the holders and what the core owns
pub record IsAlone (b : Board) (map : AddressMap) (book : Book) (request : Request) : Type 0 where
  pub guards : (reply : Reply) → guards_touched map book request reply ≡ []
  pub holders : (reply : Reply) → holders_after b map book request reply ≡ book.holders
  pub sent : (reply : Reply) → sent_after map book request reply ≡ book.sent

read_guards : (map : AddressMap) (kind : PartKind) (reply : Reply) → not (is_mailbox kind) ≡ true → guards_read map kind reply ≡ []
read_guards map kinds.Mailbox reply h = absurd (false≢true h)
read_guards map kind reply h = refl

read_holders : (b : Board) (map : AddressMap) (book : Book) (kind : PartKind) (index : ℕ) (reply : Reply) → not (is_mailbox kind) ≡ true → holders_read b map book kind index reply ≡ book.holders
read_holders b map book kinds.Mailbox index reply h = absurd (false≢true h)
read_holders b map book kind index reply h = refl

guards_at_read : (map : AddressMap) (p : Place) (reply : Reply) → reads_alone p ≡ true → guards_after_read map p reply ≡ []
guards_at_read map places.Memory reply h = refl
guards_at_read map (places.Device part offset) reply h = read_guards map part.kind reply h
guards_at_read map places.Nothing reply h = refl

holders_at_read : (b : Board) (map : AddressMap) (book : Book) (p : Place) (reply : Reply) → reads_alone p ≡ true → holders_after_read b map book p reply ≡ book.holders
holders_at_read b map book places.Memory reply h = refl
holders_at_read b map book (places.Device part offset) reply h = read_holders b map book part.kind part.index reply h
holders_at_read b map book places.Nothing reply h = refl

pub read_alone : (b : Board) (map : AddressMap) (book : Book) (address : ℕ) (width : Width) → reads_alone (place map address) ≡ true → IsAlone b map book (Read address width)
read_alone b map book address width h = record {
  guards = λ reply. guards_at_read map (place map address) reply h;
  holders = λ reply. holders_at_read b map book (place map address) reply h;
  sent = λ reply. refl;
}

write_guards : (map : AddressMap) (book : Book) (kind : PartKind) (index offset : ℕ) → not (is_shared kind) ≡ true → guards_written map book kind index offset ≡ []
write_guards map book kinds.Mutex index offset h = absurd (false≢true h)
write_guards map book kinds.Mailbox index offset h = absurd (false≢true h)
write_guards map book kinds.Uart index offset h = absurd (false≢true h)
write_guards map book kind index offset h = refl

write_holders : (map : AddressMap) (book : Book) (kind : PartKind) (index offset : ℕ) (reply : Reply) → not (is_shared kind) ≡ true → holders_written map book kind index offset reply ≡ book.holders
write_holders map book kinds.Mutex index offset reply h = absurd (false≢true h)
write_holders map book kinds.Mailbox index offset reply h = absurd (false≢true h)
write_holders map book kinds.Uart index offset reply h = absurd (false≢true h)
write_holders map book kind index offset reply h = refl

write_sent : (book : Book) (kind : PartKind) (index offset value : ℕ) (reply : Reply) → not (is_shared kind) ≡ true → sent_written book kind index offset value reply ≡ book.sent
write_sent book kinds.Mutex index offset value reply h = absurd (false≢true h)
write_sent book kinds.Mailbox index offset value reply h = absurd (false≢true h)
write_sent book kinds.Uart index offset value reply h = absurd (false≢true h)
write_sent book kind index offset value reply h = refl

guards_at_write : (map : AddressMap) (book : Book) (p : Place) → writes_alone p ≡ true → guards_after_write map book p ≡ []
guards_at_write map book places.Memory h = refl
guards_at_write map book (places.Device part offset) h = write_guards map book part.kind part.index offset h
guards_at_write map book places.Nothing h = refl

holders_at_write : (map : AddressMap) (book : Book) (p : Place) (reply : Reply) → writes_alone p ≡ true → holders_after_write map book p reply ≡ book.holders
holders_at_write map book places.Memory reply h = refl
holders_at_write map book (places.Device part offset) reply h = write_holders map book part.kind part.index offset reply h
holders_at_write map book places.Nothing reply h = refl

sent_at_write : (book : Book) (p : Place) (value : ℕ) (reply : Reply) → writes_alone p ≡ true → sent_after_write book p value reply ≡ book.sent
sent_at_write book places.Memory value reply h = refl
sent_at_write book (places.Device part offset) value reply h = write_sent book part.kind part.index offset value reply h
sent_at_write book places.Nothing value reply h = refl

pub write_alone : (b : Board) (map : AddressMap) (book : Book) (address : ℕ) (width : Width) (value : ℕ) → writes_alone (place map address) ≡ true → IsAlone b map book (Write address width value)
write_alone b map book address width value h = record {
  guards = λ reply. guards_at_write map book (place map address) h;
  holders = λ reply. holders_at_write map book (place map address) reply h;
  sent = λ reply. sent_at_write book (place map address) value reply h;
}

-- ---- what it leaves
module _ (b : Board) (map : AddressMap) (k : ℕ) (w : World) (request : Request) (alone : IsAlone b map w.book request) where
  pub alone_book : (transferred b map k w request).world ≡ (common_after (wiring_of b) k w request).world
  unfolding transferred
  alone_book =
      let s = served (wiring_of b) k (shared w) request in
      ap (λ (holders : List (Option Holder)). record { memory = s.shared.memory; book = record { devices = s.shared.devices; sent = sent_after map w.book request s.reply; holders = holders } }) (alone.holders s.reply)
      ∙ ap (λ (sent : List (List ℕ)). record { memory = s.shared.memory; book = record { devices = s.shared.devices; sent = sent; holders = w.book.holders } }) (alone.sent s.reply)

  alone_reply : (transferred b map k w request).reply ≡ (served (wiring_of b) k (shared w) request).reply
  unfolding transferred
  alone_reply = refl

  pub alone_done : (f : Front) (task : Task) (wiring : Wiring) (regs : Regs) (reply : Reply) (after : CommonState) → wiring ≡ wiring_of b → regs ≡ latched (regs_replied f task reply) reply.lines → reply ≡ (served wiring k (shared w) request).reply → after ≡ common_after wiring k w request → acted (record { regs = regs; stop = f.stop; past = f.past }) after.world ≡ done_past b map k f w task request (transferred b map k w request)
  alone_done f task wiring regs reply after e r h m =
      let t = transferred b map k w request in
      let same : reply ≡ t.reply = h ∙ ap (λ (x : Wiring). (served x k (shared w) request).reply) e ∙ sym alone_reply in
      let world : after.world ≡ t.world = ap (λ (x : CommonState). x.world) m ∙ ap (λ (x : Wiring). (common_after x k w request).world) e ∙ sym alone_book in
      ap (λ (x : Regs). acted (record { regs = x; stop = f.stop; past = f.past }) after.world) (r ∙ ap (λ (x : Reply). latched (regs_replied f task x) x.lines) same)
      ∙ ap (λ (x : World). acted (record { regs = latched (regs_replied f task t.reply) t.reply.lines; stop = f.stop; past = f.past }) x) world
      ∙ ap (λ (touched : List Guard). acted (record { regs = latched (regs_replied f task t.reply) t.reply.lines; stop = f.stop; past = all_noted (owned_by b w.book k) (owned_by b t.world.book k) touched f.past }) t.world) (sym (alone.guards t.reply))

-- ---- a watch stands on
pub stands_on : (b : Board) (map : AddressMap) (k : ℕ) (watch : Watched) (before after : Book) (past : List Past) → ((guard : Guard) → owned_by b after k guard ≡ owned_by b before k guard) → ((index : ℕ) (row : MailboxRow) → slice_get b.mailbox index ≡ Some row → row.sender ≡ k → pointer_of after index ≡ pointer_of before index) → StandsFor b map k watch before past → StandsFor b map k watch after past
stands_on b map k watch before after past owned pointers h = record {
  map_of = h.map_of;
  board = h.board;
  core_is = h.core_is;
  cpuid = h.cpuid;
  sets = h.sets;
  lines = h.lines;
  recorded = h.recorded;
  slots = h.slots;
  registers = h.registers;
  owned = λ guard. h.owned guard ∙ sym (owned guard);
  pointers = λ index row found sends. h.pointers index row found sends ∙ sym (pointers index row found (eqb-true row.sender k sends));
  again = h.again;
}

-- ---- mailboxes stay
read_kind_mail : (d : Devices) (kind : PartKind) (index offset : ℕ) → not (is_mailbox kind) ≡ true → (read_device d kind index offset).state.mailboxes ≡ d.mailboxes
read_kind_mail d kinds.Mailbox index offset h = absurd (false≢true h)
read_kind_mail d kind index offset h = refl

write_kind_mail : (d : Devices) (kind : PartKind) (index offset value : ℕ) → not (is_shared kind) ≡ true → (write_device d kind index offset value).state.mailboxes ≡ d.mailboxes
write_kind_mail d kinds.Mailbox index offset value h = absurd (false≢true h)
write_kind_mail d kind index offset value h = refl

read_mail_at : (wiring : Wiring) (k : ℕ) (s : Shared) (p : Place) (address : ℕ) (width : Width) → reads_alone p ≡ true → (read_served wiring k s p address width).shared.devices.mailboxes ≡ s.devices.mailboxes
read_mail_at wiring k s places.Memory address width h = refl
read_mail_at wiring k s (places.Device part offset) address width h = read_kind_mail s.devices part.kind part.index offset h
read_mail_at wiring k s places.Nothing address width h = refl

write_mail_at : (wiring : Wiring) (k : ℕ) (s : Shared) (p : Place) (address : ℕ) (width : Width) (value : ℕ) → writes_alone p ≡ true → (write_served wiring k s p address width value).shared.devices.mailboxes ≡ s.devices.mailboxes
write_mail_at wiring k s places.Memory address width value h = refl
write_mail_at wiring k s (places.Device part offset) address width value h = write_kind_mail s.devices part.kind part.index offset value h
write_mail_at wiring k s places.Nothing address width value h = refl

pub read_mail : (b : Board) (images : List Image) (map : AddressMap) (k : ℕ) (s : Shared) (address : ℕ) (width : Width) → map ≡ address_map b images → reads_alone (place map address) ≡ true → (served (wiring_of b) k s (Read address width)).shared.devices.mailboxes ≡ s.devices.mailboxes
unfolding served
read_mail b images map k s address width is h = read_mail_at (wiring_of b) k s (place_in (places_of b) address) address width (subst (λ (p : Place). reads_alone p ≡ true) (place_same b images map is address) h)

pub write_mail : (b : Board) (images : List Image) (map : AddressMap) (k : ℕ) (s : Shared) (address : ℕ) (width : Width) (value : ℕ) → map ≡ address_map b images → writes_alone (place map address) ≡ true → (served (wiring_of b) k s (Write address width value)).shared.devices.mailboxes ≡ s.devices.mailboxes
unfolding served
write_mail b images map k s address width value is h = write_mail_at (wiring_of b) k s (place_in (places_of b) address) address width value (subst (λ (p : Place). writes_alone p ≡ true) (place_same b images map is address) h)

pub alone_stands : (b : Board) (images : List Image) (map : AddressMap) (k : ℕ) (w : World) (watch : Watched) (past : List Past) (access : BypassAccess) → IsLetPast b images map k w past access → IsAlone b map w.book (request_of access) → (served (wiring_of b) k (shared w) (request_of access)).shared.devices.mailboxes ≡ w.book.devices.mailboxes → StandsFor b map k watch w.book past → StandsFor b map k watch (common_after (wiring_of b) k w (request_of access)).world.book past
alone_stands b images map k w watch past access passes alone mail h =
    let request = request_of access in
    let t = transferred b map k w request in
    let x = exchange b images map k w past access passes in
    let same = alone_book b map k w request alone in
    subst (λ (after : World). StandsFor b map k watch after.book past) same
    (stands_on b map k watch w.book t.world.book past
    (λ guard. x.mine guard (ap (λ (touched : List Guard). among guard touched) (alone.guards t.reply)))
    (λ index row found sends. pointer_like w.book t.world.book index (ap (λ (after : World). after.book.devices.mailboxes) same ∙ mail))
    h)

-- ---- what passes reaches something
reaches : (b : Board) (map : AddressMap) (who : Knowledge) (t : Result Target Violation) (store : Bool) (value number : ℕ) → bypass_breach b map who t store value number ≡ None → (target : Target) × (t ≡ Ok target)
reaches b map who (Err Stray) store value number h = absurd (cc)
reaches b map who (Err Separate) store value number h = absurd (cc)
reaches b map who (Ok target) store value number h = (target, refl)

pub past_reaches : (b : Board) (map : AddressMap) (who : Knowledge) (address : ℕ) (store : Bool) (value : ℕ) (width : Width) → breach b map who (Bypass address store value) width ≡ None → (target : Target) × (data_target map who.core address width Bypassing (direction store) ≡ Ok target)
unfolding breach
past_reaches b map who address store value width h = reaches b map who (data_target map who.core address width Bypassing (direction store)) store value (line address) h
