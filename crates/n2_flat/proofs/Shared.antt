-- A load or a store past the caches of a device that changes ownership, or of a UART.
use Rattle.std.proofs.Common.{◌≡◌, ℕ, ◌&&◌, eqb, Bool, true, false, if◌then◌else◌, List, [], ◌∷◌, Option, Some, None, get_or, refl, sym, ap, subst, ◌∙◌}
use Rattle.std.specs.Prelude.{option_map}
use Rattle.std.proofs.lemmas.Bool.{true≢false}
use Rattle.n2_word.specs.declared.Width.{Width}
use Rattle.n2_word.specs.declared.Width.TheVariants.{Byte, Half, Word}
use Rattle.n2_word.specs.Lines.{line, without_bypass}
use Rattle.n2_exec.specs.declared.registers.Regs.{Regs}
use Rattle.n2_exec.specs.Registers.{latched}
use Rattle.n2_parts.specs.declared.board.Board.{Board}
use Rattle.n2_parts.specs.declared.board.Part.{Part}
use Rattle.n2_parts.specs.declared.board.PartKind.{PartKind}
use Rattle.n2_parts.specs.declared.board.PartKind.TheVariants as kinds
use Rattle.n2_board.specs.declared.classes.Class.{Class}
use Rattle.n2_board.specs.declared.guards.Guard.{Guard}
use Rattle.n2_board.specs.declared.guards.Guard.TheVariants.{Mutex, Passed}
use Rattle.n2_board.specs.declared.guards.Holder.{Holder}
use Rattle.n2_board.specs.declared.guards.Holder.TheVariants.{ByCore, ByMailbox}
use Rattle.n2_board.specs.declared.places.Place.{Place}
use Rattle.n2_board.specs.declared.places.Place.TheVariants as places
use Rattle.n2_board.specs.declared.access.Route.TheVariants.{Bypassing}
use Rattle.n2_board.specs.AddressMap.{AddressMap, class_of, place}
use Rattle.n2_board.specs.Access.{data_target, target_at}
use Rattle.n2_bus.specs.Wiring.{wiring_of}
use Rattle.n2_bus.specs.Transfer.{served}
use Rattle.n2_bus.specs.declared.request.Request.{Request}
use Rattle.n2_bus.specs.declared.request.Request.TheVariants.{Read, Write}
use Rattle.n2_bus.specs.declared.request.Reply.{Reply}
use Rattle.n2_watch.specs.declared.past.Past.{Past}
use Rattle.n2_watch.specs.declared.access.Access.TheVariants.{Bypass}
use Rattle.n2_watch.specs.Discipline.{Knowledge, direction, bypass_breach, breach}
use Rattle.n2_watch.specs.Book.{Book, pointer_of, region_at, region_guard, receiver_of, with_holder, holders_read, holders_written, holders_after_read, holders_after_write, sent_written, sent_after_write, guards_read, guards_written, guards_after_read, guards_after_write, guards_touched, noted, all_noted, past_after}
use Rattle.n2_watch.specs.World.{World, shared, transferred}
use Rattle.n2_watch.specs.Table.{slot_of}
use Rattle.n2_watch.specs.Watched.{Watched}
use Rattle.n2_front.specs.Front.{Front}
use Rattle.n2_front.specs.Tasks.{Task}
use Rattle.n2_front.specs.Retire.{acted, who, regs_replied, done_past}
use Rattle.n2_flat.specs.State.{common_after, with_holders, with_sent, touched_list, taken_region, posted_region, guard_written, owned_if, event_noted, with_event, is_uart}

-- ---- devices are accessed by whole words
word_of : (b : Board) (map : AddressMap) (who : Knowledge) (class : Class) (part : Part) (offset core : ℕ) (width : Width) (store : Bool) (value number : ℕ) → bypass_breach b map who (target_at (places.Device part offset) class core width Bypassing (direction store)) store value number ≡ None → width ≡ Word
word_of b map who class part offset core Byte store value number br = absurd (cc)
word_of b map who class part offset core Half store value number br = absurd (cc)
word_of b map who class part offset core Word store value number br = refl

pub device_word : (b : Board) (map : AddressMap) (who : Knowledge) (address low : ℕ) (part : Part) (offset : ℕ) (store : Bool) (value : ℕ) (width : Width) → low ≡ without_bypass address → place map low ≡ places.Device part offset → breach b map who (Bypass address store value) width ≡ None → width ≡ Word
unfolding breach data_target
device_word b map who address low part offset store value width e there br =
    word_of b map who (class_of map (line address)) part offset who.core width store value (line address)
    (subst (λ (p : Place). bypass_breach b map who (target_at p (class_of map (line address)) who.core width Bypassing (direction store)) store value (line address) ≡ None) (ap (λ (l : ℕ). place map l) (sym e) ∙ there) br)

-- ---- the event of one guard
settled : (guard : Guard) (before after : Bool) (past : List Past) → with_event (event_noted (Some guard) before after) past ≡ noted guard before after past
settled guard true true past = refl
settled guard true false past = refl
settled guard false true past = refl
settled guard false false past = refl

pub settled_all : (own after : Guard → Bool) (old new : Watched) (guard : Option Guard) (past : List Past) → ((g : Guard) → get_or old.owned (slot_of g) false ≡ own g) → ((g : Guard) → get_or new.owned (slot_of g) false ≡ after g) → with_event (event_noted guard (owned_if old guard) (owned_if new guard)) past ≡ all_noted own after (touched_list guard) past
settled_all own after old new None past h g = refl
settled_all own after old new (Some guard) past h g =
    settled guard (get_or old.owned (slot_of guard) false) (get_or new.owned (slot_of guard) false) past
    ∙ ap (λ (x : Bool). noted guard x (get_or new.owned (slot_of guard) false) past) (h guard)
    ∙ ap (λ (x : Bool). noted guard (own guard) x past) (g guard)

-- ---- what is done of an access, by its parts
pub shared_done : (b : Board) (map : AddressMap) (k : ℕ) (f : Front) (w : World) (task : Task) (request : Request) (regs : Regs) (past : List Past) (reply : Reply) (world : World) → regs ≡ latched (regs_replied f task reply) reply.lines → reply ≡ (transferred b map k w request).reply → world ≡ (transferred b map k w request).world → past ≡ past_after b map k w.book (transferred b map k w request).world.book request (transferred b map k w request).reply f.past → acted (record { regs = regs; stop = f.stop; past = past }) world ≡ done_past b map k f w task request (transferred b map k w request)
shared_done b map k f w task request regs past reply world r h m p =
    let t = transferred b map k w request in
    ap (λ (x : Regs). acted (record { regs = x; stop = f.stop; past = past }) world) (r ∙ ap (λ (x : Reply). latched (regs_replied f task x) x.lines) h)
    ∙ ap (λ (x : World). acted (record { regs = latched (regs_replied f task t.reply) t.reply.lines; stop = f.stop; past = past }) x) m
    ∙ ap (λ (x : List Past). acted (record { regs = latched (regs_replied f task t.reply) t.reply.lines; stop = f.stop; past = x }) t.world) p

-- ---- stores of a device
module _ (b : Board) (map : AddressMap) (k : ℕ) (w : World) (low value : ℕ) (part : Part) (offset : ℕ) (there : place map low ≡ places.Device part offset) where
  abbrev pub write_request : Request
  write_request = Write low Word value

  pub write_reply : (transferred b map k w (Write low Word value)).reply ≡ (served (wiring_of b) k (shared w) (Write low Word value)).reply
  unfolding transferred
  write_reply = refl

  pub write_world : (holders : List (Option Holder)) (sent : List (List ℕ)) → holders ≡ holders_written map w.book part.kind part.index offset (served (wiring_of b) k (shared w) (Write low Word value)).reply → sent ≡ sent_written w.book part.kind part.index offset value (served (wiring_of b) k (shared w) (Write low Word value)).reply → (with_holders (with_sent (common_after (wiring_of b) k w (Write low Word value)) sent) holders).world ≡ (transferred b map k w (Write low Word value)).world
  unfolding transferred
  write_world holders sent h s =
      let t = served (wiring_of b) k (shared w) (Write low Word value) in
      let holders_at : holders ≡ holders_after_write map w.book (place map low) t.reply = h ∙ ap (λ (p : Place). holders_after_write map w.book p t.reply) (sym there) in
      let sent_at : sent ≡ sent_after_write w.book (place map low) value t.reply = s ∙ ap (λ (p : Place). sent_after_write w.book p value t.reply) (sym there) in
      ap (λ (x : List (Option Holder)). record { memory = t.shared.memory; book = record { devices = t.shared.devices; sent = sent; holders = x } }) holders_at
      ∙ ap (λ (x : List (List ℕ)). record { memory = t.shared.memory; book = record { devices = t.shared.devices; sent = x; holders = holders_after_write map w.book (place map low) t.reply } }) sent_at

  pub write_touched : (reply : Reply) → guards_touched map w.book (Write low Word value) reply ≡ guards_written map w.book part.kind part.index offset
  write_touched reply = ap (λ (p : Place). guards_after_write map w.book p) there

-- the guard of a write, by the region that it posts
region_list : (region : Option ℕ) → touched_list (option_map (λ found. Passed found) region) ≡ region_guard region
region_list None = refl
region_list (Some region) = refl

mutex_list : (index : ℕ) (own : Bool) → touched_list (if own then Some (Mutex index) else None) ≡ (if own then Mutex index ∷ [] else [])
mutex_list index true = refl
mutex_list index false = refl

posted_list : (region : Option ℕ) (own : Bool) → touched_list (option_map (λ found. Passed found) (if own then region else None)) ≡ (if own then region_guard region else [])
posted_list region true = region_list region
posted_list region false = refl

pub written_list : (map : AddressMap) (book : Book) (kind : PartKind) (index offset : ℕ) → touched_list (guard_written kind index offset (posted_region kind offset (region_at map (pointer_of book index)))) ≡ guards_written map book kind index offset
written_list map book kinds.Mutex index offset = mutex_list index (eqb offset 0)
written_list map book kinds.Mailbox index offset = posted_list (region_at map (pointer_of book index)) (eqb offset 0)
written_list map book kind index offset = refl

posted_holders : (holders : List (Option Holder)) (region : Option ℕ) (index : ℕ) (own took : Bool) → with_holder holders (if took then (if own then region else None) else None) (ByMailbox index) ≡ (if own && took then with_holder holders region (ByMailbox index) else holders)
posted_holders holders region index true true = refl
posted_holders holders region index true false = refl
posted_holders holders region index false true = refl
posted_holders holders region index false false = refl

unposted : (holders : List (Option Holder)) (holder : Holder) (took : Bool) → with_holder holders (if took then None else None) holder ≡ holders
unposted holders holder true = refl
unposted holders holder false = refl

pub written_holders : (map : AddressMap) (book : Book) (kind : PartKind) (index offset : ℕ) (reply : Reply) → with_holder book.holders (if reply.took then posted_region kind offset (region_at map (pointer_of book index)) else None) (ByMailbox index) ≡ holders_written map book kind index offset reply
written_holders map book kinds.Mailbox index offset reply = posted_holders book.holders (region_at map (pointer_of book index)) index (eqb offset 0) reply.took
written_holders map book kind index offset reply = unposted book.holders (ByMailbox index) reply.took

pub unsent : (book : Book) (kind : PartKind) (index offset value : ℕ) (reply : Reply) → is_uart kind ≡ false → book.sent ≡ sent_written book kind index offset value reply
unsent book kinds.Uart index offset value reply h = absurd (true≢false h)
unsent book kind index offset value reply h = refl

-- ---- loads of a mailbox
received_holders_with : (holders : List (Option Holder)) (region : Option ℕ) (holder : Holder) (took : Bool) → with_holder holders (if took then region else None) holder ≡ (if took then with_holder holders region holder else holders)
received_holders_with holders region holder true = refl
received_holders_with holders region holder false = refl

received_list_with : (region : Option ℕ) (took : Bool) → touched_list (option_map (λ found. Passed found) (if took then region else None)) ≡ (if took then region_guard region else [])
received_list_with region true = region_list region
received_list_with region false = refl

module _ (b : Board) (map : AddressMap) (k : ℕ) (w : World) (low : ℕ) (part : Part) (offset : ℕ) (there : place map low ≡ places.Device part offset) (kind : part.kind ≡ kinds.Mailbox) where
  pub read_reply : (transferred b map k w (Read low Word)).reply ≡ (served (wiring_of b) k (shared w) (Read low Word)).reply
  unfolding transferred
  read_reply = refl

  pub read_world : (holders : List (Option Holder)) → holders ≡ with_holder w.book.holders (taken_region map (served (wiring_of b) k (shared w) (Read low Word)).reply) (ByCore (receiver_of b part.index)) → (with_holders (common_after (wiring_of b) k w (Read low Word)) holders).world ≡ (transferred b map k w (Read low Word)).world
  unfolding transferred
  read_world holders h =
      let t = served (wiring_of b) k (shared w) (Read low Word) in
      let at : holders ≡ holders_after_read b map w.book (place map low) t.reply =
      h ∙ received_holders_with w.book.holders (region_at map t.reply.pointer) (ByCore (receiver_of b part.index)) t.reply.took
      ∙ ap (λ (x : PartKind). holders_read b map w.book x part.index t.reply) (sym kind)
      ∙ ap (λ (p : Place). holders_after_read b map w.book p t.reply) (sym there) in
      ap (λ (x : List (Option Holder)). record { memory = t.shared.memory; book = record { devices = t.shared.devices; sent = w.book.sent; holders = x } }) at

  pub read_touched : (reply : Reply) → touched_list (option_map (λ found. Passed found) (taken_region map reply)) ≡ guards_touched map w.book (Read low Word) reply
  read_touched reply =
      received_list_with (region_at map reply.pointer) reply.took
      ∙ ap (λ (x : PartKind). guards_read map x reply) (sym kind)
      ∙ ap (λ (p : Place). guards_after_read map p reply) (sym there)
