-- A core after a load of a mailbox, or a store of a mutex or a mailbox.
use Rattle.std.proofs.Common.{◌≡◌, ℕ, ◌<◌, ◌&&◌, eqb, Bool, true, false, if◌then◌else◌, List, length, Option, Some, None, IsTrue, get_or, slice_get, refl, sym, ap, subst, ◌∙◌}
use Rattle.std.specs.Prelude.{option_map}
use Rattle.std.proofs.lemmas.Bool.{false≢true, eqb-true, ltb-true}
use Rattle.n2_word.specs.declared.Width.TheVariants.{Word}
use Rattle.n2_word.specs.Lines.{line, without_bypass}
use Rattle.n2_exec.specs.declared.registers.Regs.{Regs}
use Rattle.n2_parts.specs.declared.board.Board.{Board}
use Rattle.n2_parts.specs.declared.board.MailboxRow.{MailboxRow}
use Rattle.n2_parts.specs.declared.board.Part.{Part}
use Rattle.n2_parts.specs.declared.board.PartKind.{PartKind}
use Rattle.n2_parts.specs.declared.board.PartKind.TheVariants as kinds
use Rattle.n2_parts.specs.declared.stops.Stop.{Stop}
use Rattle.n2_parts.specs.declared.stops.Kind.TheVariants.{Lock}
use Rattle.n2_board.specs.declared.guards.Guard.{Guard}
use Rattle.n2_board.specs.declared.guards.Guard.TheVariants.{Passed}
use Rattle.n2_board.specs.declared.guards.Holder.{Holder}
use Rattle.n2_board.specs.declared.guards.Holder.TheVariants.{ByCore, ByMailbox}
use Rattle.n2_board.specs.declared.places.Place.{Place}
use Rattle.n2_board.specs.declared.places.Place.TheVariants as places
use Rattle.n2_board.specs.declared.access.Route.TheVariants.{Bypassing}
use Rattle.n2_board.specs.AddressMap.{AddressMap, class_of, place}
use Rattle.n2_board.specs.Access.{data_target, target_at}
use Rattle.n2_devices.specs.Devices.{is_word}
use Rattle.n2_bus.specs.Wiring.{Wiring, wiring_of}
use Rattle.n2_bus.specs.Transfer.{served}
use Rattle.n2_bus.specs.declared.request.Request.TheVariants.{Read, Write}
use Rattle.n2_bus.specs.declared.request.Reply.{Reply}
use Rattle.n2_bus.proofs.Registers.{is_word_at}
use Rattle.n2_watch.specs.declared.past.Past.{Past}
use Rattle.n2_watch.specs.declared.access.Access.TheVariants.{Bypass}
use Rattle.n2_watch.specs.Discipline.{Knowledge, Breach, Breaks, direction, bypass_breach, device_breach, mailbox_breach, breach}
use Rattle.n2_watch.specs.Book.{Book, owned_by, pointer_of, knowledge, region_at, receiver_of, with_holder, all_noted, past_after, guards_touched}
use Rattle.n2_watch.specs.World.{World, shared, transferred}
use Rattle.n2_watch.specs.Shapes.{IsLetPast, accessed, past_accessed, access_with}
use Rattle.n2_watch.specs.Noted.{word_access}
use Rattle.n2_watch.specs.Watched.{Watched, StandsFor}
use Rattle.n2_watch.proofs.KeptLists.{element_at}
use Rattle.n2_watch.proofs.KeptTransfers.{place_same}
use Rattle.n2_front.specs.Retire.{who}
use Rattle.n2_flat.specs.State.{CoreState, CommonState, IsAt, IsWatched, common_after, with_holders, touched_list, taken_region, posted_region, guard_written, owned_if, event_noted, with_event, is_uart}
use Rattle.n2_flat.proofs.Noted.{core_with}
use Rattle.n2_flat.proofs.Shared.{settled_all, write_world, write_touched, written_list, written_holders, unsent, read_world, read_touched}

both : (x y : Bool) → (x && y) ≡ true → x ≡ true
both true y h = refl
both false y h = absurd (false≢true h)

-- ---- a store of a device breaks nothing of what is said of the device
device_passes : (b : Board) (map : AddressMap) (who : Knowledge) (address low : ℕ) (part : Part) (offset value : ℕ) → low ≡ without_bypass address → place map low ≡ places.Device part offset → breach b map who (Bypass address true value) Word ≡ None → device_breach b map who part.kind part.index offset true value (line address) ≡ None
unfolding breach data_target
device_passes b map who address low part offset value e there br =
    subst (λ (p : Place). bypass_breach b map who (target_at p (class_of map (line address)) who.core Word Bypassing (direction true)) true value (line address) ≡ None) (ap (λ (l : ℕ). place map l) (sym e) ∙ there) br

own_side : (own : Bool) (o : Option Breach) (number : ℕ) → (if own then o else Some (Breaks Lock number)) ≡ None → own ≡ true
own_side true o number e = refl
own_side false o number e = absurd (cc)

sent_by : (b : Board) (map : AddressMap) (k : ℕ) (book : Book) (past : List Past) (index offset value number : ℕ) (row : MailboxRow) → slice_get b.mailbox index ≡ Some row → offset ≡ 0 → mailbox_breach b map (knowledge b book k past) index (slice_get b.mailbox index) offset true number ≡ None → eqb row.sender k ≡ true
sent_by b map k book past index offset value number row found z br =
    own_side (eqb row.sender k) _ number
    (subst (λ (o : Option MailboxRow). mailbox_breach b map (knowledge b book k past) index o 0 true number ≡ None) found
    (subst (λ (n : ℕ). mailbox_breach b map (knowledge b book k past) index (slice_get b.mailbox index) n true number ≡ None) z br))

-- ---- the Pointer register that the core's watch keeps, where it posts
posted_with : (map : AddressMap) (offset pointer register : ℕ) (own : Bool) → eqb offset 0 ≡ own → (offset ≡ 0 → pointer ≡ register) → (if own then region_at map pointer else None) ≡ (if own then region_at map register else None)
posted_with map offset pointer register true e h = ap (λ (p : ℕ). region_at map p) (h (eqb-true offset 0 e))
posted_with map offset pointer register false e h = refl

posted_kind : (map : AddressMap) (kind : PartKind) (offset pointer register : ℕ) → (kind ≡ kinds.Mailbox → offset ≡ 0 → pointer ≡ register) → posted_region kind offset (region_at map pointer) ≡ posted_region kind offset (region_at map register)
posted_kind map kinds.Mailbox offset pointer register h = posted_with map offset pointer register (eqb offset 0) refl (h refl)
posted_kind map kind offset pointer register h = refl

within : (b : Board) (part : Part) (offset : ℕ) → IsTrue (is_word b part offset) → part.kind ≡ kinds.Mailbox → part.index < length b.mailbox
within b part offset h kind =
    let w : IsTrue (is_word b (record { kind = kinds.Mailbox; index = part.index }) offset) = subst (λ (x : PartKind). IsTrue (is_word b (record { kind = x; index = part.index }) offset)) kind h in
    ltb-true part.index (length b.mailbox) (both _ _ w)

module _ (b : Board) (map : AddressMap) (k : ℕ) (common : CommonState) (c : CoreState) (at : IsAt b map k common c) (address low : ℕ) (e : low ≡ without_bypass address) (part : Part) (offset : ℕ) (there : place map low ≡ places.Device part offset) where
  passes : (stored : Option ℕ) → breach b map (who b k c.front common.world.book) (access_with address stored) Word ≡ None → IsLetPast b at.common.map_of.images map k common.world c.front.past (word_access address stored)
  passes stored br = record { valid = at.common.map_of.valid; map_is = at.common.map_of.maps; core = at.core; shape = at.common.shape.book; posted = at.common.posted; unbroken = br }

  module _ (value : ℕ) (br : breach b map (who b k c.front common.world.book) (Bypass address true value) Word ≡ None) where
    pub posted_same : posted_region part.kind offset (region_at map (get_or c.watch.pointers part.index 0)) ≡ posted_region part.kind offset (region_at map (pointer_of common.world.book part.index))
    posted_same =
        posted_kind map part.kind offset _ _
        (λ kind z.
        let is : IsTrue (is_word b part offset) = is_word_at b low part offset (sym (place_same b at.common.map_of.images map at.common.map_of.maps low) ∙ there) in
        let row = element_at b.mailbox part.index (within b part offset is kind) in
        let passed : device_breach b map (who b k c.front common.world.book) kinds.Mailbox part.index offset true value (line address) ≡ None =
        subst (λ (x : PartKind). device_breach b map (who b k c.front common.world.book) x part.index offset true value (line address) ≡ None) kind (device_passes b map (who b k c.front common.world.book) address low part offset value e there br) in
        at.watched.stands.pointers part.index row.0 row.1 (sent_by b map k common.world.book c.front.past part.index offset value (line address) row.0 row.1 z passed))

    pub wrote_stands : (new : Watched) (took : Bool) → (IsLetPast b at.common.map_of.images map c.watch.core common.world c.front.past (word_access address (Some value)) → took ≡ (accessed b map c.watch.core common.world (word_access address (Some value))).reply.took → StandsFor b map c.watch.core c.watch common.world.book c.front.past → StandsFor b map c.watch.core new (accessed b map c.watch.core common.world (word_access address (Some value))).world.book (past_accessed b map c.watch.core common.world c.front.past (word_access address (Some value)))) → took ≡ (transferred b map k common.world (Write low Word value)).reply.took → StandsFor b map k new (transferred b map k common.world (Write low Word value)).world.book (past_after b map k common.world.book (transferred b map k common.world (Write low Word value)).world.book (Write low Word value) (transferred b map k common.world (Write low Word value)).reply c.front.past)
    wrote_stands new took f t =
        let h = at.watched.stands in
        let g : took ≡ (transferred b map k common.world (Write (without_bypass address) Word value)).reply.took = t ∙ ap (λ (l : ℕ). (transferred b map k common.world (Write l Word value)).reply.took) e in
        subst (λ (l : ℕ). StandsFor b map k new (transferred b map k common.world (Write l Word value)).world.book (past_after b map k common.world.book (transferred b map k common.world (Write l Word value)).world.book (Write l Word value) (transferred b map k common.world (Write l Word value)).reply c.front.past)) (sym e)
        (subst (λ (x : ℕ). IsLetPast b at.common.map_of.images map x common.world c.front.past (word_access address (Some value)) → took ≡ (accessed b map x common.world (word_access address (Some value))).reply.took → StandsFor b map x c.watch common.world.book c.front.past → StandsFor b map x new (accessed b map x common.world (word_access address (Some value))).world.book (past_accessed b map x common.world c.front.past (word_access address (Some value)))) h.core_is f (passes (Some value) br) g h)

    pub wrote_past : (new : Watched) (guard : Option Guard) → StandsFor b map k new (transferred b map k common.world (Write low Word value)).world.book (past_after b map k common.world.book (transferred b map k common.world (Write low Word value)).world.book (Write low Word value) (transferred b map k common.world (Write low Word value)).reply c.front.past) → guard ≡ guard_written part.kind part.index offset (posted_region part.kind offset (region_at map (get_or c.watch.pointers part.index 0))) → with_event (event_noted guard (owned_if c.watch guard) (owned_if new guard)) c.front.past ≡ past_after b map k common.world.book (transferred b map k common.world (Write low Word value)).world.book (Write low Word value) (transferred b map k common.world (Write low Word value)).reply c.front.past
    wrote_past new guard s g =
        let t = transferred b map k common.world (Write low Word value) in
        let list : touched_list guard ≡ guards_touched map common.world.book (Write low Word value) t.reply =
        ap (λ (x : Option Guard). touched_list x) (g ∙ ap (λ (r : Option ℕ). guard_written part.kind part.index offset r) posted_same)
        ∙ written_list map common.world.book part.kind part.index offset
        ∙ sym (write_touched b map k common.world low value part offset there t.reply) in
        settled_all (owned_by b common.world.book k) (owned_by b t.world.book k) c.watch new guard c.front.past at.watched.stands.owned s.owned
        ∙ ap (λ (gs : List Guard). all_noted (owned_by b common.world.book k) (owned_by b t.world.book k) gs c.front.past) list

    pub wrote_world : (mid after : CommonState) (taken : Option ℕ) (reply : Reply) → is_uart part.kind ≡ false → mid ≡ common_after common.wiring k common.world (Write low Word value) → after ≡ with_holders mid (with_holder mid.world.book.holders taken (ByMailbox part.index)) → taken ≡ (if reply.took then posted_region part.kind offset (region_at map (get_or c.watch.pointers part.index 0)) else None) → reply ≡ (served common.wiring k (shared common.world) (Write low Word value)).reply → after.world ≡ (transferred b map k common.world (Write low Word value)).world
    wrote_world mid after taken reply kind m a t r =
        let next = common_after (wiring_of b) k common.world (Write low Word value) in
        let answer = (served (wiring_of b) k (shared common.world) (Write low Word value)).reply in
        let mid_is : mid ≡ next = m ∙ ap (λ (x : Wiring). common_after x k common.world (Write low Word value)) at.common.wiring in
        let reply_is : reply ≡ answer = r ∙ ap (λ (x : Wiring). (served x k (shared common.world) (Write low Word value)).reply) at.common.wiring in
        let taken_is : taken ≡ (if answer.took then posted_region part.kind offset (region_at map (pointer_of common.world.book part.index)) else None) =
        t ∙ ap (λ (x : Reply). if x.took then posted_region part.kind offset (region_at map (get_or c.watch.pointers part.index 0)) else None) reply_is
        ∙ ap (λ (x : Option ℕ). if answer.took then x else None) posted_same in
        ap (λ (x : CommonState). x.world) (a ∙ ap (λ (x : CommonState). with_holders x (with_holder x.world.book.holders taken (ByMailbox part.index))) mid_is)
        ∙ write_world b map k common.world low value part offset there (with_holder common.world.book.holders taken (ByMailbox part.index)) common.world.book.sent
        (ap (λ (x : Option ℕ). with_holder common.world.book.holders x (ByMailbox part.index)) taken_is ∙ written_holders map common.world.book part.kind part.index offset answer)
        (unsent common.world.book part.kind part.index offset value answer kind)

  module _ (kind : part.kind ≡ kinds.Mailbox) (br : breach b map (who b k c.front common.world.book) (Bypass address false 0) Word ≡ None) where
    pub received_stands : (new : Watched) (took : Bool) (pointer : ℕ) → (IsLetPast b at.common.map_of.images map c.watch.core common.world c.front.past (word_access address None) → took ≡ (accessed b map c.watch.core common.world (word_access address None)).reply.took → pointer ≡ (accessed b map c.watch.core common.world (word_access address None)).reply.pointer → StandsFor b map c.watch.core c.watch common.world.book c.front.past → StandsFor b map c.watch.core new (accessed b map c.watch.core common.world (word_access address None)).world.book (past_accessed b map c.watch.core common.world c.front.past (word_access address None))) → took ≡ (transferred b map k common.world (Read low Word)).reply.took → pointer ≡ (transferred b map k common.world (Read low Word)).reply.pointer → StandsFor b map k new (transferred b map k common.world (Read low Word)).world.book (past_after b map k common.world.book (transferred b map k common.world (Read low Word)).world.book (Read low Word) (transferred b map k common.world (Read low Word)).reply c.front.past)
    received_stands new took pointer f t p =
        let h = at.watched.stands in
        let g : took ≡ (transferred b map k common.world (Read (without_bypass address) Word)).reply.took = t ∙ ap (λ (l : ℕ). (transferred b map k common.world (Read l Word)).reply.took) e in
        let q : pointer ≡ (transferred b map k common.world (Read (without_bypass address) Word)).reply.pointer = p ∙ ap (λ (l : ℕ). (transferred b map k common.world (Read l Word)).reply.pointer) e in
        subst (λ (l : ℕ). StandsFor b map k new (transferred b map k common.world (Read l Word)).world.book (past_after b map k common.world.book (transferred b map k common.world (Read l Word)).world.book (Read l Word) (transferred b map k common.world (Read l Word)).reply c.front.past)) (sym e)
        (subst (λ (x : ℕ). IsLetPast b at.common.map_of.images map x common.world c.front.past (word_access address None) → took ≡ (accessed b map x common.world (word_access address None)).reply.took → pointer ≡ (accessed b map x common.world (word_access address None)).reply.pointer → StandsFor b map x c.watch common.world.book c.front.past → StandsFor b map x new (accessed b map x common.world (word_access address None)).world.book (past_accessed b map x common.world c.front.past (word_access address None))) h.core_is f (passes None br) g q h)

    pub received_past : (new : Watched) (guard : Option Guard) → StandsFor b map k new (transferred b map k common.world (Read low Word)).world.book (past_after b map k common.world.book (transferred b map k common.world (Read low Word)).world.book (Read low Word) (transferred b map k common.world (Read low Word)).reply c.front.past) → guard ≡ option_map (λ found. Passed found) (taken_region map (transferred b map k common.world (Read low Word)).reply) → with_event (event_noted guard (owned_if c.watch guard) (owned_if new guard)) c.front.past ≡ past_after b map k common.world.book (transferred b map k common.world (Read low Word)).world.book (Read low Word) (transferred b map k common.world (Read low Word)).reply c.front.past
    received_past new guard s g =
        let t = transferred b map k common.world (Read low Word) in
        settled_all (owned_by b common.world.book k) (owned_by b t.world.book k) c.watch new guard c.front.past at.watched.stands.owned s.owned
        ∙ ap (λ (gs : List Guard). all_noted (owned_by b common.world.book k) (owned_by b t.world.book k) gs c.front.past) (ap (λ (x : Option Guard). touched_list x) g ∙ read_touched b map k common.world low part offset there kind t.reply)

    pub received_world : (mid after : CommonState) (region : Option ℕ) (holder : Holder) (reply : Reply) → mid ≡ common_after common.wiring k common.world (Read low Word) → after ≡ with_holders mid (with_holder mid.world.book.holders region holder) → holder ≡ ByCore (receiver_of b part.index) → region ≡ taken_region map reply → reply ≡ (served common.wiring k (shared common.world) (Read low Word)).reply → after.world ≡ (transferred b map k common.world (Read low Word)).world
    received_world mid after region holder reply m a hold t r =
        let next = common_after (wiring_of b) k common.world (Read low Word) in
        let answer = (served (wiring_of b) k (shared common.world) (Read low Word)).reply in
        let mid_is : mid ≡ next = m ∙ ap (λ (x : Wiring). common_after x k common.world (Read low Word)) at.common.wiring in
        let reply_is : reply ≡ answer = r ∙ ap (λ (x : Wiring). (served x k (shared common.world) (Read low Word)).reply) at.common.wiring in
        ap (λ (x : CommonState). x.world) (a ∙ ap (λ (x : CommonState). with_holders x (with_holder x.world.book.holders region holder)) mid_is)
        ∙ read_world b map k common.world low part offset there kind (with_holder common.world.book.holders region holder)
        (ap (λ (x : Option ℕ). with_holder common.world.book.holders x holder) (t ∙ ap (λ (x : Reply). taken_region map x) reply_is)
        ∙ ap (λ (x : Holder). with_holder common.world.book.holders (taken_region map answer) x) hold)

-- ---- the watch of a core that was noted
pub watched_after : (b : Board) (map : AddressMap) (k : ℕ) (world next : World) (regs : Regs) (stop : Option Stop) (past noted : List Past) (watch : Watched) → world ≡ next → past ≡ noted → StandsFor b map k watch next.book noted → IsWatched b map k world.book (core_with regs stop past watch)
watched_after b map k world next regs stop past noted watch e f s = record {
  stands = subst (λ (x : World). StandsFor b map k watch x.book past) (sym e) (subst (λ (p : List Past). StandsFor b map k watch next.book p) (sym f) s);
}
