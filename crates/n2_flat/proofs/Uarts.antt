-- A core after a store of a UART, and lists of events and bytes where the newest is another.
use Rattle.std.proofs.Common.{◌≡◌, ℕ, ◌<◌, true, false, List, [], ◌∷◌, length, Option, Some, None, get_or, slice_set, reverse, ◌++◌, refl, sym, ap, subst, ◌∙◌, arith, zero, suc, ◌+◌, length-append}
use Rattle.n2_word.specs.declared.Width.TheVariants.{Word}
use Rattle.n2_word.specs.Lines.{without_bypass}
use Rattle.n2_exec.specs.declared.registers.Regs.{Regs}
use Rattle.n2_parts.specs.declared.board.Board.{Board}
use Rattle.n2_parts.specs.declared.board.Part.{Part}
use Rattle.n2_parts.specs.declared.board.PartKind.{PartKind}
use Rattle.n2_parts.specs.declared.board.PartKind.TheVariants as kinds
use Rattle.n2_parts.specs.declared.stops.Stop.{Stop}
use Rattle.n2_board.specs.declared.guards.Guard.{Guard}
use Rattle.n2_board.specs.declared.places.Place.{Place}
use Rattle.n2_board.specs.declared.places.Place.TheVariants as places
use Rattle.n2_board.specs.AddressMap.{AddressMap, place}
use Rattle.n2_bus.specs.Wiring.{Wiring, wiring_of}
use Rattle.n2_devices.specs.Devices.{write_at}
use Rattle.n2_bus.specs.Transfer.{served, write_served}
use Rattle.std.proofs.lemmas.List.{reverse-append, reverse-reverse, length-reverse}
use Rattle.std.proofs.Math.Seq.{set-append_seam}
use Rattle.n2_bus.specs.declared.request.Request.TheVariants.{Write}
use Rattle.n2_bus.specs.declared.request.Reply.{Reply}
use Rattle.n2_watch.specs.declared.past.Past.{Past}
use Rattle.n2_watch.specs.declared.access.Access.TheVariants.{Bypass}
use Rattle.n2_watch.specs.Discipline.{breach}
use Rattle.n2_watch.specs.Book.{sent_written, guards_written, holders_written, owned_by, all_noted, past_after, guards_touched}
use Rattle.n2_watch.specs.World.{World, shared, transferred}
use Rattle.n2_watch.specs.Watched.{Watched, StandsFor}
use Rattle.n2_watch.proofs.KeptDevices.{among, pointer_like}
use Rattle.n2_watch.proofs.KeptTransfers.{exchange}
use Rattle.n2_watch.proofs.KeptTransfers.{place_same}
use Rattle.n2_front.specs.Retire.{who}
use Rattle.n2_flat.specs.State.{CoreState, CommonState, IsAt, IsWatched, common_after, with_sent}
use Rattle.n2_flat.proofs.Noted.{core_with}
use Rattle.n2_flat.proofs.Shared.{write_world, write_touched}
use Rattle.n2_flat.proofs.Alone.{stands_on}

-- ---- lists whose newest element is another
pub newest_put : {A : Type 0} (items : List A) (newest event : A) (past : List A) (i : ℕ) → i + 1 ≡ length items → reverse items ≡ newest ∷ past → reverse (slice_set items i event) ≡ event ∷ past
newest_put {A} items newest event past i n e =
    let z : items ≡ reverse past ++ newest ∷ [] = sym (reverse-reverse items) ∙ ap (λ (l : List A). reverse l) e ∙ reverse-append (newest ∷ []) past in
    let m : length (reverse past) ≡ i = (let x = ap (λ (l : List A). length l) z in omega (arith, x, length-append (reverse past) (newest ∷ []), length-reverse past)) in
    ap (λ (l : List A). reverse (slice_set l i event)) z
    ∙ ap (λ (k : ℕ). reverse (slice_set (reverse past ++ newest ∷ []) k event)) (sym m)
    ∙ ap (λ (l : List A). reverse l) (set-append_seam (reverse past) newest [] event)
    ∙ reverse-append (reverse past) (event ∷ [])
    ∙ ap (λ (l : List A). event ∷ l) (reverse-reverse past)

-- an element that was set is set back
pub put_back : {A : Type 0} (xs : List A) (i : ℕ) (y x d : A) → i < length xs → x ≡ get_or xs i d → slice_set (slice_set xs i y) i x ≡ xs
put_back [] i y x d lt e = absurd (omega arith)
put_back {A} (z ∷ xs) zero y x d lt e = ap (λ (w : A). w ∷ xs) e
put_back {A} (z ∷ xs) (suc i) y x d lt e = ap (λ (ws : List A). z ∷ ws) (put_back xs i y x d (omega arith) e)

pub got_set : {A : Type 0} (xs : List A) (i : ℕ) (y d : A) → i < length (slice_set xs i y) → get_or (slice_set xs i y) i d ≡ y
got_set [] i y d lt = absurd (omega arith)
got_set (z ∷ xs) zero y d lt = refl
got_set (z ∷ xs) (suc i) y d lt = got_set xs i y d (omega arith)

-- ---- the watch of a core that stays
pub watched_in : (b : Board) (map : AddressMap) (k : ℕ) (world next : World) (regs : Regs) (stop : Option Stop) (past : List Past) (watch : Watched) → world ≡ next → StandsFor b map k watch next.book past → IsWatched b map k world.book (core_with regs stop past watch)
watched_in b map k world next regs stop past watch e s = record { stands = subst (λ (x : World). StandsFor b map k watch x.book past) (sym e) s }

module _ (b : Board) (map : AddressMap) (k : ℕ) (common : CommonState) (c : CoreState) (at : IsAt b map k common c) (address low : ℕ) (e : low ≡ without_bypass address) (part : Part) (offset : ℕ) (there : place map low ≡ places.Device part offset) (kind : part.kind ≡ kinds.Uart) (value : ℕ) where
  pub uart_world : (after : CommonState) (reply : Reply) → reply ≡ (served common.wiring k (shared common.world) (Write low Word value)).reply → after ≡ with_sent (common_after common.wiring k common.world (Write low Word value)) (sent_written common.world.book kinds.Uart part.index offset value reply) → after.world ≡ (transferred b map k common.world (Write low Word value)).world
  uart_world after reply r a =
      let answer = (served (wiring_of b) k (shared common.world) (Write low Word value)).reply in
      let reply_is : reply ≡ answer = r ∙ ap (λ (x : Wiring). (served x k (shared common.world) (Write low Word value)).reply) at.common.wiring in
      ap (λ (x : CommonState). x.world) a
      ∙ ap (λ (x : Wiring). (with_sent (common_after x k common.world (Write low Word value)) (sent_written common.world.book kinds.Uart part.index offset value reply)).world) at.common.wiring
      ∙ write_world b map k common.world low value part offset there common.world.book.holders (sent_written common.world.book kinds.Uart part.index offset value reply)
      (ap (λ (x : PartKind). holders_written map common.world.book x part.index offset answer) (sym kind))
      (ap (λ (x : Reply). sent_written common.world.book kinds.Uart part.index offset value x) reply_is ∙ ap (λ (x : PartKind). sent_written common.world.book x part.index offset value answer) (sym kind))

  pub uart_touched : (reply : Reply) → guards_touched map common.world.book (Write low Word value) reply ≡ []
  uart_touched reply = write_touched b map k common.world low value part offset there reply ∙ ap (λ (x : PartKind). guards_written map common.world.book x part.index offset) kind

  pub uart_past : c.front.past ≡ past_after b map k common.world.book (transferred b map k common.world (Write low Word value)).world.book (Write low Word value) (transferred b map k common.world (Write low Word value)).reply c.front.past
  uart_past =
      let t = transferred b map k common.world (Write low Word value) in
      ap (λ (gs : List Guard). all_noted (owned_by b common.world.book k) (owned_by b t.world.book k) gs c.front.past) (sym (uart_touched t.reply))

  uart_mail : (transferred b map k common.world (Write low Word value)).world.book.devices.mailboxes ≡ common.world.book.devices.mailboxes
  unfolding transferred served
  uart_mail =
      ap (λ (p : Place). (write_served (wiring_of b) k (shared common.world) p low Word value).shared.devices.mailboxes) (sym (place_same b at.common.map_of.images map at.common.map_of.maps low) ∙ there)
      ∙ ap (λ (x : PartKind). (write_at common.world.book.devices x part.index offset value).state.mailboxes) kind

  pub uart_stands : breach b map (who b k c.front common.world.book) (Bypass address true value) Word ≡ None → StandsFor b map k c.watch (transferred b map k common.world (Write low Word value)).world.book c.front.past
  uart_stands br =
      let t = transferred b map k common.world (Write low Word value) in
      let x = exchange b at.common.map_of.images map k common.world c.front.past (record { address = address; width = Word; stored = Some value }) (record { valid = at.common.map_of.valid; map_is = at.common.map_of.maps; core = at.core; shape = at.common.shape.book; posted = at.common.posted; unbroken = br }) in
      let own = subst (λ (l : ℕ). (guard : Guard) → among guard (guards_touched map common.world.book (Write l Word value) (transferred b map k common.world (Write l Word value)).reply) ≡ false → owned_by b (transferred b map k common.world (Write l Word value)).world.book k guard ≡ owned_by b common.world.book k guard) (sym e) (λ guard. x.mine guard) in
      stands_on b map k c.watch common.world.book t.world.book c.front.past
      (λ guard. own guard (ap (λ (touched : List Guard). among guard touched) (uart_touched t.reply)))
      (λ index row found sends. pointer_like common.world.book t.world.book index uart_mail)
      at.watched.stands
