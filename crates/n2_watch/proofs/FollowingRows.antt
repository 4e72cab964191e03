-- A watch follows each row of what a load or store past the caches does to a device.
use Rattle.std.proofs.Common.{◌≡◌, ℕ, ◌/◌, ◌%◌, ◌^◌, Bool, true, false, not, ◌&&◌, ◌||◌, eqb, if◌then◌else◌, List, [], ◌∷◌, get_or, slice_get, slice_set, Option, Some, None, refl, sym, ap, subst, ◌∙◌, arith}
use Rattle.std.proofs.lemmas.Bool.{true≢false, eqb-true, and_parts}
use Rattle.std.proofs.lemmas.List.{get_or-set_same}
use Rattle.std.proofs.lemmas.Option.{slice_get_within}
use Rattle.n2_word.specs.Words.{has_bit}
use Rattle.n2_mutex.specs.Mutex as mutex
use Rattle.n2_mailbox.specs.Mailbox as mailbox
use Rattle.n2_mailbox.specs.declared.Side.TheVariants.{Receive}
use Rattle.n2_parts.specs.declared.board.Board.{Board}
use Rattle.n2_parts.specs.declared.board.MailboxRow.{MailboxRow}
use Rattle.n2_parts.specs.declared.stops.Kind.TheVariants.{Lock, Separate}
use Rattle.n2_board.specs.declared.guards.Guard.{Guard}
use Rattle.n2_board.specs.declared.guards.Guard.TheVariants.{Mutex, Passed}
use Rattle.n2_board.specs.declared.guards.Holder.{Holder}
use Rattle.n2_board.specs.declared.guards.Holder.TheVariants.{ByCore, ByMailbox}
use Rattle.n2_board.specs.AddressMap.{AddressMap}
use Rattle.n2_board.specs.Guards.{owns_mutex, owns_region}
use Rattle.n2_watch.specs.declared.past.Past.{Past}
use Rattle.n2_watch.specs.Discipline.{Breach, Breaks, mutex_breach, post_breach, lists, gives}
use Rattle.n2_watch.specs.Book.{Book, owns_if, owns_state, owned_by, cpuid_of, pointer_of, knowledge, region_at, with_holder, region_guard, all_noted}
use Rattle.n2_watch.specs.Kept.{is_posted, IsPosted}
use Rattle.n2_watch.specs.Shapes.{HasBoardShape}
use Rattle.n2_watch.specs.Watched.{Watched, StandsFor}
use Rattle.n2_watch.specs.Noted.{IsTaken, IsMutexWritten, IsSideWritten, IsRegionOwned}
use Rattle.n2_watch.proofs.KeptLists.{get-set_same, set_itself, some_within}
use Rattle.n2_watch.proofs.KeptDevices.{IsExchange, owned_like}
use Rattle.n2_watch.proofs.Following.{still, follows, pointed, register_here, register_elsewhere, registers_stay, written_owner, posted_owner, held_within}

own_word : (same : Bool) (o : Option Breach) (number : ℕ) → (if same then o else Some (Breaks Lock number)) ≡ None → same ≡ true
own_word true o number e = refl
own_word false o number e = absurd (cc)

own_post : (listed own : Bool) (o : Option Breach) (number : ℕ) → (if listed then (if own then o else Some (Breaks Lock number)) else Some (Breaks Separate number)) ≡ None → own ≡ true
own_post true true o number e = refl
own_post true false o number e = absurd (cc)
own_post false own o number e = absurd (cc)

-- a book with another state of a mailbox
abbrev pub mail_book : Book → ℕ → mailbox.State → List (List ℕ) → List (Option Holder) → Book
mail_book book index new sent holders = record { devices = record book.devices { mailboxes = slice_set book.devices.mailboxes index new }; sent = sent; holders = holders }

-- a write at the sending side, by the tests on its offset and by whether a message waits
abbrev pub send_takes : Bool → Bool → Bool → Bool → Bool
send_takes command pointer mask waits = if command || pointer then not waits else mask

abbrev pub send_state : Bool → Bool → Bool → mailbox.State → ℕ → mailbox.State
send_state command pointer takes s value =
    if takes then (if command then record s { command = value; waiting = true } else (if pointer then record s { pointer = value } else record s { send_mask = has_bit value 1 })) else s

module _ (b : Board) (map : AddressMap) (k : ℕ) (before : Book) (past : List Past) (old new : Watched) (shape : HasBoardShape b before) (h : StandsFor b map k old before past) where
  abbrev pub Follows : Book → List Guard → Type 0
  Follows after touched = StandsFor b map k new after (all_noted (owned_by b before k) (owned_by b after k) touched past)

  -- the watch and what the core owns stay
  pub same : (after : Book) (touched : List Guard) → new ≡ old → ((guard : Guard) → owned_by b after k guard ≡ owned_by b before k guard) → ((i : ℕ) → pointer_of after i ≡ pointer_of before i) → Follows after touched
  same after touched e own points =
      subst (λ (w : Watched). StandsFor b map k w after (all_noted (owned_by b before k) (owned_by b after k) touched past)) (sym e)
      (still b map k before after past old touched h own (λ index row f s. points index))

  pub alike : (after : Book) (touched : List Guard) → new ≡ old → after.devices.mutexes ≡ before.devices.mutexes → after.devices.mailboxes ≡ before.devices.mailboxes → after.holders ≡ before.holders → Follows after touched
  alike after touched e p q r = same after touched e (owned_like b before after k p r) (λ i. rw q refl)

  -- ---- a mutex
  mutex_owner : (index value : ℕ) (s t : mutex.State) (mutexes : List mutex.State) → slice_get before.devices.mutexes index ≡ Some s → mutexes ≡ slice_set before.devices.mutexes index t → owns_state (cpuid_of b k) (slice_get mutexes index) ≡ owns_mutex (mutex.value_of t 0) (cpuid_of b k)
  mutex_owner index value s t mutexes there p =
      ap (λ (o : Option mutex.State). owns_state (cpuid_of b k) o) (ap (λ (xs : List mutex.State). slice_get xs index) p ∙ get-set_same before.devices.mutexes index s t there)

  pub mutex_row : (index value number : ℕ) (s : mutex.State) → slice_get before.devices.mutexes index ≡ Some s → (register taken reset : Bool) (sent : List (List ℕ)) (after : Book) → after ≡ record { devices = record before.devices { mutexes = slice_set before.devices.mutexes index (if register then (if taken then record s { owner = mutex.owner_in value; value = mutex.value_in value } else s) else record s { reset = reset }) }; sent = sent; holders = before.holders } → (if register && true then mutex_breach map (knowledge b before k past) index value number else None) ≡ None → IsExchange b map k before after past (if register then Mutex index ∷ [] else []) → IsTaken (if register then taken else true) (IsMutexWritten index register value old new) old new → Follows after (if register then Mutex index ∷ [] else [])
  mutex_row index value number s there true true reset sent after is br x note =
      let lt = slice_get_within before.devices.mutexes index s there in
      let own : value / 2 ^ 16 ≡ cpuid_of b k = eqb-true (value / 2 ^ 16) (cpuid_of b k) (own_word (eqb (value / 2 ^ 16) (cpuid_of b k)) _ number br) in
      follows b map k before after past old new (Mutex index) (not (eqb (value % 2 ^ 16) 0)) h (omega (arith, lt, shape.mutexes)) note
      (λ other d. x.mine other (rw d refl))
      (mutex_owner index value s (record s { owner = mutex.owner_in value; value = mutex.value_in value }) after.devices.mutexes there (ap (λ (w : Book). w.devices.mutexes) is) ∙ written_owner value (cpuid_of b k) own)
      (λ i row e f. ap (λ (w : Book). pointer_of w i) is)
  mutex_row index value number s there true false reset sent after is br x note =
      alike after (Mutex index ∷ []) note (ap (λ (w : Book). w.devices.mutexes) is ∙ set_itself before.devices.mutexes index s there) (ap (λ (w : Book). w.devices.mailboxes) is) (ap (λ (w : Book). w.holders) is)
  mutex_row index value number s there false taken reset sent after is br x note =
      same after [] note (λ guard. x.mine guard refl) (λ i. ap (λ (w : Book). pointer_of w i) is)

  -- ---- a mailbox
  module _ (index : ℕ) (s : mailbox.State) (there : slice_get before.devices.mailboxes index ≡ Some s) (sent : List (List ℕ)) where
    -- a state whose Pointer is the same, with no other holder
    mail_same : (t : mailbox.State) (touched : List Guard) → t.pointer ≡ s.pointer → new ≡ old → Follows (mail_book before index t sent before.holders) touched
    mail_same t touched p e = same _ touched e (owned_like b before (mail_book before index t sent before.holders) k refl refl) (registers_stay before (mail_book before index t sent before.holders) index s t there refl p)

    posted_at : (t : mailbox.State) (o : Option ℕ) (number : ℕ) → t.pointer ≡ s.pointer → post_breach b map (knowledge b before k past) index o number ≡ None → IsExchange b map k before (mail_book before index t sent (with_holder before.holders o (ByMailbox index))) past (region_guard o) → IsRegionOwned o false old new → Follows (mail_book before index t sent (with_holder before.holders o (ByMailbox index))) (region_guard o)
    posted_at t None number p br x note = mail_same t [] p note
    posted_at t (Some q) number p br x note =
        let own : owned_by b before k (Passed q) ≡ true = own_post (lists b q index) (owned_by b before k (Passed q)) (gives map (knowledge b before k past) (Passed q)) number br in
        let lt = held_within before.holders q k own in
        follows b map k before (mail_book before index t sent (slice_set before.holders q (Some (ByMailbox index)))) past old new (Passed q) false h (omega (arith, lt, shape.holders)) note
        (λ other d. x.mine other (rw d refl))
        (posted_owner before.holders q index k)
        (λ i row e f. registers_stay before (mail_book before index t sent (slice_set before.holders q (Some (ByMailbox index)))) index s t there refl p i)

    taken_at : (posts : IsPosted map before) (t : mailbox.State) (o : Option ℕ) (receiver : ℕ) → eqb receiver k ≡ true → t.pointer ≡ s.pointer → region_at map s.pointer ≡ o → s.waiting ≡ true → IsExchange b map k before (mail_book before index t sent (with_holder before.holders o (ByCore receiver))) past (region_guard o) → IsRegionOwned o true old new → Follows (mail_book before index t sent (with_holder before.holders o (ByCore receiver))) (region_guard o)
    taken_at posts t None receiver own p e w x note = mail_same t [] p note
    taken_at posts t (Some q) receiver own p e w x note =
        let held : get_or before.holders q None ≡ Some (ByMailbox index) = (posts index q).1 (subst (λ (z : Option mailbox.State). is_posted map z q) (sym there) (w, e)) in
        let lt = some_within before.holders q (ByMailbox index) held in
        follows b map k before (mail_book before index t sent (slice_set before.holders q (Some (ByCore receiver)))) past old new (Passed q) true h (omega (arith, lt, shape.holders)) note
        (λ other d. x.mine other (rw d refl))
        (ap (λ (z : Option Holder). owns_if (λ holder. owns_region holder k) z) (get_or-set_same before.holders q (Some (ByCore receiver)) None lt) ∙ own)
        (λ i row f g. registers_stay before (mail_book before index t sent (slice_set before.holders q (Some (ByCore receiver)))) index s t there refl p i)

    pub send_row : (value number : ℕ) (row : MailboxRow) → slice_get b.mailbox index ≡ Some row → eqb row.sender k ≡ true → (command pointer mask waits : Bool) → (command ≡ true → post_breach b map (knowledge b before k past) index (region_at map (pointer_of before index)) number ≡ None) → IsExchange b map k before (mail_book before index (send_state command pointer (send_takes command pointer mask waits) s value) sent (if command && send_takes command pointer mask waits then with_holder before.holders (region_at map (pointer_of before index)) (ByMailbox index) else before.holders)) past (if command then region_guard (region_at map (pointer_of before index)) else []) → IsTaken (send_takes command pointer mask waits) (IsSideWritten map index command pointer value old new) old new → Follows (mail_book before index (send_state command pointer (send_takes command pointer mask waits) s value) sent (if command && send_takes command pointer mask waits then with_holder before.holders (region_at map (pointer_of before index)) (ByMailbox index) else before.holders)) (if command then region_guard (region_at map (pointer_of before index)) else [])
    send_row value number row found sender true pointer mask true br x note = mail_same s (region_guard (region_at map (pointer_of before index))) refl note
    send_row value number row found sender true pointer mask false br x note =
        posted_at (record s { command = value; waiting = true }) (region_at map (pointer_of before index)) number refl (br refl) x
        (subst (λ (p : ℕ). IsRegionOwned (region_at map p) false old new) (h.pointers index row found sender) note)
    send_row value number row found sender false true mask true br x note = mail_same s [] refl note
    send_row value number row found sender false true mask false br x note =
        let lt = slice_get_within b.mailbox index row found in
        let after = mail_book before index (record s { pointer = value }) sent before.holders in
        pointed b map k before after past old new index value [] h lt note
        (owned_like b before after k refl refl)
        (register_here before after index s (record s { pointer = value }) there refl)
        (register_elsewhere before after index s (record s { pointer = value }) there refl)
    send_row value number row found sender false false true waits br x note = mail_same (record s { send_mask = has_bit value 1 }) [] refl note
    send_row value number row found sender false false false waits br x note = mail_same s [] refl note

    unwritten : (taken command pointer : Bool) (value : ℕ) → command ≡ false → pointer ≡ false → IsTaken taken (IsSideWritten map index command pointer value old new) old new → new ≡ old
    unwritten true true pointer value e f note = absurd (true≢false e)
    unwritten true false true value e f note = absurd (true≢false f)
    unwritten true false false value e f note = note
    unwritten false command pointer value e f note = note

    masked : (n value : ℕ) (mask : Bool) → eqb n 3 ≡ mask → (if mask then mailbox.with_register s Receive n value else s).pointer ≡ s.pointer
    masked n value true e = let z = eqb-true n 3 e in rw z refl
    masked n value false e = refl

    command_only : (taken command : Bool) (o : Option ℕ) → command ≡ false → (if command && taken then with_holder before.holders o (ByMailbox index) else before.holders) ≡ before.holders
    command_only taken true o e = absurd (true≢false e)
    command_only taken false o e = refl

    pub receive_row : (n value : ℕ) (command pointer : Bool) → command ≡ false → pointer ≡ false → (touched : List Guard) (o : Option ℕ) → IsTaken (mailbox.takes s Receive n value) (IsSideWritten map index command pointer value old new) old new → Follows (mail_book before index (mailbox.after_write s Receive n value) sent (if command && mailbox.takes s Receive n value then with_holder before.holders o (ByMailbox index) else before.holders)) touched
    receive_row n value command pointer e f touched o note =
        subst (λ (hs : List (Option Holder)). Follows (mail_book before index (mailbox.after_write s Receive n value) sent hs) touched) (sym (command_only (mailbox.takes s Receive n value) command o e))
        (mail_same (mailbox.after_write s Receive n value) touched (masked n value (eqb n 3) refl) (unwritten (mailbox.takes s Receive n value) command pointer value e f note))

    pub read_row : (posts : IsPosted map before) (receiver : ℕ) → eqb receiver k ≡ true → (command taken : Bool) → (command && s.waiting) ≡ taken → IsExchange b map k before (mail_book before index (if taken then record s { waiting = false } else s) sent (if taken then with_holder before.holders (region_at map (if taken then s.pointer else 0)) (ByCore receiver) else before.holders)) past (if taken then region_guard (region_at map (if taken then s.pointer else 0)) else []) → IsTaken taken (IsRegionOwned (region_at map (if taken then s.pointer else 0)) true old new) old new → Follows (mail_book before index (if taken then record s { waiting = false } else s) sent (if taken then with_holder before.holders (region_at map (if taken then s.pointer else 0)) (ByCore receiver) else before.holders)) (if taken then region_guard (region_at map (if taken then s.pointer else 0)) else [])
    read_row posts receiver own command true e x note = taken_at posts (record s { waiting = false }) (region_at map s.pointer) receiver own refl refl (and_parts command s.waiting e).1 x note
    read_row posts receiver own command false e x note = mail_same s [] refl note
