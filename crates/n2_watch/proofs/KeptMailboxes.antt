-- What an access of a mailbox changes of what cores own, of waiting messages and of the holders of regions.
use Rattle.std.proofs.Common.{◌≡◌, ◌≢◌, ℕ, ◌≤◌, ◌↔◌, inl, inr, Bool, true, false, if◌then◌else◌, List, [], ◌∷◌, length, get_or, slice_get, slice_set, Option, Some, None, refl, sym, ap, subst, ◌∙◌, arith}
use Rattle.std.specs.Prelude.{option_map, unwrap_or}
use Rattle.std.proofs.lemmas.Bool.{false≢true, true≢false, eqb-true, ne_eqb, cases_eq, or_parts}
use Rattle.std.proofs.lemmas.List.{get_or-set_same, get_or-set_other}
use Rattle.n2_mutex.specs.Mutex as mutex
use Rattle.n2_mailbox.specs.Mailbox as mailbox
use Rattle.n2_parts.specs.declared.board.Board.{Board}
use Rattle.n2_parts.specs.declared.board.MailboxRow.{MailboxRow}
use Rattle.n2_parts.specs.declared.stops.Kind.TheVariants.{Lock, Separate}
use Rattle.n2_board.specs.declared.guards.Guard.{Guard}
use Rattle.n2_board.specs.declared.guards.Guard.TheVariants.{Mutex, Passed}
use Rattle.n2_board.specs.AddressMap.{AddressMap}
use Rattle.n2_board.specs.declared.guards.Holder.{Holder}
use Rattle.n2_board.specs.declared.guards.Holder.TheVariants.{ByCore, ByMailbox}
use Rattle.n2_board.specs.Guards.{owns_region, same_guard}
use Rattle.n2_watch.specs.declared.past.Past.{Past}
use Rattle.n2_watch.specs.Past.{dirty, guards}
use Rattle.n2_watch.specs.Discipline.{Breach, Breaks, gives, lists, post_breach}
use Rattle.n2_watch.specs.Book.{Book, owns_if, owns_state, owned_by, cpuid_of, sets_of, pointer_of, knowledge, region_at, with_holder, region_guard}
use Rattle.n2_watch.specs.Kept.{is_posted, IsPosted}
use Rattle.n2_watch.proofs.KeptLists.{get-set_same, get-set_other, some_within}
use Rattle.n2_watch.proofs.Owners.{one_guard}
use Rattle.n2_watch.proofs.KeptDevices.{IsExchange, owned_like, none_given, none_unflushed, not_same}

-- ---- holders

-- who owns a region, by its holder
owned_region : (b : Board) (book : Book) (j q : ℕ) (holder : Holder) → get_or book.holders q None ≡ Some holder → owned_by b book j (Passed q) ≡ owns_region holder j
owned_region b book j q holder e = ap (λ (o : Option Holder). owns_if (λ x. owns_region x j) o) e

holder_is : (o : Option Holder) (k : ℕ) → owns_if (λ x. owns_region x k) o ≡ true → o ≡ Some (ByCore k)
holder_is None k e = absurd (cc)
holder_is (Some (ByCore core)) k e = ap (λ (x : ℕ). Some (ByCore x)) (eqb-true core k e)
holder_is (Some (ByMailbox index)) k e = absurd (cc)

region_elsewhere : (b : Board) (before after : Book) (j q : ℕ) (o : Option Holder) → after.devices.mutexes ≡ before.devices.mutexes → after.holders ≡ slice_set before.holders q o → (guard : Guard) → guard ≢ Passed q → owned_by b after j guard ≡ owned_by b before j guard
region_elsewhere b before after j q o p h (Mutex i) n = ap (λ (xs : List mutex.State). owns_state (cpuid_of b j) (slice_get xs i)) p
region_elsewhere b before after j q o p h (Passed r) n = ap (λ (x : Option Holder). owns_if (λ holder. owns_region holder j) x) (ap (λ (xs : List (Option Holder)). get_or xs r None) h ∙ get_or-set_other before.holders q r o None (λ e. n (ap (λ (x : ℕ). Passed x) e)))

-- a region that passes from one holder to another; neither is another core than k
module _ (b : Board) (before after : Book) (k q : ℕ) (old new : Holder) (held : get_or before.holders q None ≡ Some old) (mutexes : after.devices.mutexes ≡ before.devices.mutexes) (holders : after.holders ≡ slice_set before.holders q (Some new)) where
  now_held : get_or after.holders q None ≡ Some new
  now_held = ap (λ (xs : List (Option Holder)). get_or xs q None) holders ∙ get_or-set_same before.holders q (Some new) None (some_within before.holders q old held)

  still_held : (r : ℕ) → r ≢ q → get_or after.holders r None ≡ get_or before.holders r None
  still_held r n = ap (λ (xs : List (Option Holder)). get_or xs r None) holders ∙ get_or-set_other before.holders q r (Some new) None n

  region_rival : (j : ℕ) → owns_region old j ≡ false → owns_region new j ≡ false → (guard : Guard) (same : Bool) → same_guard guard (Passed q) ≡ same → owned_by b after j guard ≡ owned_by b before j guard
  region_rival j x y guard false d = region_elsewhere b before after j q (Some new) mutexes holders guard (not_same guard (Passed q) d)
  region_rival j x y guard true d =
      rw (one_guard guard (Passed q) d) (owned_region b after j q new now_held ∙ y ∙ sym x ∙ sym (owned_region b before j q old held))

  region_given : (P : Type 0) → (owns_region old k ≡ true → P) → (guard : Guard) (same : Bool) → same_guard guard (Passed q) ≡ same → owned_by b before k guard ≡ true → owned_by b after k guard ≡ false → P
  region_given P f guard false d x y = none_given (owned_by b before k guard) (owned_by b after k guard) P (region_elsewhere b before after k q (Some new) mutexes holders guard (not_same guard (Passed q) d)) x y
  region_given P f guard true d x y = f (sym (owned_region b before k q old held) ∙ (rw (one_guard guard (Passed q) d) at x))

-- ---- waiting messages

-- a message that waits for a region
message_of : (map : AddressMap) (o : Option mailbox.State) (s : mailbox.State) (r : ℕ) → o ≡ Some s → is_posted map o r → is_posted map (Some s) r
message_of map o s r e h = rw e at h

of_message : (map : AddressMap) (o : Option mailbox.State) (s : mailbox.State) (r : ℕ) → o ≡ Some s → is_posted map (Some s) r → is_posted map o r
of_message map o s r e h = rw e h

none_waits : (map : AddressMap) (s : mailbox.State) (r : ℕ) (P : Type 0) → s.waiting ≡ false → is_posted map (Some s) r → P
none_waits map s r P e h = absurd (true≢false (sym h.0 ∙ e))

one_message : (map : AddressMap) (s : mailbox.State) (r q : ℕ) → region_at map s.pointer ≡ Some q → is_posted map (Some s) r → r ≡ q
one_message map s r q e h = let z : ◌≡◌ {A = Option ℕ} (Some r) (Some q) = sym h.1 ∙ e in grind arith

none_about : (map : AddressMap) (s : mailbox.State) (r : ℕ) (P : Type 0) → region_at map s.pointer ≡ None → is_posted map (Some s) r → P
none_about map s r P e h = let z : ◌≡◌ {A = Option ℕ} None (Some r) = sym e ∙ h.1 in absurd (cc)

module _ (map : AddressMap) (before after : Book) (index : ℕ) (s new : mailbox.State) (there : slice_get before.devices.mailboxes index ≡ Some s) (mailboxes : after.devices.mailboxes ≡ slice_set before.devices.mailboxes index new) where
  here : slice_get after.devices.mailboxes index ≡ Some new
  here = ap (λ (xs : List mailbox.State). slice_get xs index) mailboxes ∙ get-set_same before.devices.mailboxes index s new there

  elsewhere : (i : ℕ) → i ≢ index → slice_get after.devices.mailboxes i ≡ slice_get before.devices.mailboxes i
  elsewhere i n = ap (λ (xs : List mailbox.State). slice_get xs i) mailboxes ∙ get-set_other before.devices.mailboxes index i new n

  message_here : (i r : ℕ) → i ≡ index → is_posted map (slice_get after.devices.mailboxes i) r → is_posted map (Some new) r
  message_here i r e h = message_of map (slice_get after.devices.mailboxes index) new r here (subst (λ (x : ℕ). is_posted map (slice_get after.devices.mailboxes x) r) e h)

  message_then : (i r : ℕ) → i ≡ index → is_posted map (slice_get before.devices.mailboxes i) r → is_posted map (Some s) r
  message_then i r e h = message_of map (slice_get before.devices.mailboxes index) s r there (subst (λ (x : ℕ). is_posted map (slice_get before.devices.mailboxes x) r) e h)

  here_message : (i r : ℕ) → i ≡ index → is_posted map (Some new) r → is_posted map (slice_get after.devices.mailboxes i) r
  here_message i r e h = subst (λ (x : ℕ). is_posted map (slice_get after.devices.mailboxes x) r) (sym e) (of_message map (slice_get after.devices.mailboxes index) new r here h)

  then_message : (i r : ℕ) → i ≡ index → is_posted map (Some s) r → is_posted map (slice_get before.devices.mailboxes i) r
  then_message i r e h = subst (λ (x : ℕ). is_posted map (slice_get before.devices.mailboxes x) r) (sym e) (of_message map (slice_get before.devices.mailboxes index) s r there h)

  message_forth : (i r : ℕ) → i ≢ index → is_posted map (slice_get before.devices.mailboxes i) r → is_posted map (slice_get after.devices.mailboxes i) r
  message_forth i r n h = rw (elsewhere i n) h

  message_back : (i r : ℕ) → i ≢ index → is_posted map (slice_get after.devices.mailboxes i) r → is_posted map (slice_get before.devices.mailboxes i) r
  message_back i r n h = rw (elsewhere i n) at h

  -- no holder changes: the mailbox holds messages about the same regions
  posts_alike : after.holders ≡ before.holders → ((r : ℕ) → is_posted map (Some s) r ↔ is_posted map (Some new) r) → IsPosted map before → IsPosted map after
  posts_alike holders like h i r = (to, from)
    where
      held : get_or after.holders r None ≡ get_or before.holders r None
      held = ap (λ (xs : List (Option Holder)). get_or xs r None) holders

      to : get_or after.holders r None ≡ Some (ByMailbox i) → is_posted map (slice_get after.devices.mailboxes i) r
      to e = elim (cases_eq i index) [
        | inl x ↦ here_message i r x ((like r).0 (message_then i r x ((h i r).0 (sym held ∙ e))))
        | inr n ↦ message_forth i r n ((h i r).0 (sym held ∙ e))
      ]

      from : is_posted map (slice_get after.devices.mailboxes i) r → get_or after.holders r None ≡ Some (ByMailbox i)
      from m = elim (cases_eq i index) [
        | inl x ↦ held ∙ (h i r).1 (then_message i r x ((like r).1 (message_here i r x m)))
        | inr n ↦ held ∙ (h i r).1 (message_back i r n m)
      ]

  -- a message about a region that a core held is put
  posts_put : (b : Board) (k q : ℕ) → get_or before.holders q None ≡ Some (ByCore k) → s.waiting ≡ false → new.waiting ≡ true → region_at map new.pointer ≡ Some q → after.devices.mutexes ≡ before.devices.mutexes → after.holders ≡ slice_set before.holders q (Some (ByMailbox index)) → IsPosted map before → IsPosted map after
  posts_put b k q held free full about mutexes holders h i r = (to, from)
    where
      now : get_or after.holders q None ≡ Some (ByMailbox index)
      now = now_held b before after k q (ByCore k) (ByMailbox index) held mutexes holders

      still : r ≢ q → get_or after.holders r None ≡ get_or before.holders r None
      still = still_held b before after k q (ByCore k) (ByMailbox index) held mutexes holders r

      to : get_or after.holders r None ≡ Some (ByMailbox i) → is_posted map (slice_get after.devices.mailboxes i) r
      to e = elim (cases_eq r q) [
        | inl x ↦
            let z : ◌≡◌ {A = Option Holder} (Some (ByMailbox index)) (Some (ByMailbox i)) = sym now ∙ ap (λ (y : ℕ). get_or after.holders y None) (sym x) ∙ e in
            let same : i ≡ index = grind arith in
            here_message i r same (full, about ∙ ap (λ (y : ℕ). Some y) (sym x))
        | inr n ↦
            let old = (h i r).0 (sym (still n) ∙ e) in
            elim (cases_eq i index) [
              | inl x ↦ none_waits map s r _ free (message_then i r x old)
              | inr m ↦ message_forth i r m old
            ]
      ]

      from : is_posted map (slice_get after.devices.mailboxes i) r → get_or after.holders r None ≡ Some (ByMailbox i)
      from m = elim (cases_eq i index) [
        | inl x ↦
            let same : r ≡ q = one_message map new r q about (message_here i r x m) in
            ap (λ (y : ℕ). get_or after.holders y None) same ∙ now ∙ ap (λ (y : ℕ). Some (ByMailbox y)) (sym x)
        | inr n ↦
            let old = (h i r).1 (message_back i r n m) in
            elim (cases_eq r q) [
              | inl x ↦
                  let z : ◌≡◌ {A = Option Holder} (Some (ByCore k)) (Some (ByMailbox i)) = sym held ∙ ap (λ (y : ℕ). get_or before.holders y None) (sym x) ∙ old in absurd (cc)
              | inr d ↦ still d ∙ old
            ]
      ]

  -- the message about a region is taken, and the region is a core's
  posts_taken : (b : Board) (k q : ℕ) → s.waiting ≡ true → new.waiting ≡ false → region_at map s.pointer ≡ Some q → after.devices.mutexes ≡ before.devices.mutexes → after.holders ≡ slice_set before.holders q (Some (ByCore k)) → IsPosted map before → IsPosted map after
  posts_taken b k q full free about mutexes holders h i r = (to, from)
    where
      held : get_or before.holders q None ≡ Some (ByMailbox index)
      held = (h index q).1 (then_message index q refl (full, about))

      now : get_or after.holders q None ≡ Some (ByCore k)
      now = now_held b before after k q (ByMailbox index) (ByCore k) held mutexes holders

      still : r ≢ q → get_or after.holders r None ≡ get_or before.holders r None
      still = still_held b before after k q (ByMailbox index) (ByCore k) held mutexes holders r

      to : get_or after.holders r None ≡ Some (ByMailbox i) → is_posted map (slice_get after.devices.mailboxes i) r
      to e = elim (cases_eq r q) [
        | inl x ↦ (let z : ◌≡◌ {A = Option Holder} (Some (ByCore k)) (Some (ByMailbox i)) = sym now ∙ ap (λ (y : ℕ). get_or after.holders y None) (sym x) ∙ e in absurd (cc))
        | inr n ↦
            let old = (h i r).0 (sym (still n) ∙ e) in
            elim (cases_eq i index) [
              | inl x ↦ absurd (n (one_message map s r q about (message_then i r x old)))
              | inr m ↦ message_forth i r m old
            ]
      ]

      from : is_posted map (slice_get after.devices.mailboxes i) r → get_or after.holders r None ≡ Some (ByMailbox i)
      from m = elim (cases_eq i index) [
        | inl x ↦ none_waits map new r _ free (message_here i r x m)
        | inr n ↦
            let old = (h i r).1 (message_back i r n m) in
            elim (cases_eq r q) [
              | inl x ↦
                  let z : ◌≡◌ {A = Option Holder} (Some (ByMailbox index)) (Some (ByMailbox i)) = sym held ∙ ap (λ (y : ℕ). get_or before.holders y None) (sym x) ∙ old in
                  absurd (n (grind arith))
              | inr d ↦ still d ∙ old
            ]
      ]

  pointer_here : new.pointer ≡ s.pointer → (i : ℕ) → pointer_of after i ≡ pointer_of before i
  pointer_here e i = elim (cases_eq i index) [
    | inl x ↦ rw x (ap (λ (o : Option mailbox.State). unwrap_or (option_map (λ (state : mailbox.State). state.pointer) o) 0) here ∙ e ∙ sym (ap (λ (o : Option mailbox.State). unwrap_or (option_map (λ (state : mailbox.State). state.pointer) o) 0) there))
    | inr n ↦ pointer_elsewhere i n
  ]
    where
      pointer_elsewhere : (i : ℕ) → i ≢ index → pointer_of after i ≡ pointer_of before i
      pointer_elsewhere i n = ap (λ (o : Option mailbox.State). unwrap_or (option_map (λ (state : mailbox.State). state.pointer) o) 0) (elsewhere i n)

  pub pointer_other : (i : ℕ) → i ≢ index → pointer_of after i ≡ pointer_of before i
  pointer_other i n = ap (λ (o : Option mailbox.State). unwrap_or (option_map (λ (state : mailbox.State). state.pointer) o) 0) (elsewhere i n)

-- ---- exchanges with a mailbox
own_post : (listed own : Bool) (o : Option Breach) (number : ℕ) → (if listed then (if own then o else Some (Breaks Lock number)) else Some (Breaks Separate number)) ≡ None → (own ≡ true) × (o ≡ None)
own_post true true o number e = (refl, e)
own_post true false o number e = absurd (cc)
own_post false own o number e = absurd (cc)

off_core : (k j : ℕ) → j ≢ k → owns_region (ByCore k) j ≡ false
off_core k j n = ne_eqb k j (λ e. n (sym e))

pub few_regions : (o : Option ℕ) → length (region_guard o) ≤ 1
few_regions None = omega arith
few_regions (Some region) = omega arith

module _ (b : Board) (map : AddressMap) (k : ℕ) (before after : Book) (past : List Past) (index : ℕ) (s new : mailbox.State) (there : slice_get before.devices.mailboxes index ≡ Some s) (mailboxes : after.devices.mailboxes ≡ slice_set before.devices.mailboxes index new) (mutexes : after.devices.mutexes ≡ before.devices.mutexes) (posts : IsPosted map before) where
  -- neither holders nor what waits change
  same_holders : (touched : List Guard) → length touched ≤ 1 → after.holders ≡ before.holders → ((r : ℕ) → is_posted map (Some s) r ↔ is_posted map (Some new) r) → ((i : ℕ) (row : MailboxRow) → slice_get b.mailbox i ≡ Some row → row.sender ≢ k → pointer_of after i ≡ pointer_of before i) → IsExchange b map k before after past touched
  same_holders touched few holders like pointers = record {
    few = few;
    others = λ j guard lt n. owned_like b before after j mutexes holders guard;
    mine = λ guard n. owned_like b before after k mutexes holders guard;
    given = λ guard x y number d. none_given (owned_by b before k guard) (owned_by b after k guard) _ (owned_like b before after k mutexes holders guard) x y;
    posts = posts_alike map before after index s new there mailboxes holders like posts;
    pointers = pointers;
  }

  same_message : new.waiting ≡ s.waiting → new.pointer ≡ s.pointer → (r : ℕ) → is_posted map (Some s) r ↔ is_posted map (Some new) r
  same_message w p r = (λ m. (w ∙ m.0, ap (λ (y : ℕ). region_at map y) p ∙ m.1), λ m. (sym w ∙ m.0, ap (λ (y : ℕ). region_at map y) (sym p) ∙ m.1))

  no_message : s.waiting ≡ false → new.waiting ≡ false → (r : ℕ) → is_posted map (Some s) r ↔ is_posted map (Some new) r
  no_message w v r = (λ m. none_waits map s r _ w m, λ m. none_waits map new r _ v m)

  about_none : region_at map s.pointer ≡ None → new.pointer ≡ s.pointer → (r : ℕ) → is_posted map (Some s) r ↔ is_posted map (Some new) r
  about_none e p r = (λ m. none_about map s r _ e m, λ m. none_about map new r _ (ap (λ (y : ℕ). region_at map y) p ∙ e) m)

  pub mail_quiet : (touched : List Guard) → length touched ≤ 1 → after.holders ≡ before.holders → new.waiting ≡ s.waiting → new.pointer ≡ s.pointer → IsExchange b map k before after past touched
  mail_quiet touched few holders w p = same_holders touched few holders (same_message w p) (λ i row e n. pointer_here map before after index s new there mailboxes p i)

  -- the sender, k, writes the Pointer register
  pub mail_pointed : (row : MailboxRow) → slice_get b.mailbox index ≡ Some row → row.sender ≡ k → after.holders ≡ before.holders → s.waiting ≡ false → new.waiting ≡ false → IsExchange b map k before after past []
  mail_pointed row found sender holders w v = same_holders [] (omega arith) holders (no_message w v) moved
    where
      moved : (i : ℕ) (other : MailboxRow) → slice_get b.mailbox i ≡ Some other → other.sender ≢ k → pointer_of after i ≡ pointer_of before i
      moved i other e n = elim (cases_eq i index) [
        | inl x ↦ (let z : ◌≡◌ {A = Option MailboxRow} (Some other) (Some row) = sym e ∙ ap (λ (y : ℕ). slice_get b.mailbox y) x ∙ found in let same : other ≡ row = grind arith in absurd (n (ap (λ (y : MailboxRow). y.sender) same ∙ sender)))
        | inr m ↦ pointer_other map before after index s new there mailboxes i m
      ]

  passed_on : (q : ℕ) (old next : Holder) → get_or before.holders q None ≡ Some old → after.holders ≡ slice_set before.holders q (Some next) → ((j : ℕ) → j ≢ k → owns_region old j ≡ false) → ((j : ℕ) → j ≢ k → owns_region next j ≡ false) → (owns_region old k ≡ true → (number : ℕ) → dirty (sets_of b k) past number ≡ true → guards map (Passed q) number ≡ false) → new.pointer ≡ s.pointer → IsPosted map after → IsExchange b map k before after past (Passed q ∷ [])
  passed_on q old next held holders x y clean p h = record {
    few = omega arith;
    others = λ j guard lt n. region_rival b before after k q old next held mutexes holders j (x j n) (y j n) guard (same_guard guard (Passed q)) refl;
    mine = λ guard n. region_elsewhere b before after k q (Some next) mutexes holders guard (not_same guard (Passed q) (or_parts (same_guard guard (Passed q)) false n).0);
    given = λ guard u v number d. given_at guard u v number d (same_guard guard (Passed q)) refl;
    posts = h;
    pointers = λ i row e n. pointer_here map before after index s new there mailboxes p i;
  }
    where
      given_at : (guard : Guard) → owned_by b before k guard ≡ true → owned_by b after k guard ≡ false → (number : ℕ) → dirty (sets_of b k) past number ≡ true → (same : Bool) → same_guard guard (Passed q) ≡ same → guards map guard number ≡ false
      given_at guard u v number d true e = rw (one_guard guard (Passed q) e) (region_given b before after k q old next held mutexes holders (guards map (Passed q) number ≡ false) (λ z. clean z number d) guard true e u v)
      given_at guard u v number d false e = region_given b before after k q old next held mutexes holders (guards map guard number ≡ false) (λ z. none_given (owned_by b before k guard) (owned_by b after k guard) _ (region_elsewhere b before after k q (Some next) mutexes holders guard (not_same guard (Passed q) e)) u v) guard false e u v

  -- the sender, k, puts a message
  put_at : (o : Option ℕ) → region_at map s.pointer ≡ o → (number : ℕ) → post_breach b map (knowledge b before k past) index o number ≡ None → after.holders ≡ with_holder before.holders o (ByMailbox index) → s.waiting ≡ false → new.waiting ≡ true → new.pointer ≡ s.pointer → IsExchange b map k before after past (region_guard o)
  put_at None e number br holders w v p = same_holders [] (omega arith) holders (about_none e p) (λ i row e n. pointer_here map before after index s new there mailboxes p i)
  put_at (Some q) e number br holders w v p =
      let passes = own_post (lists b q index) (owned_by b before k (Passed q)) (gives map (knowledge b before k past) (Passed q)) number br in
      let held = holder_is (get_or before.holders q None) k passes.0 in
      passed_on q (ByCore k) (ByMailbox index) held holders (off_core k) (λ j n. refl)
      (λ own number d. none_unflushed (knowledge b before k past) (λ n. guards map (Passed q) n) passes.1 number d)
      p
      (posts_put map before after index s new there mailboxes b k q held w v (ap (λ (y : ℕ). region_at map y) p ∙ e) mutexes holders posts)

  pub mail_put : (number : ℕ) → post_breach b map (knowledge b before k past) index (region_at map s.pointer) number ≡ None → after.holders ≡ with_holder before.holders (region_at map s.pointer) (ByMailbox index) → s.waiting ≡ false → new.waiting ≡ true → new.pointer ≡ s.pointer → IsExchange b map k before after past (region_guard (region_at map s.pointer))
  mail_put number = put_at (region_at map s.pointer) refl number

  -- the receiver, k, takes a message
  taken_at : (o : Option ℕ) → region_at map s.pointer ≡ o → after.holders ≡ with_holder before.holders o (ByCore k) → s.waiting ≡ true → new.waiting ≡ false → new.pointer ≡ s.pointer → IsExchange b map k before after past (region_guard o)
  taken_at None e holders w v p = same_holders [] (omega arith) holders (about_none e p) (λ i row e n. pointer_here map before after index s new there mailboxes p i)
  taken_at (Some q) e holders w v p =
      let held : get_or before.holders q None ≡ Some (ByMailbox index) = (posts index q).1 (of_message map (slice_get before.devices.mailboxes index) s q there (w, e)) in
      passed_on q (ByMailbox index) (ByCore k) held holders (λ j n. refl) (off_core k) (λ own. absurd (false≢true own)) p
      (posts_taken map before after index s new there mailboxes b k q w v e mutexes holders posts)

  pub mail_taken : after.holders ≡ with_holder before.holders (region_at map s.pointer) (ByCore k) → s.waiting ≡ true → new.waiting ≡ false → new.pointer ≡ s.pointer → IsExchange b map k before after past (region_guard (region_at map s.pointer))
  mail_taken = taken_at (region_at map s.pointer) refl
