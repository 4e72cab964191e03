-- What past events say of a line, in words.
use Rattle.std.proofs.Common.{◌≡◌, ℕ, List, [], ◌∷◌, ◌++◌, refl, ap, arith, Bool, true, false, ◌&&◌, cond, nat_eq}
use Rattle.std.proofs.lemmas.Bool.Decides.{nat_tests}
use Rattle.n2_insn.specs.declared.DataOp.{DataOp}
use Rattle.n2_board.specs.declared.guards.Guard.{Guard}
use Rattle.n2_board.specs.AddressMap.{AddressMap}
use Rattle.n2_watch.specs.declared.past.Past.{Past}
use Rattle.n2_watch.specs.declared.past.Past.TheVariants.{Touch, Clean, Got, Gave}
use Rattle.n2_watch.specs.Past.{covers, guards, may, dirty, stale}
use Rattle.n2_watch.specs.InWords.{NoneCleans, IsTouched, IsTouchedBeforeGot}

-- a list's own Touch of the line
here : (sets : ℕ) (touched : ℕ) (store : Bool) (past : List Past) (number : ℕ) → touched ≡ number → IsTouched sets (Touch touched store ∷ past) number store
here sets touched store past number same = record { later = []; earlier = past; parts = ap (λ n. Touch n store ∷ past) same; uncleaned = tt }

-- one more event that is no Clean of the line
more : (sets : ℕ) (event : Past) (past : List Past) (number : ℕ) (store : Bool) → ((later : List Past) → NoneCleans sets number later → NoneCleans sets number (event ∷ later)) → IsTouched sets past number store → IsTouched sets (event ∷ past) number store
more sets event past number store keeps t =
    record { later = event ∷ t.later; earlier = t.earlier; parts = ap (λ q. event ∷ q) t.parts; uncleaned = keeps t.later t.uncleaned }

any_touch : (x y : Bool) → y ≡ true → cond x true y ≡ true
any_touch true y h = refl
any_touch false y h = h

abbrev Touched : ℕ → List Past → ℕ → Type 0
Touched sets past number = (store : Bool) × IsTouched sets past number store

may_touch : (sets touched : ℕ) (store : Bool) (past : List Past) (number : ℕ) (same : Bool) → nat_eq touched number ≡ same → cond same true (may sets past number) ≡ true → (may sets past number ≡ true → Touched sets past number) → Touched sets (Touch touched store ∷ past) number
may_touch sets touched store past number true e h before = (store, here sets touched store past number (grind (arith, nat_tests)))
may_touch sets touched store past number false e h before =
    let t = before h in (t.0, more sets (Touch touched store) past number t.0 (λ later u. u) t.1)

may_clean : (sets : ℕ) (op : DataOp) (address : ℕ) (past : List Past) (number : ℕ) (covered : Bool) → covers sets op address number ≡ covered → cond covered false (may sets past number) ≡ true → (may sets past number ≡ true → Touched sets past number) → Touched sets (Clean op address ∷ past) number
may_clean sets op address past number true e h before = absurd (cc)
may_clean sets op address past number false e h before =
    let t = before h in (t.0, more sets (Clean op address) past number t.0 (λ later u. (e, u)) t.1)

pub may_to : (sets : ℕ) (past : List Past) (number : ℕ) → may sets past number ≡ true → Touched sets past number
may_to sets [] number h = absurd (cc)
may_to sets (Touch touched store ∷ past) number h = may_touch sets touched store past number (nat_eq touched number) refl h (may_to sets past number)
may_to sets (Clean op address ∷ past) number h = may_clean sets op address past number (covers sets op address number) refl h (may_to sets past number)
may_to sets (Got guard ∷ past) number h =
    let t = may_to sets past number h in (t.0, more sets (Got guard) past number t.0 (λ later u. u) t.1)
may_to sets (Gave guard ∷ past) number h =
    let t = may_to sets past number h in (t.0, more sets (Gave guard) past number t.0 (λ later u. u) t.1)

may_with : (sets : ℕ) (later earlier : List Past) (number : ℕ) (store : Bool) → NoneCleans sets number later → may sets (later ++ Touch number store ∷ earlier) number ≡ true
may_with sets [] earlier number store u = grind (arith, nat_tests)
may_with sets (Touch touched other ∷ later) earlier number store u = any_touch (nat_eq touched number) _ (may_with sets later earlier number store u)
may_with sets (Clean op address ∷ later) earlier number store u = rw u.0 (may_with sets later earlier number store u.1)
may_with sets (Got guard ∷ later) earlier number store u = may_with sets later earlier number store u
may_with sets (Gave guard ∷ later) earlier number store u = may_with sets later earlier number store u

pub may_from : (sets : ℕ) (past : List Past) (number : ℕ) → Touched sets past number → may sets past number ≡ true
may_from sets past number t = rw t.1.parts (may_with sets t.1.later t.1.earlier number t.0 t.1.uncleaned)

dirty_touch : (sets touched : ℕ) (store : Bool) (past : List Past) (number : ℕ) (same : Bool) → (nat_eq touched number && store) ≡ same → cond same true (dirty sets past number) ≡ true → (dirty sets past number ≡ true → IsTouched sets past number true) → IsTouched sets (Touch touched store ∷ past) number true
dirty_touch sets touched true past number true e h before = here sets touched true past number (grind (arith, nat_tests))
dirty_touch sets touched false past number true e h before = absurd (grind (arith, nat_tests))
dirty_touch sets touched store past number false e h before = more sets (Touch touched store) past number true (λ later u. u) (before h)

dirty_clean : (sets : ℕ) (op : DataOp) (address : ℕ) (past : List Past) (number : ℕ) (covered : Bool) → covers sets op address number ≡ covered → cond covered false (dirty sets past number) ≡ true → (dirty sets past number ≡ true → IsTouched sets past number true) → IsTouched sets (Clean op address ∷ past) number true
dirty_clean sets op address past number true e h before = absurd (cc)
dirty_clean sets op address past number false e h before = more sets (Clean op address) past number true (λ later u. (e, u)) (before h)

pub dirty_to : (sets : ℕ) (past : List Past) (number : ℕ) → dirty sets past number ≡ true → IsTouched sets past number true
dirty_to sets [] number h = absurd (cc)
dirty_to sets (Touch touched store ∷ past) number h = dirty_touch sets touched store past number (nat_eq touched number && store) refl h (dirty_to sets past number)
dirty_to sets (Clean op address ∷ past) number h = dirty_clean sets op address past number (covers sets op address number) refl h (dirty_to sets past number)
dirty_to sets (Got guard ∷ past) number h = more sets (Got guard) past number true (λ later u. u) (dirty_to sets past number h)
dirty_to sets (Gave guard ∷ past) number h = more sets (Gave guard) past number true (λ later u. u) (dirty_to sets past number h)

dirty_with : (sets : ℕ) (later earlier : List Past) (number : ℕ) → NoneCleans sets number later → dirty sets (later ++ Touch number true ∷ earlier) number ≡ true
dirty_with sets [] earlier number u = grind (arith, nat_tests)
dirty_with sets (Touch touched other ∷ later) earlier number u = any_touch (nat_eq touched number && other) _ (dirty_with sets later earlier number u)
dirty_with sets (Clean op address ∷ later) earlier number u = rw u.0 (dirty_with sets later earlier number u.1)
dirty_with sets (Got guard ∷ later) earlier number u = dirty_with sets later earlier number u
dirty_with sets (Gave guard ∷ later) earlier number u = dirty_with sets later earlier number u

pub dirty_from : (sets : ℕ) (past : List Past) (number : ℕ) → IsTouched sets past number true → dirty sets past number ≡ true
dirty_from sets past number t = rw t.parts (dirty_with sets t.later t.earlier number t.uncleaned)

-- events that clean the line of which none is a Clean leave it held
may_kept : (sets : ℕ) (later past : List Past) (number : ℕ) → NoneCleans sets number later → may sets past number ≡ true → may sets (later ++ past) number ≡ true
may_kept sets [] past number u h = h
may_kept sets (Touch touched other ∷ later) past number u h = any_touch (nat_eq touched number) _ (may_kept sets later past number u h)
may_kept sets (Clean op address ∷ later) past number u h = rw u.0 (may_kept sets later past number u.1 h)
may_kept sets (Got guard ∷ later) past number u h = may_kept sets later past number u h
may_kept sets (Gave guard ∷ later) past number u h = may_kept sets later past number u h

-- one more event that is no Clean of the line, after a Got
more_stale : (map : AddressMap) (sets : ℕ) (event : Past) (past : List Past) (number : ℕ) → ((later : List Past) → NoneCleans sets number later → NoneCleans sets number (event ∷ later)) → IsTouchedBeforeGot map sets past number → IsTouchedBeforeGot map sets (event ∷ past) number
more_stale map sets event past number keeps t =
    record { guard = t.guard; its_guard = t.its_guard; later = event ∷ t.later; earlier = t.earlier; parts = ap (λ q. event ∷ q) t.parts; uncleaned = keeps t.later t.uncleaned; store = t.store; touched = t.touched }

stale_clean : (map : AddressMap) (sets : ℕ) (op : DataOp) (address : ℕ) (past : List Past) (number : ℕ) (covered : Bool) → covers sets op address number ≡ covered → cond covered false (stale map sets past number) ≡ true → (stale map sets past number ≡ true → IsTouchedBeforeGot map sets past number) → IsTouchedBeforeGot map sets (Clean op address ∷ past) number
stale_clean map sets op address past number true e h before = absurd (cc)
stale_clean map sets op address past number false e h before = more_stale map sets (Clean op address) past number (λ later u. (e, u)) (before h)

stale_got : (map : AddressMap) (sets : ℕ) (guard : Guard) (past : List Past) (number : ℕ) (its : Bool) → guards map guard number ≡ its → cond its (may sets past number) (stale map sets past number) ≡ true → (stale map sets past number ≡ true → IsTouchedBeforeGot map sets past number) → IsTouchedBeforeGot map sets (Got guard ∷ past) number
stale_got map sets guard past number true e h before =
    let t = may_to sets past number h in
    record { guard = guard; its_guard = e; later = []; earlier = past; parts = refl; uncleaned = tt; store = t.0; touched = t.1 }
stale_got map sets guard past number false e h before = more_stale map sets (Got guard) past number (λ later u. u) (before h)

pub stale_to : (map : AddressMap) (sets : ℕ) (past : List Past) (number : ℕ) → stale map sets past number ≡ true → IsTouchedBeforeGot map sets past number
stale_to map sets [] number h = absurd (cc)
stale_to map sets (Touch touched store ∷ past) number h = more_stale map sets (Touch touched store) past number (λ later u. u) (stale_to map sets past number h)
stale_to map sets (Clean op address ∷ past) number h = stale_clean map sets op address past number (covers sets op address number) refl h (stale_to map sets past number)
stale_to map sets (Got guard ∷ past) number h = stale_got map sets guard past number (guards map guard number) refl h (stale_to map sets past number)
stale_to map sets (Gave guard ∷ past) number h = more_stale map sets (Gave guard) past number (λ later u. u) (stale_to map sets past number h)

both : (x a b : Bool) → a ≡ true → b ≡ true → cond x a b ≡ true
both true a b p q = p
both false a b p q = q

stale_with : (map : AddressMap) (sets : ℕ) (guard : Guard) (later earlier : List Past) (number : ℕ) → NoneCleans sets number later → guards map guard number ≡ true → may sets earlier number ≡ true → stale map sets (later ++ Got guard ∷ earlier) number ≡ true
stale_with map sets guard [] earlier number u e h = rw e h
stale_with map sets guard (Touch touched other ∷ later) earlier number u e h = stale_with map sets guard later earlier number u e h
stale_with map sets guard (Clean op address ∷ later) earlier number u e h = rw u.0 (stale_with map sets guard later earlier number u.1 e h)
stale_with map sets guard (Got other ∷ later) earlier number u e h =
    both (guards map other number) _ _ (may_kept sets later (Got guard ∷ earlier) number u h) (stale_with map sets guard later earlier number u e h)
stale_with map sets guard (Gave other ∷ later) earlier number u e h = stale_with map sets guard later earlier number u e h

pub stale_from : (map : AddressMap) (sets : ℕ) (past : List Past) (number : ℕ) → IsTouchedBeforeGot map sets past number → stale map sets past number ≡ true
stale_from map sets past number t =
    rw t.parts (stale_with map sets t.guard t.later t.earlier number t.uncleaned t.its_guard (may_from sets t.earlier number (t.store, t.touched)))
