-- The rows of entries and tails: what is written is read, and what is read is spelled so.
use Rattle.std.proofs.Common.{◌≡◌, ◌≢◌, ℕ, ◌+◌, ◌<◌, ◌≤◌, Bool, true, false, cond, eqb, ltb, List, [], ◌∷◌, Option, Some, None, refl, sym, ap, subst, ◌∙◌, inl, inr, ◌⊎◌, arith}
use Rattle.std.specs.Prelude.{codes, decimal, option_map}
use Rattle.std.specs.Str.{bytes_eq}
use Rattle.std.proofs.lemmas.Bool.{cases_Bool, cond-true, cond-false, ltb-true, lt-ltb, eqb-true, eqb-false, ne_eqb, eq-eqb}
use Rattle.std.proofs.lemmas.Option.{option_and_then_some, same_Some, cond_some}
use Rattle.std.proofs.lemmas.Slice.Eq.{bytes_eq-Decides}
use Rattle.std.proofs.lemmas.Fmt.{decimal_digit}
use Rattle.n2_text.specs.Fields.{numeral}
use Rattle.n2_text.proofs.Decimals.{numeral-decimal, decimal-numeral}
use Rattle.n2_bus.specs.declared.request.Request.{Request}
use Rattle.n2_bus.specs.declared.request.Request.TheVariants.{FillCode, FillData, WriteBack, Read, Write, Sample, Tick, Receive, Drain}
use Rattle.n2_bus.specs.declared.request.Reply.{Reply}
use Rattle.n2_journal.specs.declared.entry.Entry.{Entry}
use Rattle.n2_journal.specs.Journals.{shown, IsReplyWithin, IsRequestWithin, IsActorWithin, IsEntryWithin}
use Rattle.n2_journal.specs.Texts.{body_fields, actor_text, entry_fields}
use Rattle.n2_journal.specs.Cursors.{◌>>=◌, next_field, next_number}
use Rattle.n2_journal.specs.Reading.{core_mark, core_of, core_body, device_body, core_entry, device_entry, entry_in, placed, tail_of}
use Rattle.n2_journal.proofs.Fields.{number_takes, at_most_again, whole_takes}
use Rattle.n2_journal.proofs.Bodies.{IsOfCore, IsOfDevices, core_body_takes, device_body_takes, core_body_in, device_body_in, core_body_again, device_body_again}

abbrev some_entry : Entry → Option Entry
some_entry e = Some e

-- ---- what is written is read

abbrev made : ℕ → ℕ → Request → Reply → Entry
made local actor q r = record { local = local; actor = actor; request = q; reply = r }

core_steps : (local core : ℕ) (fields : List (List ℕ)) (q : Request) (r : Reply) → core_body_in fields ≡ Some (q, r) → (next_field fields >>= λ kind. core_body kind.0 kind.1 >>= λ body. some_entry (made local core body.0 body.1)) ≡ some_entry (made local core q r)
core_steps local core [] q r e = absurd cc
core_steps local core (kind ∷ fields) q r e = ap (λ o. o >>= λ body. some_entry (made local core body.0 body.1)) e

device_steps : (local : ℕ) (fields : List (List ℕ)) (q : Request) (r : Reply) → device_body_in fields ≡ Some (q, r) → (next_field fields >>= λ kind. device_body kind.0 kind.1 >>= λ body. some_entry (made local 8 body.0 body.1)) ≡ some_entry (made local 8 q r)
device_steps local [] q r e = absurd cc
device_steps local (kind ∷ fields) q r e = ap (λ o. o >>= λ body. some_entry (made local 8 body.0 body.1)) e

core_entry_again : (core local : ℕ) (q : Request) (r : Reply) → local ≤ 1000000000 → core_body_in (body_fields q r) ≡ Some (q, r) → core_entry core (decimal local ∷ body_fields q r) ≡ some_entry (made local core q r)
unfolding core_entry
core_entry_again core local q r le body = rw (at_most_again 1000000000 local le (omega arith)) (core_steps local core (body_fields q r) q r body)

device_entry_again : (q : Request) (r : Reply) → device_body_in (body_fields q r) ≡ Some (q, r) → device_entry (decimal 0 ∷ body_fields q r) ≡ some_entry (made 0 8 q r)
unfolding device_entry
device_entry_again q r body = rw (at_most_again 0 0 (omega arith) (omega arith)) (device_steps 0 (body_fields q r) q r body)

core_of-decimal : (core : ℕ) → core < 8 → core_of (decimal core) ≡ Some core
unfolding core_of
core_of-decimal core lt = ap (option_map core_mark) (numeral-decimal core (omega arith)) ∙ ap (λ (k : ℕ). Some k) (cond-true (ltb core 8) core 9 (lt-ltb core 8 lt))

other_digit : (core word : ℕ) → core < 8 → 58 ≤ word → eqb (48 + core) word ≡ false
other_digit core word lt le = ne_eqb (48 + core) word (λ e. omega arith)

no_device : (core : ℕ) → core < 8 → bytes_eq (decimal core) (codes "d") ≡ false
no_device core lt = ap (λ x. bytes_eq x (codes "d")) (decimal_digit core (omega arith)) ∙ rw (other_digit core 100 lt (omega arith)) refl

no_end : (core : ℕ) → core < 8 → bytes_eq (decimal core) (codes "end") ≡ false
no_end core lt = ap (λ x. bytes_eq x (codes "end")) (decimal_digit core (omega arith)) ∙ rw (other_digit core 101 lt (omega arith)) refl

no_tail : (core : ℕ) → core < 8 → bytes_eq (decimal core) (codes "tail") ≡ false
no_tail core lt = ap (λ x. bytes_eq x (codes "tail")) (decimal_digit core (omega arith)) ∙ rw (other_digit core 116 lt (omega arith)) refl

-- an actor's field is no other first field
pub other_first : (cores actor : ℕ) → cores ≤ 8 → actor ≤ cores → (bytes_eq (actor_text cores actor) (codes "end") ≡ false) × (bytes_eq (actor_text cores actor) (codes "tail") ≡ false)
other_first cores actor few le =
    elim (cases_Bool (eqb actor cores)) [
      | inl same ↦ (rw same refl, rw same refl)
      | inr other ↦
          let ne : actor ≢ cores = eqb-false actor cores other in
          (rw other (no_end actor (omega arith)), rw other (no_tail actor (omega arith)))
    ]

core_in_again : (core local : ℕ) (q : Request) (r : Reply) → core < 8 → local ≤ 1000000000 → core_body_in (body_fields q r) ≡ Some (q, r) → entry_in (decimal core) (decimal local ∷ body_fields q r) ≡ some_entry (made local core q r)
unfolding entry_in
core_in_again core local q r lt le body = rw (no_device core lt, core_of-decimal core lt) (core_entry_again core local q r le body)

device_in_again : (q : Request) (r : Reply) → device_body_in (body_fields q r) ≡ Some (q, r) → entry_in (codes "d") (decimal 0 ∷ body_fields q r) ≡ some_entry (made 0 8 q r)
unfolding entry_in
device_in_again q r body = device_entry_again q r body

-- an entry is of the device actor or of a core
actor_cases : (cores actor local : ℕ) (q : Request) → IsActorWithin cores actor local q → (IsOfDevices q × (actor ≡ cores) × (local ≡ 0)) ⊎ (IsOfCore q × (actor < cores) × (local ≤ 1000000000))
actor_cases cores actor local (Tick n) h = inl (tt, h.0, h.1)
actor_cases cores actor local (Receive uart) h = inl (tt, h.0, h.1)
actor_cases cores actor local (Drain uart) h = inl (tt, h.0, h.1)
actor_cases cores actor local (FillCode line) h = inr (tt, h.0, h.1)
actor_cases cores actor local (FillData line) h = inr (tt, h.0, h.1)
actor_cases cores actor local (WriteBack line words) h = inr (tt, h.0, h.1)
actor_cases cores actor local (Read address width) h = inr (tt, h.0, h.1)
actor_cases cores actor local (Write address width value) h = inr (tt, h.0, h.1)
actor_cases cores actor local Sample h = inr (tt, h.0, h.1)

actor_of_devices : (cores : ℕ) (q : Request) → IsOfDevices q → IsActorWithin cores cores 0 q
actor_of_devices cores (Tick n) h = (refl, refl)
actor_of_devices cores (Receive uart) h = (refl, refl)
actor_of_devices cores (Drain uart) h = (refl, refl)
actor_of_devices cores (FillCode line) h = absurd h
actor_of_devices cores (FillData line) h = absurd h
actor_of_devices cores (WriteBack line words) h = absurd h
actor_of_devices cores (Read address width) h = absurd h
actor_of_devices cores (Write address width value) h = absurd h
actor_of_devices cores Sample h = absurd h

actor_of_core : (cores actor local : ℕ) (q : Request) → IsOfCore q → actor < cores → local ≤ 1000000000 → IsActorWithin cores actor local q
actor_of_core cores actor local (Tick n) h lt le = absurd h
actor_of_core cores actor local (Receive uart) h lt le = absurd h
actor_of_core cores actor local (Drain uart) h lt le = absurd h
actor_of_core cores actor local (FillCode line) h lt le = (lt, le)
actor_of_core cores actor local (FillData line) h lt le = (lt, le)
actor_of_core cores actor local (WriteBack line words) h lt le = (lt, le)
actor_of_core cores actor local (Read address width) h lt le = (lt, le)
actor_of_core cores actor local (Write address width value) h lt le = (lt, le)
actor_of_core cores actor local Sample h lt le = (lt, le)

-- the entry before the number of cores is known
abbrev pub marked : ℕ → Entry → Entry
marked cores e = cond (eqb e.actor cores) (made e.local 8 e.request e.reply) e

pub actor_le : (cores : ℕ) (e : Entry) → IsEntryWithin cores e → e.actor ≤ cores
actor_le cores e within =
    elim (actor_cases cores e.actor e.local e.request within.actor) [ inl d ↦ omega (arith, d.1) | inr k ↦ omega (arith, k.1) ]

pub local_le : (cores : ℕ) (e : Entry) → IsEntryWithin cores e → e.local ≤ 1000000000
local_le cores e within =
    elim (actor_cases cores e.actor e.local e.request within.actor) [ inl d ↦ omega (arith, d.2) | inr k ↦ k.2 ]

pub entry_again : (cores : ℕ) (e : Entry) → cores ≤ 8 → IsEntryWithin cores e → entry_in (actor_text cores e.actor) (decimal e.local ∷ body_fields e.request e.reply) ≡ some_entry (marked cores e)
entry_again cores e few within =
    elim (actor_cases cores e.actor e.local e.request within.actor) [
      | inl d ↦
          let same : eqb e.actor cores ≡ true = eq-eqb e.actor cores d.1 in
          rw (same, d.2) (device_in_again e.request e.reply (device_body_again e.request e.reply d.0 within.request within.reply within.shown))
      | inr k ↦
          let other : eqb e.actor cores ≡ false = ne_eqb e.actor cores (λ z. omega (arith, k.1)) in
          rw other (core_in_again e.actor e.local e.request e.reply (omega (arith, k.1)) k.2 (core_body_again e.request e.reply k.0 within.request within.reply within.shown))
    ]

placed_on : (cores : ℕ) (e : Entry) (b : Bool) → eqb e.actor cores ≡ b → cores ≤ 8 → e.actor ≤ cores → placed cores (cond b (made e.local 8 e.request e.reply) e) ≡ some_entry e
placed_on cores e true h few le = let same : cores ≡ e.actor = sym (eqb-true e.actor cores h) in ap (λ k. some_entry (made e.local k e.request e.reply)) same
placed_on cores e false h few le =
    let ne : e.actor ≢ cores = eqb-false e.actor cores h in
    let other : eqb e.actor 8 ≡ false = ne_eqb e.actor 8 (λ z. omega arith) in
    let below : ltb e.actor cores ≡ true = lt-ltb e.actor cores (omega arith) in
    rw (other, below) refl

pub placed_again : (cores : ℕ) (e : Entry) → cores ≤ 8 → IsEntryWithin cores e → placed cores (marked cores e) ≡ some_entry e
placed_again cores e few within = placed_on cores e (eqb e.actor cores) refl few (actor_le cores e within)

-- ---- what is read is spelled so

record DeviceRow (first : List ℕ) (fields : List (List ℕ)) (e : Entry) : Type 0 where
  actor : e.actor ≡ 8
  local : e.local ≡ 0
  devices : IsOfDevices e.request
  request : IsRequestWithin e.request
  reply : IsReplyWithin e.reply
  shows : e.reply ≡ shown e.request e.reply
  first_is : first ≡ codes "d"
  fields_are : fields ≡ decimal 0 ∷ body_fields e.request e.reply

record CoreRow (first : List ℕ) (fields : List (List ℕ)) (e : Entry) : Type 0 where
  actor : e.actor ≢ 8
  local : e.local ≤ 1000000000
  core : IsOfCore e.request
  request : IsRequestWithin e.request
  reply : IsReplyWithin e.reply
  shows : e.reply ≡ shown e.request e.reply
  first_is : e.actor < 8 → first ≡ decimal e.actor
  fields_are : fields ≡ decimal e.local ∷ body_fields e.request e.reply

field_takes : (fields : List (List ℕ)) (x : List ℕ × List (List ℕ)) → next_field fields ≡ Some x → fields ≡ x.0 ∷ x.1
field_takes [] x e = absurd cc
field_takes (field ∷ fields) x e = let p : ◌≡◌ {A = List ℕ × List (List ℕ)} (field, fields) x = same_Some _ x e in ap (λ (y : List ℕ × List (List ℕ)). y.0 ∷ y.1) p

device_takes : (first : List ℕ) (fields : List (List ℕ)) (e : Entry) → first ≡ codes "d" → device_entry fields ≡ Some e → DeviceRow first fields e
unfolding device_entry
device_takes first fields e is h =
    option_and_then_some _ (next_number 0 fields) e h (λ local el h1. option_and_then_some _ (next_field local.1) e h1 (λ kind ek h2. option_and_then_some _ (device_body kind.0 kind.1) e h2 (λ body eb h3.
    let n = number_takes 0 fields local (omega arith) el in
    let t = device_body_takes kind.0 kind.1 body eb in
    let none : local.0 ≡ 0 = omega (arith, n.0) in
    let text : fields ≡ decimal 0 ∷ body_fields body.0 body.1 = n.1 ∙ ap (λ k. decimal k ∷ local.1) none ∙ ap (λ (r : List (List ℕ)). decimal 0 ∷ r) (field_takes local.1 kind ek ∙ t.body.spelled) in
    subst (DeviceRow first fields) (same_Some (made local.0 8 body.0 body.1) e h3)
    (record { actor = refl; local = none; devices = t.devices; request = t.body.request; reply = t.body.reply; shows = t.body.shown; first_is = is; fields_are = text }))))

mark_takes : (n m : ℕ) → core_mark n ≡ m → (m ≢ 8) × (m < 8 → n ≡ m)
mark_takes n m e =
    elim (cases_Bool (ltb n 8)) [
      | inl below ↦
          let lt : n < 8 = ltb-true n 8 below in
          let same : n ≡ m = sym (cond-true (ltb n 8) n 9 below) ∙ e in
          (λ z. absurd (omega arith), λ _. same)
      | inr above ↦
          let same : 9 ≡ m = sym (cond-false (ltb n 8) n 9 above) ∙ e in
          (λ z. absurd (omega arith), λ lt. absurd (omega arith))
    ]

core_of_takes : (first : List ℕ) (o : Option ℕ) (m : ℕ) → numeral first ≡ o → option_map core_mark o ≡ Some m → (m ≢ 8) × (m < 8 → first ≡ decimal m)
core_of_takes first None m read e = absurd cc
core_of_takes first (Some n) m read e =
    let k = mark_takes n m (same_Some (core_mark n) m e) in
    (k.0, λ lt. let same : n ≡ m = k.1 lt in decimal-numeral first n (omega arith) read ∙ ap decimal same)

core_takes : (first : List ℕ) (core : ℕ) (fields : List (List ℕ)) (e : Entry) → core_of first ≡ Some core → core_entry core fields ≡ Some e → CoreRow first fields e
unfolding core_of core_entry
core_takes first core fields e is h =
    option_and_then_some _ (next_number 1000000000 fields) e h (λ local el h1. option_and_then_some _ (next_field local.1) e h1 (λ kind ek h2. option_and_then_some _ (core_body kind.0 kind.1) e h2 (λ body eb h3.
    let m = core_of_takes first (numeral first) core refl is in
    let n = number_takes 1000000000 fields local (omega arith) el in
    let t = core_body_takes kind.0 kind.1 body eb in
    let text : fields ≡ decimal local.0 ∷ body_fields body.0 body.1 = n.1 ∙ ap (λ (r : List (List ℕ)). decimal local.0 ∷ r) (field_takes local.1 kind ek ∙ t.body.spelled) in
    subst (CoreRow first fields) (same_Some (made local.0 core body.0 body.1) e h3)
    (record { actor = m.0; local = n.0; core = t.core; request = t.body.request; reply = t.body.reply; shows = t.body.shown; first_is = m.1; fields_are = text }))))

entry_takes : (first : List ℕ) (fields : List (List ℕ)) (e : Entry) → entry_in first fields ≡ Some e → DeviceRow first fields e ⊎ CoreRow first fields e
unfolding entry_in
entry_takes first fields e h =
    elim (cases_Bool (bytes_eq first (codes "d"))) [
      | inl same ↦ inl (device_takes first fields e ((bytes_eq-Decides first (codes "d")).0 same) (sym (cond-true (bytes_eq first (codes "d")) (device_entry fields) (core_of first >>= λ core. core_entry core fields) same) ∙ h))
      | inr other ↦
          option_and_then_some (λ core. core_entry core fields) (core_of first) e (sym (cond-false (bytes_eq first (codes "d")) (device_entry fields) (core_of first >>= λ core. core_entry core fields) other) ∙ h) (λ core ec h1. inr (core_takes first core fields e ec h1))
    ]

-- an entry with the number of its actor, as it was read
pub record Spelled (cores : ℕ) (fields : List (List ℕ)) (f : Entry) : Type 0 where
  pub within : IsEntryWithin cores f
  pub fields_are : fields ≡ entry_fields cores f

device_spelled : (cores : ℕ) (first : List ℕ) (fields : List (List ℕ)) (e : Entry) → DeviceRow first fields e → Spelled cores (first ∷ fields) (made e.local cores e.request e.reply)
device_spelled cores first fields e d =
    let same : eqb cores cores ≡ true = eq-eqb cores cores refl in
    let actor : actor_text cores cores ≡ codes "d" = rw same refl in
    let none : 0 ≡ e.local = sym d.local in
    record {
      within = record { actor = subst (λ k. IsActorWithin cores cores k e.request) none (actor_of_devices cores e.request d.devices); request = d.request; reply = d.reply; shown = d.shows };
      fields_are = ap (λ (x : List ℕ). x ∷ fields) (d.first_is ∙ sym actor) ∙ ap (λ (r : List (List ℕ)). actor_text cores cores ∷ r) (d.fields_are ∙ ap (λ k. decimal k ∷ body_fields e.request e.reply) none);
    }

core_spelled : (cores : ℕ) (first : List ℕ) (fields : List (List ℕ)) (e : Entry) → cores ≤ 8 → e.actor < cores → CoreRow first fields e → Spelled cores (first ∷ fields) e
core_spelled cores first fields e few lt k =
    let other : eqb e.actor cores ≡ false = ne_eqb e.actor cores (λ z. omega arith) in
    let actor : actor_text cores e.actor ≡ decimal e.actor = rw other refl in
    record {
      within = record { actor = actor_of_core cores e.actor e.local e.request k.core lt k.local; request = k.request; reply = k.reply; shown = k.shows };
      fields_are = ap (λ (x : List ℕ). x ∷ fields) (k.first_is (omega arith) ∙ sym actor) ∙ ap (λ (r : List (List ℕ)). actor_text cores e.actor ∷ r) k.fields_are;
    }

pub entry_spelled : (cores : ℕ) (first : List ℕ) (fields : List (List ℕ)) (e f : Entry) → cores ≤ 8 → entry_in first fields ≡ Some e → placed cores e ≡ Some f → Spelled cores (first ∷ fields) f
entry_spelled cores first fields e f few read put =
    let device : Option Entry = some_entry (made e.local cores e.request e.reply) in
    let core : Option Entry = cond (ltb e.actor cores) (Some e) None in
    elim (entry_takes first fields e read) [
      | inl d ↦
          let same : eqb e.actor 8 ≡ true = eq-eqb e.actor 8 d.actor in
          subst (Spelled cores (first ∷ fields)) (same_Some (made e.local cores e.request e.reply) f (sym (cond-true (eqb e.actor 8) device core same) ∙ put)) (device_spelled cores first fields e d)
      | inr k ↦
          let other : eqb e.actor 8 ≡ false = ne_eqb e.actor 8 k.actor in
          let g = cond_some (ltb e.actor cores) e f (sym (cond-false (eqb e.actor 8) device core other) ∙ put) in
          subst (Spelled cores (first ∷ fields)) g.1 (core_spelled cores first fields e few (ltb-true e.actor cores g.0) k)
    ]

-- ---- tails

pub tail_again : (core tail : ℕ) → core < 8 → tail ≤ 1000000000 → tail_of (decimal core ∷ decimal tail ∷ []) ≡ Some (core, tail)
unfolding tail_of
tail_again core tail lt le = rw (at_most_again 7 core (omega arith) (omega arith), at_most_again 1000000000 tail le (omega arith)) refl

pub tail_takes : (fields : List (List ℕ)) (x : ℕ × ℕ) → tail_of fields ≡ Some x → (x.0 < 8) × (x.1 ≤ 1000000000) × (fields ≡ decimal x.0 ∷ decimal x.1 ∷ [])
unfolding tail_of
tail_takes fields x e =
    option_and_then_some _ (next_number 7 fields) x e (λ k ek e1. option_and_then_some _ (next_number 1000000000 k.1) x e1 (λ n en e2.
    let one = number_takes 7 fields k (omega arith) ek in
    let two = number_takes 1000000000 k.1 n (omega arith) en in
    let last = whole_takes {A = ℕ × ℕ} (k.0, n.0) n.1 x e2 in
    subst (λ (y : ℕ × ℕ). (y.0 < 8) × (y.1 ≤ 1000000000) × (fields ≡ decimal y.0 ∷ decimal y.1 ∷ [])) last.1
    (omega (arith, one.0), two.0, one.1 ∙ ap (λ (r : List (List ℕ)). decimal k.0 ∷ r) (two.1 ∙ ap (λ (r : List (List ℕ)). decimal n.0 ∷ r) last.0))))
