-- The lowest dirty line that passes a test.
use Rattle.std.proofs.Common.{◌⊎◌, inl, inr, ◌≡◌, ◌<◌, ℕ, ◌≤◌, ◌⊎◌, nat_lt, List, [], ◌∷◌, refl, ap, arith, Bool, true, false, ◌&&◌, cond, nat_eq, Option, Some, None}
use Rattle.std.specs.Prelude.{IfNone, IfSome, IsTrue}
use Rattle.std.proofs.lemmas.Bool.Decides.{nat_tests}
use Rattle.n2_watch.specs.declared.past.Past.{Past}
use Rattle.n2_watch.specs.declared.past.Past.TheVariants.{Touch, Clean, Got, Gave}
use Rattle.n2_watch.specs.Past.{covers, dirty, lower, lowest}

-- some event of a list is a Touch of the line
abbrev IsIn : ℕ → List Past → Type 0
IsIn number [] = ⊥
IsIn number (Touch touched store ∷ past) = (touched ≡ number) ⊎ IsIn number past
IsIn number (Clean op address ∷ past) = IsIn number past
IsIn number (Got guard ∷ past) = IsIn number past
IsIn number (Gave guard ∷ past) = IsIn number past

abbrev IsLowest : (ℕ → Bool) → List Past → Option ℕ → Type 0
IsLowest keeps past None = (number : ℕ) → IsIn number past → keeps number ≡ false
IsLowest keeps past (Some found) = (keeps found ≡ true) × ((number : ℕ) → IsIn number past → keeps number ≡ true → found ≤ number)

first_of_one : (keeps : ℕ → Bool) (touched : ℕ) (store : Bool) (past : List Past) → keeps touched ≡ true → IsLowest keeps past None → IsLowest keeps (Touch touched store ∷ past) (Some touched)
first_of_one keeps touched store past kept h = (kept, λ number i k. elim i [ inl e ↦ omega arith | inr j ↦ (let f = h number j in absurd (cc)) ])

first_of_two : (keeps : ℕ → Bool) (touched found : ℕ) (store : Bool) (past : List Past) (below : Bool) → nat_lt found touched ≡ below → keeps touched ≡ true → IsLowest keeps past (Some found) → IsLowest keeps (Touch touched store ∷ past) (Some (cond below found touched))
first_of_two keeps touched found store past true b kept h =
    let l : found < touched = grind (arith, nat_tests) in
    (h.0, λ number i k. elim i [ inl e ↦ omega arith | inr j ↦ h.1 number j k ])
first_of_two keeps touched found store past false b kept h =
    let l : touched ≤ found = grind (arith, nat_tests) in
    (kept, λ number i k. elim i [ inl e ↦ omega arith | inr j ↦ (let f = h.1 number j k in omega arith) ])

passed_over : (keeps : ℕ → Bool) (touched : ℕ) (store : Bool) (past : List Past) (o : Option ℕ) → keeps touched ≡ false → IsLowest keeps past o → IsLowest keeps (Touch touched store ∷ past) o
passed_over keeps touched store past None kept h = λ number i. elim i [ inl e ↦ (let f = ap keeps e in cc) | inr j ↦ h number j ]
passed_over keeps touched store past (Some found) kept h = (h.0, λ number i k. elim i [ inl e ↦ (let f = ap keeps e in absurd (cc)) | inr j ↦ h.1 number j k ])

touched_next : (keeps : ℕ → Bool) (touched : ℕ) (store : Bool) (past : List Past) (o : Option ℕ) (kept : Bool) → keeps touched ≡ kept → IsLowest keeps past o → IsLowest keeps (Touch touched store ∷ past) (cond kept (lower touched o) o)
touched_next keeps touched store past None true e h = first_of_one keeps touched store past e h
touched_next keeps touched store past (Some found) true e h = first_of_two keeps touched found store past (nat_lt found touched) refl e h
touched_next keeps touched store past o false e h = passed_over keeps touched store past o e h

same_lowest : (keeps : ℕ → Bool) (past others : List Past) (o : Option ℕ) → ((number : ℕ) → IsIn number others → IsIn number past) → IsLowest keeps past o → IsLowest keeps others o
same_lowest keeps past others None s h = λ number i. h number (s number i)
same_lowest keeps past others (Some found) s h = (h.0, λ number i. h.1 number (s number i))

pub is_lowest : (keeps : ℕ → Bool) (past : List Past) → IsLowest keeps past (lowest keeps past)
is_lowest keeps [] = λ number i. absurd i
is_lowest keeps (Touch touched store ∷ past) = touched_next keeps touched store past (lowest keeps past) (keeps touched) refl (is_lowest keeps past)
is_lowest keeps (Clean op address ∷ past) = same_lowest keeps past (Clean op address ∷ past) (lowest keeps past) (λ number i. i) (is_lowest keeps past)
is_lowest keeps (Got guard ∷ past) = same_lowest keeps past (Got guard ∷ past) (lowest keeps past) (λ number i. i) (is_lowest keeps past)
is_lowest keeps (Gave guard ∷ past) = same_lowest keeps past (Gave guard ∷ past) (lowest keeps past) (λ number i. i) (is_lowest keeps past)

dirty_touched : (sets touched : ℕ) (store : Bool) (past : List Past) (number : ℕ) (same : Bool) → (nat_eq touched number && store) ≡ same → cond same true (dirty sets past number) ≡ true → (dirty sets past number ≡ true → IsIn number past) → IsIn number (Touch touched store ∷ past)
dirty_touched sets touched store past number true e h before = inl (grind (arith, nat_tests))
dirty_touched sets touched store past number false e h before = inr (before h)

dirty_cleaned : (past : List Past) (number : ℕ) (covered d : Bool) → cond covered false d ≡ true → (d ≡ true → IsIn number past) → IsIn number past
dirty_cleaned past number true d h before = absurd (cc)
dirty_cleaned past number false d h before = before h

-- a dirty line was touched
pub dirty_in : (sets : ℕ) (past : List Past) (number : ℕ) → dirty sets past number ≡ true → IsIn number past
dirty_in sets [] number h = absurd (cc)
dirty_in sets (Touch touched store ∷ past) number h = dirty_touched sets touched store past number (nat_eq touched number && store) refl h (dirty_in sets past number)
dirty_in sets (Clean op address ∷ past) number h = dirty_cleaned past number (covers sets op address number) (dirty sets past number) h (dirty_in sets past number)
dirty_in sets (Got guard ∷ past) number h = dirty_in sets past number h
dirty_in sets (Gave guard ∷ past) number h = dirty_in sets past number h

both_parts : (a b : Bool) → (a && b) ≡ true → (a ≡ true) × (b ≡ true)
both_parts true b h = (refl, h)
both_parts false b h = absurd (cc)

second_false : (a b : Bool) → (a && b) ≡ false → a ≡ true → b ≡ false
second_false true b h e = h
second_false false b h e = absurd (cc)

abbrev IsLowestDirty : ℕ → (ℕ → Bool) → List Past → Option ℕ → Type 0
IsLowestDirty sets test past None = (number : ℕ) → IsTrue (dirty sets past number) → test number ≡ false
IsLowestDirty sets test past (Some found) = IsTrue (dirty sets past found) × IsTrue (test found) × ((number : ℕ) → IsTrue (dirty sets past number) → IsTrue (test number) → found ≤ number)

from_lowest : (sets : ℕ) (test : ℕ → Bool) (past : List Past) (o : Option ℕ) → IsLowest (λ l. dirty sets past l && test l) past o → IsLowestDirty sets test past o
from_lowest sets test past None h = λ number d. second_false (dirty sets past number) (test number) (h number (dirty_in sets past number d)) d
from_lowest sets test past (Some found) h =
    let b = both_parts (dirty sets past found) (test found) h.0 in
    (b.0, b.1, λ number d t. h.1 number (dirty_in sets past number d) (rw (d, t) refl))

pub lowest_dirty : (sets : ℕ) (test : ℕ → Bool) (past : List Past) → IsLowestDirty sets test past (lowest (λ l. dirty sets past l && test l) past)
lowest_dirty sets test past = from_lowest sets test past (lowest (λ l. dirty sets past l && test l) past) (is_lowest (λ l. dirty sets past l && test l) past)

pub when_none : (sets : ℕ) (test : ℕ → Bool) (past : List Past) (o : Option ℕ) → IsLowestDirty sets test past o → IfNone o ((number : ℕ) → IsTrue (dirty sets past number) → test number ≡ false)
when_none sets test past None h = h
when_none sets test past (Some found) h = tt

pub when_some : (sets : ℕ) (test : ℕ → Bool) (past : List Past) (o : Option ℕ) → IsLowestDirty sets test past o → IfSome o (λ found. IsTrue (dirty sets past found) × IsTrue (test found) × ((number : ℕ) → IsTrue (dirty sets past number) → IsTrue (test number) → found ≤ number))
when_some sets test past None h = tt
when_some sets test past (Some found) h = h
