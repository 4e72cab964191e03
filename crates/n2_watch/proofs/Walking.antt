-- Walks over records find the lowest line of those meant.
use Rattle.std.proofs.Common.{◌≡◌, ◌≢◌, ◌⊎◌, inl, inr, ℕ, ◌+◌, ◌<◌, ◌≤◌, ◌*◌, zero, suc, List, [], ◌∷◌, length, get_or, Option, Some, None, refl, ap, sym, ◌∙◌, subst, arith, Bool, true, false, ◌&&◌, cond, nat_eq, nat_lt}
use Rattle.std.proofs.lemmas.Bool.{cases_eq}
use Rattle.std.proofs.lemmas.Bool.Decides.{nat_tests}
use Rattle.n2_board.specs.declared.guards.Guard.{Guard}
use Rattle.n2_board.specs.declared.guards.Guard.TheVariants.{Mutex, Passed}
use Rattle.n2_board.specs.AddressMap.{AddressMap, class_of}
use Rattle.n2_board.specs.Guards.{guard_of}
use Rattle.n2_watch.specs.declared.past.Past.{Past}
use Rattle.n2_watch.specs.declared.records.Record.{Record}
use Rattle.n2_watch.specs.declared.runs.Run.{Run}
use Rattle.n2_watch.specs.Past.{is_guard, guards, dirty, lowest}
use Rattle.n2_word.specs.Lines.{set_for}
use Rattle.n2_watch.specs.Table.{Table, slot_of, slot_for, record_at, run_at, is_dirty, counted, count}
use Rattle.n2_watch.specs.Stands.{IsUnrecorded, IsTable, Stand}
use Rattle.n2_watch.specs.Walks.{IsLowest, lower_of, is_walked, InPlaces, RunPlaces, InRuns}
use Rattle.n2_watch.proofs.Lowest.{lowest_dirty}

-- ---- two walks are one

lower_first : (P Q U : ℕ → Type 0) (rs : List Record) (a b : ℕ) (below : Bool) → nat_lt b a ≡ below → ((i : ℕ) → i < length rs → U i → P i ⊎ Q i) → ((i : ℕ) → P i → U i) → ((i : ℕ) → Q i → U i) → IsLowest P rs (Some a) → IsLowest Q rs (Some b) → IsLowest U rs (Some (cond below b a))
lower_first P Q U rs a b true e split p q h k =
    let l : b < a = grind (arith, nat_tests) in
    ((k.0.0, k.0.1, q k.0.0 k.0.2, k.0.3), λ i w u. elim (split i w u) [ inl x ↦ (let z = h.1 i w x in omega arith) | inr y ↦ k.1 i w y ])
lower_first P Q U rs a b false e split p q h k =
    let l : a ≤ b = grind (arith, nat_tests) in
    ((h.0.0, h.0.1, p h.0.0 h.0.2, h.0.3), λ i w u. elim (split i w u) [ inl x ↦ h.1 i w x | inr y ↦ (let z = k.1 i w y in omega arith) ])

pub lower_joins : (P Q U : ℕ → Type 0) (rs : List Record) (o r : Option ℕ) → ((i : ℕ) → i < length rs → U i → P i ⊎ Q i) → ((i : ℕ) → P i → U i) → ((i : ℕ) → Q i → U i) → IsLowest P rs o → IsLowest Q rs r → IsLowest U rs (lower_of o r)
lower_joins P Q U rs None None split p q h k = λ i w u. elim (split i w u) [ inl x ↦ h i w x | inr y ↦ k i w y ]
lower_joins P Q U rs None (Some b) split p q h k =
    ((k.0.0, k.0.1, q k.0.0 k.0.2, k.0.3), λ i w u. elim (split i w u) [ inl x ↦ absurd (h i w x) | inr y ↦ k.1 i w y ])
lower_joins P Q U rs (Some a) None split p q h k =
    ((h.0.0, h.0.1, p h.0.0 h.0.2, h.0.3), λ i w u. elim (split i w u) [ inl x ↦ h.1 i w x | inr y ↦ absurd (k i w y) ])
lower_joins P Q U rs (Some a) (Some b) split p q h k = lower_first P Q U rs a b (nat_lt b a) refl split p q h k

pub same_meant : (P U : ℕ → Type 0) (rs : List Record) (o : Option ℕ) → ((i : ℕ) → i < length rs → U i → P i) → ((i : ℕ) → P i → U i) → IsLowest P rs o → IsLowest U rs o
same_meant P U rs None back p h = λ i w u. h i w (back i w u)
same_meant P U rs (Some a) back p h = ((h.0.0, h.0.1, p h.0.0 h.0.2, h.0.3), λ i w u. h.1 i w (back i w u))

-- ---- one more record

abbrev One : List ℕ → Option ℕ → List Record → ℕ → ℕ → Type 0
One cleaned set rs at i = (i ≡ at) × (is_walked cleaned set (record_at rs i) ≡ true)

-- places from i on that are up to one more
more_split : (cleaned : List ℕ) (set : Option ℕ) (rs : List Record) (from at i : ℕ) → InPlaces cleaned set rs from (at + 1) i → InPlaces cleaned set rs from at i ⊎ One cleaned set rs at i
more_split cleaned set rs from at i u = elim (cases_eq i at) [ inl e ↦ inr (e, u.2) | inr d ↦ inl (u.0, (omega (arith, u.1, d)), u.2) ]

pub one_more : (cleaned : List ℕ) (set : Option ℕ) (rs : List Record) (from at : ℕ) (o : Option ℕ) → from ≤ at → at < length rs → is_walked cleaned set (record_at rs at) ≡ true → IsLowest (InPlaces cleaned set rs from at) rs o → IsLowest (InPlaces cleaned set rs from (at + 1)) rs (lower_of o (Some (record_at rs at).line))
one_more cleaned set rs from at o f w e h =
    lower_joins (InPlaces cleaned set rs from at) (One cleaned set rs at) (InPlaces cleaned set rs from (at + 1)) rs o (Some (record_at rs at).line)
    (λ i v u. more_split cleaned set rs from at i u)
    (λ i p. (p.0, (omega (arith, p.1)), p.2))
    (λ i q. ((omega (arith, q.0)), (omega (arith, q.0)), q.1))
    h
    ((at, w, (refl, e), refl), λ i v q. (let z = ap (λ j. (record_at rs j).line) q.0 in omega arith))

pub none_more : (cleaned : List ℕ) (set : Option ℕ) (rs : List Record) (from at : ℕ) (o : Option ℕ) → is_walked cleaned set (record_at rs at) ≡ false → IsLowest (InPlaces cleaned set rs from at) rs o → IsLowest (InPlaces cleaned set rs from (at + 1)) rs o
none_more cleaned set rs from at o e h =
    same_meant (InPlaces cleaned set rs from at) (InPlaces cleaned set rs from (at + 1)) rs o
    (λ i v u. elim (more_split cleaned set rs from at i u) [ inl p ↦ p | inr q ↦ absurd (not_both cleaned set rs at i q e) ])
    (λ i p. (p.0, (omega (arith, p.1)), p.2))
    h
  where
    not_both : (cleaned : List ℕ) (set : Option ℕ) (rs : List Record) (at i : ℕ) → One cleaned set rs at i → is_walked cleaned set (record_at rs at) ≡ false → ⊥
    not_both cleaned set rs at i q e = let z = ap (λ j. is_walked cleaned set (record_at rs j)) q.0 in let y = q.1 in cc

-- ---- one more run

run_split : (runs : List Run) (slot many : ℕ) (cleaned : List ℕ) (rs : List Record) (i : ℕ) → i < length rs → InRuns runs slot (many + 1) cleaned rs i → InRuns runs slot many cleaned rs i ⊎ ((run_at runs many).slot ≡ slot × (((run_at runs many).at ≤ i) × (i < (run_at runs many).at + (run_at runs many).count) × (is_dirty cleaned (record_at rs i) ≡ true)))
run_split runs slot many cleaned rs i w u = elim (cases_eq u.k many) [
  | inl e ↦ inr (subst (λ k. (run_at runs k).slot ≡ slot) e u.slots, (subst (λ k. (run_at runs k).at ≤ i) e u.from, subst (λ k. i < (run_at runs k).at + (run_at runs k).count) e u.to, u.dirty))
  | inr d ↦ inl (record { k = u.k; below = (omega (arith, u.below, d)); slots = u.slots; from = u.from; to = u.to; dirty = u.dirty })
]

in_run : (cleaned : List ℕ) (rs : List Record) (runs : List Run) (slot many i : ℕ) → (run_at runs many).slot ≡ slot → RunPlaces cleaned rs (run_at runs many) i → InRuns runs slot (many + 1) cleaned rs i
in_run cleaned rs runs slot many i e q = record { k = many; below = omega arith; slots = e; from = q.0; to = omega (arith, q.1); dirty = q.2 }

in_more : (runs : List Run) (slot many : ℕ) (cleaned : List ℕ) (rs : List Record) (i : ℕ) → InRuns runs slot many cleaned rs i → InRuns runs slot (many + 1) cleaned rs i
in_more runs slot many cleaned rs i p = record { k = p.k; below = omega (arith, p.below); slots = p.slots; from = p.from; to = p.to; dirty = p.dirty }

pub run_more : (runs : List Run) (slot many : ℕ) (cleaned : List ℕ) (rs : List Record) (o r : Option ℕ) → (run_at runs many).slot ≡ slot → IsLowest (InRuns runs slot many cleaned rs) rs o → IsLowest (RunPlaces cleaned rs (run_at runs many)) rs r → IsLowest (InRuns runs slot (many + 1) cleaned rs) rs (lower_of o r)
run_more runs slot many cleaned rs o r e h k =
    lower_joins (InRuns runs slot many cleaned rs) (RunPlaces cleaned rs (run_at runs many)) (InRuns runs slot (many + 1) cleaned rs) rs o r
    (λ i w u. elim (run_split runs slot many cleaned rs i w u) [ inl p ↦ inl p | inr q ↦ inr (q.1.0, (omega (arith, q.1.1)), q.1.2) ])
    (in_more runs slot many cleaned rs)
    (λ i q. in_run cleaned rs runs slot many i e q)
    h k

pub run_other : (runs : List Run) (slot many : ℕ) (cleaned : List ℕ) (rs : List Record) (o : Option ℕ) → ((run_at runs many).slot ≡ slot → ⊥) → IsLowest (InRuns runs slot many cleaned rs) rs o → IsLowest (InRuns runs slot (many + 1) cleaned rs) rs o
run_other runs slot many cleaned rs o d h =
    same_meant (InRuns runs slot many cleaned rs) (InRuns runs slot (many + 1) cleaned rs) rs o
    (λ i w u. elim (run_split runs slot many cleaned rs i w u) [ inl p ↦ p | inr q ↦ absurd (d q.0) ])
    (in_more runs slot many cleaned rs)
    h

-- ---- the walk's line is the lowest dirty line of the past that passes the test

-- a line has a record, or it has none
pub recorded : (rs : List Record) (number : ℕ) → ((i : ℕ) × (i < length rs) × ((record_at rs i).line ≡ number)) ⊎ IsUnrecorded rs number
recorded [] number = inr (λ i w e. absurd (omega arith))
recorded (r ∷ rs) number = elim (cases_eq r.line number) [
  | inl e ↦ inl (0, (omega arith), e)
  | inr d ↦ elim (recorded rs number) [
    | inl p ↦ inl (suc p.0, (omega (arith, p.1)), p.2)
    | inr n ↦ inr (not_there r rs number d n)
  ]
]
  where
    not_there : (r : Record) (rs : List Record) (number : ℕ) → r.line ≢ number → IsUnrecorded rs number → IsUnrecorded (r ∷ rs) number
    not_there r rs number d n zero w = d
    not_there r rs number d n (suc i) w = n i (omega arith)

abbrev IsLowestDirty : ℕ → (ℕ → Bool) → List Past → Option ℕ → Type 0
IsLowestDirty sets test past None = (number : ℕ) → dirty sets past number ≡ true → test number ≡ false
IsLowestDirty sets test past (Some found) = (dirty sets past found ≡ true) × (test found ≡ true) × ((number : ℕ) → dirty sets past number ≡ true → test number ≡ true → found ≤ number)

one_lowest : (sets : ℕ) (test : ℕ → Bool) (past : List Past) (o r : Option ℕ) → IsLowestDirty sets test past o → IsLowestDirty sets test past r → o ≡ r
one_lowest sets test past None None h k = refl
one_lowest sets test past None (Some b) h k = let z = h b k.0 in let y = k.1 in absurd (cc)
one_lowest sets test past (Some a) None h k = let z = k a h.0 in let y = h.1 in absurd (cc)
one_lowest sets test past (Some a) (Some b) h k =
    let l = h.2 b k.0 k.1 in let m = k.2 a h.0 h.1 in
    let e : a ≡ b = omega arith in
    ap (λ x. Some x) e

-- a dirty line has a record, which says so
dirty_record : (map : AddressMap) (t : Table) (past : List Past) → Stand map t past → (number : ℕ) → dirty (length t.cleaned) past number ≡ true → (i : ℕ) × (i < length t.records) × ((record_at t.records i).line ≡ number) × (is_dirty t.cleaned (record_at t.records i) ≡ true)
dirty_record map t past h number d = elim (recorded t.records number) [
  | inl p ↦ (p.0, p.1, p.2, sym (h.lines p.0 p.1).dirty_now ∙ ap (λ n. dirty (length t.cleaned) past n) p.2 ∙ d)
  | inr n ↦ (let z = (h.others number n).dirty in absurd (cc))
]

not_so : (b : Bool) → (b ≡ true → ⊥) → b ≡ false
not_so true h = absurd (h refl)
not_so false h = refl

pub record IsMeant (t : Table) (test : ℕ → Bool) (meant : ℕ → Type 0) : Type 0 where
  pub sound : (i : ℕ) → i < length t.records → meant i → (is_dirty t.cleaned (record_at t.records i) ≡ true) × (test (record_at t.records i).line ≡ true)
  pub whole : (i : ℕ) → i < length t.records → is_dirty t.cleaned (record_at t.records i) ≡ true → test (record_at t.records i).line ≡ true → meant i

walked : (map : AddressMap) (t : Table) (past : List Past) (test : ℕ → Bool) (meant : ℕ → Type 0) → Stand map t past → IsMeant t test meant → (o : Option ℕ) → IsLowest meant t.records o → IsLowestDirty (length t.cleaned) test past o
walked map t past test meant h m None l = λ number d.
    let p = dirty_record map t past h number d in
    not_so (test number) (λ y. l p.0 p.1 (m.whole p.0 p.1 p.3 (ap test p.2 ∙ y)))
walked map t past test meant h m (Some line) l =
    let i = l.0.0 in let w = l.0.1 in
    let s = m.sound i w l.0.2 in
    let e = l.0.3 in
    let d : dirty (length t.cleaned) past line ≡ true = ap (λ n. dirty (length t.cleaned) past n) (sym e) ∙ (h.lines i w).dirty_now ∙ s.0 in (
      d,
      ap test (sym e) ∙ s.1,
      λ number c y.
          let p = dirty_record map t past h number c in
          let b = l.1 p.0 p.1 (m.whole p.0 p.1 p.3 (ap test p.2 ∙ y)) in
          omega (arith, b, p.2),
    )

pub walk_is_lowest : (map : AddressMap) (t : Table) (past : List Past) (test : ℕ → Bool) (meant : ℕ → Type 0) → Stand map t past → IsMeant t test meant → (o : Option ℕ) → IsLowest meant t.records o → o ≡ lowest (λ n. dirty (length t.cleaned) past n && test n) past
walk_is_lowest map t past test meant h m o l =
    one_lowest (length t.cleaned) test past o (lowest (λ n. dirty (length t.cleaned) past n && test n) past) (walked map t past test meant h m o l)
    (lowest_dirty (length t.cleaned) test past)

-- ---- the lines of a guard are those of its slot

never : (a b : ℕ) → (a ≡ b → ⊥) → nat_eq a b ≡ false
never a b d = elim (cases_eq a b) [ inl e ↦ absurd (d e) | inr n ↦ grind (arith, nat_tests) ]

same_tests : (a b c d : ℕ) → (a ≡ b → c ≡ d) → (c ≡ d → a ≡ b) → nat_eq a b ≡ nat_eq c d
same_tests a b c d f g = elim (cases_eq a b) [ inl e ↦ (let z = f e in grind (arith, nat_tests)) | inr n ↦ never a b n ∙ sym (never c d (λ e. n (g e))) ]

pub slot_matches : (o : Option Guard) (guard : Guard) → is_guard o guard ≡ nat_eq (slot_for o) (slot_of guard)
slot_matches None (Mutex m) = grind (arith, nat_tests)
slot_matches None (Passed r) = grind (arith, nat_tests)
slot_matches (Some (Mutex m)) (Mutex n) = same_tests m n (2 * m + 1) (2 * n + 1) (λ e. omega arith) (λ e. omega arith)
slot_matches (Some (Mutex m)) (Passed n) = sym (never (2 * m + 1) (2 * n + 2) (λ e. omega arith))
slot_matches (Some (Passed m)) (Mutex n) = sym (never (2 * m + 2) (2 * n + 1) (λ e. omega arith))
slot_matches (Some (Passed m)) (Passed n) = same_tests m n (2 * m + 2) (2 * n + 2) (λ e. omega arith) (λ e. omega arith)

guarded : (map : AddressMap) (t : Table) → IsTable map t → (guard : Guard) (i : ℕ) → i < length t.records → guards map guard (record_at t.records i).line ≡ nat_eq (record_at t.records i).slot (slot_of guard)
guarded map t a guard i w =
    slot_matches (guard_of (class_of map (record_at t.records i).line)) guard ∙ ap (λ s. nat_eq s (slot_of guard)) (sym (a.slots i w))

slot_meant : (map : AddressMap) (t : Table) → IsTable map t → (guard : Guard) → IsMeant t (guards map guard) (InRuns t.runs (slot_of guard) (length t.runs) t.cleaned t.records)
slot_meant map t a guard = record {
  sound = λ i w u. (let p = a.runs.places u.k i u.below w u.from u.to in let e = p.slot ∙ u.slots in (u.dirty, guarded map t a guard i w ∙ grind (arith, nat_tests)));
  whole = λ i w d y. (let p = a.runs.has i w in let e = sym (guarded map t a guard i w) ∙ y in let z : (record_at t.records i).slot ≡ slot_of guard = grind (arith, nat_tests) in record { k = p.0; below = p.1; slots = sym p.2.slot ∙ z; from = omega (arith, p.2.from, p.2.place); to = omega (arith, p.2.below, p.2.place); dirty = d });
}

pub lowest_of_guard : (map : AddressMap) (t : Table) (past : List Past) (guard : Guard) → IsTable map t → Stand map t past → (o : Option ℕ) → IsLowest (InRuns t.runs (slot_of guard) (length t.runs) t.cleaned t.records) t.records o → o ≡ lowest (λ n. dirty (length t.cleaned) past n && guards map guard n) past
lowest_of_guard map t past guard a h o l = walk_is_lowest map t past (guards map guard) (InRuns t.runs (slot_of guard) (length t.runs) t.cleaned t.records) h (slot_meant map t a guard) o l

-- ---- the lines of a set

abbrev of_set : ℕ → ℕ → ℕ → Bool
of_set sets number other = nat_eq (set_for number sets) (set_for other sets)

both_parts : (a b : Bool) → (a && b) ≡ true → (a ≡ true) × (b ≡ true)
both_parts true b h = (refl, h)
both_parts false b h = absurd (cc)

set_meant : (t : Table) (number : ℕ) → IsMeant t (of_set (length t.cleaned) number) (InPlaces t.cleaned (Some (set_for number (length t.cleaned))) t.records 0 (length t.records))
set_meant t number = record {
  sound = λ i w u. (let b = both_parts (nat_eq (set_for (record_at t.records i).line (length t.cleaned)) (set_for number (length t.cleaned))) (is_dirty t.cleaned (record_at t.records i)) u.2 in let e = b.0 in (b.1, grind (arith, nat_tests)));
  whole = λ i w d y. ((omega arith), w, in_set (set_for (record_at t.records i).line (length t.cleaned)) (set_for number (length t.cleaned)) (is_dirty t.cleaned (record_at t.records i)) d y);
}
  where
    in_set : (a b : ℕ) (d : Bool) → d ≡ true → nat_eq b a ≡ true → (nat_eq a b && d) ≡ true
    in_set a b true d y = let e : a ≡ b = grind (arith, nat_tests) in grind (arith, nat_tests)
    in_set a b false d y = absurd (cc)

pub lowest_of_set : (map : AddressMap) (t : Table) (past : List Past) (number : ℕ) → Stand map t past → (o : Option ℕ) → IsLowest (InPlaces t.cleaned (Some (set_for number (length t.cleaned))) t.records 0 (length t.records)) t.records o → o ≡ lowest (λ n. dirty (length t.cleaned) past n && nat_eq (set_for number (length t.cleaned)) (set_for n (length t.cleaned))) past
lowest_of_set map t past number h o l =
    walk_is_lowest map t past (of_set (length t.cleaned) number) (InPlaces t.cleaned (Some (set_for number (length t.cleaned))) t.records 0 (length t.records)) h (set_meant t number) o l

zero_count : (f : Record → Bool) (rs : List Record) → count f rs ≡ 0 → (i : ℕ) → i < length rs → f (record_at rs i) ≡ false
zero_count f [] e i w = absurd (omega arith)
zero_count f (r ∷ rs) e i w = go f r rs (zero_count f rs) (f r) refl e i w
  where
    go : (f : Record → Bool) (r : Record) (rs : List Record) → (count f rs ≡ 0 → (i : ℕ) → i < length rs → f (record_at rs i) ≡ false) → (b : Bool) → f r ≡ b → cond b (count f rs + 1) (count f rs) ≡ 0 → (i : ℕ) → i < length (r ∷ rs) → f (record_at (r ∷ rs) i) ≡ false
    go f r rs rest true p e i w = absurd (omega arith)
    go f r rs rest false p e zero w = p
    go f r rs rest false p e (suc i) w = rest e i (omega arith)

pub none_of_set : (map : AddressMap) (t : Table) (past : List Past) (number : ℕ) → Stand map t past → 0 < length t.cleaned → get_or t.counts (set_for number (length t.cleaned)) 0 ≡ 0 → None ≡ lowest (λ n. dirty (length t.cleaned) past n && nat_eq (set_for number (length t.cleaned)) (set_for n (length t.cleaned))) past
none_of_set map t past number h some e =
    let set = set_for number (length t.cleaned) in
    let z : count (counted t.cleaned set) t.records ≡ 0 = sym (h.counts set (omega arith)) ∙ e in
    lowest_of_set map t past number h None (λ i w u. (let f = zero_count (counted t.cleaned set) t.records z i w in let y = u.2 in absurd (cc)))

-- ---- one line

pub lowest_of_line : (sets : ℕ) (past : List Past) (number : ℕ) (d : Bool) → dirty sets past number ≡ d → cond d (Some number) None ≡ lowest (λ n. dirty sets past n && nat_eq number n) past
lowest_of_line sets past number true e =
    one_lowest sets (nat_eq number) past (Some number) (lowest (λ n. dirty sets past n && nat_eq number n) past)
    (e, grind (arith, nat_tests), λ n d y. (let z : number ≡ n = grind (arith, nat_tests) in omega arith))
    (lowest_dirty sets (nat_eq number) past)
lowest_of_line sets past number false e =
    one_lowest sets (nat_eq number) past None (lowest (λ n. dirty sets past n && nat_eq number n) past)
    (λ n d. not_so (nat_eq number n) (λ y. (let z : number ≡ n = grind (arith, nat_tests) in let f = ap (λ m. dirty sets past m) z in absurd (cc))))
    (lowest_dirty sets (nat_eq number) past)
