-- Records that are put one after another are found by their runs.
use Rattle.std.proofs.Common.{◌≡◌, ◌≢◌, ◌⊎◌, inl, inr, ℕ, ◌+◌, ◌<◌, ◌≤◌, List, [], ◌∷◌, ◌++◌, length, get_or, slice_set, refl, ap, sym, ◌∙◌, subst, arith}
use Rattle.std.proofs.Math.Seq.{get_or-append_seam}
use Rattle.std.proofs.lemmas.Bool.{cases_eq, cases_lt}
use Rattle.std.proofs.lemmas.List.{get_or_append_left, length-append, get_or-set_same, get_or-set_other, length-set}
use Rattle.n2_board.specs.AddressMap.{AddressMap, class_of}
use Rattle.n2_board.specs.Guards.{guard_of}
use Rattle.n2_watch.specs.declared.records.Record.{Record}
use Rattle.n2_watch.specs.declared.runs.Run.{Run}
use Rattle.n2_watch.specs.Table.{nothing, no_run, slot_for, record_at, run_at}
use Rattle.n2_watch.specs.Stands.{IsInRun, IsRecorded, AreBuilt, new_record, put, begun, grown, IsPut}

below_more : (i n : ℕ) → i < n + 1 → (i < n) ⊎ (i ≡ n)
below_more i n l = elim (cases_lt i n) [ inl b ↦ inl b | inr a ↦ inr (omega arith) ]

-- a property of one more item
each_more : {X : Type 0} (d x : X) (xs : List X) (P : ℕ → X → Type 0) → ((i : ℕ) → i < length xs → P i (get_or xs i d)) → P (length xs) x → (i : ℕ) → i < length (xs ++ x ∷ []) → P i (get_or (xs ++ x ∷ []) i d)
each_more d x xs P old new i l = elim (below_more i (length xs) (omega (arith, length-append xs (x ∷ [])))) [
  | inl b ↦ subst (P i) (sym (get_or_append_left xs (x ∷ []) d i b)) (old i b)
  | inr e ↦ subst (λ j. P j (get_or (xs ++ x ∷ []) j d)) (sym e) (subst (P (length xs)) (sym (get_or-append_seam xs x [] d)) new)
]

-- a property of an item that is changed
each_set : {X : Type 0} (d x : X) (xs : List X) (k : ℕ) → k < length xs → (P : ℕ → X → Type 0) → ((i : ℕ) → i < length xs → i ≢ k → P i (get_or xs i d)) → P k x → (i : ℕ) → i < length (slice_set xs k x) → P i (get_or (slice_set xs k x) i d)
each_set d x xs k w P old new i l = elim (cases_eq i k) [
  | inl e ↦ subst (λ j. P j (get_or (slice_set xs k x) j d)) (sym e) (subst (P k) (sym (get_or-set_same xs k x d w)) new)
  | inr n ↦ subst (P i) (sym (get_or-set_other xs k i x d n)) (old i (omega (arith, length-set xs k x)) n)
]

abbrev InSome : List Run → ℕ → Record → Type 0
InSome runs i r = (k : ℕ) × (k < length runs) × IsInRun (run_at runs k) i r

abbrev Ends : ℕ → ℕ → ℕ → Run → Type 0
Ends bound n k run = (run.first + run.count ≤ bound) × (run.at + run.count ≤ n)

-- ---- the record begins a run

begun_has : (map : AddressMap) (runs : List Run) (rs : List Record) (bound line slot : ℕ) → AreBuilt map runs rs bound → (i : ℕ) → i < length (put rs line slot) → InSome (runs ++ begun (length rs) line slot ∷ []) i (record_at (put rs line slot) i)
begun_has map runs rs bound line slot b =
    each_more nothing (new_record line slot) rs (λ i r. InSome (runs ++ begun (length rs) line slot ∷ []) i r)
    (λ i l. (let p = b.are_runs.has i l in (p.0, (omega (arith, p.1, length-append runs (begun (length rs) line slot ∷ []))), subst (λ u. IsInRun u i (record_at rs i)) (sym (get_or_append_left runs (begun (length rs) line slot ∷ []) no_run p.0 p.1)) p.2)))
    (length runs, (omega (arith, length-append runs (begun (length rs) line slot ∷ []))), subst (λ u. IsInRun u (length rs) (new_record line slot)) (sym (get_or-append_seam runs (begun (length rs) line slot) [] no_run)) (record { from = omega arith; below = omega arith; place = refl; slot = refl }))

abbrev PlacesOf : List Record → ℕ → Run → Type 0
PlacesOf rs k run = (i : ℕ) → i < length rs → run.at ≤ i → i < run.at + run.count → IsInRun run i (record_at rs i)

begun_places : (map : AddressMap) (runs : List Run) (rs : List Record) (bound line slot : ℕ) → AreBuilt map runs rs bound → (k : ℕ) → k < length (runs ++ begun (length rs) line slot ∷ []) → PlacesOf (put rs line slot) k (run_at (runs ++ begun (length rs) line slot ∷ []) k)
begun_places map runs rs bound line slot b =
    each_more no_run (begun (length rs) line slot) runs (λ k run. PlacesOf (put rs line slot) k run)
    (λ k l i m f t. (let e = b.ends k l in let w : i < length rs = omega (arith, e.1) in subst (λ q. IsInRun (run_at runs k) i q) (sym (get_or_append_left rs (new_record line slot ∷ []) nothing i w)) (b.are_runs.places k i l w f t)))
    (λ i m f t. (let e : i ≡ length rs = omega arith in subst (λ j. IsInRun (begun (length rs) line slot) j (record_at (put rs line slot) j)) (sym e) (subst (λ q. IsInRun (begun (length rs) line slot) (length rs) q) (sym (get_or-append_seam rs (new_record line slot) [] nothing)) (record { from = omega arith; below = omega arith; place = refl; slot = refl }))))

slots_more : (map : AddressMap) (rs : List Record) (line slot : ℕ) → ((i : ℕ) → i < length rs → (record_at rs i).slot ≡ slot_for (guard_of (class_of map (record_at rs i).line))) → slot ≡ slot_for (guard_of (class_of map line)) → (i : ℕ) → i < length (put rs line slot) → (record_at (put rs line slot) i).slot ≡ slot_for (guard_of (class_of map (record_at (put rs line slot) i).line))
slots_more map rs line slot h e = each_more nothing (new_record line slot) rs (λ i r. r.slot ≡ slot_for (guard_of (class_of map r.line))) h e

untouched_more : (rs : List Record) (line slot : ℕ) → ((i : ℕ) → i < length rs → ((record_at rs i).first ≡ 0) × ((record_at rs i).stored ≡ 0)) → (i : ℕ) → i < length (put rs line slot) → ((record_at (put rs line slot) i).first ≡ 0) × ((record_at (put rs line slot) i).stored ≡ 0)
untouched_more rs line slot h = each_more nothing (new_record line slot) rs (λ i r. (r.first ≡ 0) × (r.stored ≡ 0)) h (refl, refl)

pub built_begun : (map : AddressMap) (runs : List Run) (rs : List Record) (bound line slot : ℕ) → bound ≤ line → slot ≡ slot_for (guard_of (class_of map line)) → AreBuilt map runs rs bound → AreBuilt map (runs ++ begun (length rs) line slot ∷ []) (put rs line slot) (line + 1)
built_begun map runs rs bound line slot above its b =
    let x = begun (length rs) line slot in
    let n = length-append rs (new_record line slot ∷ []) in
    let m = length-append runs (x ∷ []) in
    record {
      are_runs = record {
        has = begun_has map runs rs bound line slot b;
        places = λ k i l. begun_places map runs rs bound line slot b k l i;
        rising = λ j k l w. each_more no_run x runs (λ k run. j < k → (run_at (runs ++ x ∷ []) j).first + (run_at (runs ++ x ∷ []) j).count ≤ run.first)
            (λ k v h. (let u : j < length runs = omega arith in subst (λ q. q.first + q.count ≤ (run_at runs k).first) (sym (get_or_append_left runs (x ∷ []) no_run j u)) (b.are_runs.rising j k h v)))
            (λ h. subst (λ q. q.first + q.count ≤ line) (sym (get_or_append_left runs (x ∷ []) no_run j h)) (omega (arith, (b.ends j h).0)))
            k w l;
      };
      ends = each_more no_run x runs (λ k run. Ends (line + 1) (length (put rs line slot)) k run) (λ k l. (let e = b.ends k l in ((omega (arith, e.0)), (omega (arith, e.1, n))))) ((omega arith), (omega (arith, n)));
      slots = slots_more map rs line slot b.slots its;
      untouched = untouched_more rs line slot b.untouched;
      few = omega (arith, n, b.few);
    }

-- ---- the record goes into the last run

grown_in : (run : Run) (i : ℕ) (r : Record) → IsInRun run i r → IsInRun (grown run) i r
grown_in run i r h = record { from = h.from; below = omega (arith, h.below); place = h.place; slot = h.slot }

record IsLast (runs : List Run) (rs : List Record) (k line slot : ℕ) : Type 0 where
  is : k + 1 ≡ length runs
  next : (run_at runs k).first + (run_at runs k).count ≡ line
  place : (run_at runs k).at + (run_at runs k).count ≡ length rs
  slot_is : (run_at runs k).slot ≡ slot

new_in : (runs : List Run) (rs : List Record) (k line slot : ℕ) → IsLast runs rs k line slot → IsInRun (grown (run_at runs k)) (length rs) (new_record line slot)
new_in runs rs k line slot h = record { from = omega (arith, h.next); below = omega (arith, h.next); place = omega (arith, h.next, h.place); slot = sym h.slot_is }

grown_has : (map : AddressMap) (runs : List Run) (rs : List Record) (bound k line slot : ℕ) → IsLast runs rs k line slot → AreBuilt map runs rs bound → (i : ℕ) → i < length (put rs line slot) → InSome (slice_set runs k (grown (run_at runs k))) i (record_at (put rs line slot) i)
grown_has map runs rs bound k line slot h b =
    let x = grown (run_at runs k) in
    let w : k < length runs = omega (arith, h.is) in
    each_more nothing (new_record line slot) rs (λ i r. InSome (slice_set runs k x) i r)
    (λ i l. (let p = b.are_runs.has i l in (
      p.0,
      (omega (arith, p.1, length-set runs k x)),
      elim (cases_eq p.0 k) [
        | inl e ↦ subst (λ j. IsInRun (run_at (slice_set runs k x) j) i (record_at rs i)) (sym e) (subst (λ u. IsInRun u i (record_at rs i)) (sym (get_or-set_same runs k x no_run w)) (grown_in (run_at runs k) i (record_at rs i) (subst (λ j. IsInRun (run_at runs j) i (record_at rs i)) e p.2)))
        | inr n ↦ subst (λ u. IsInRun u i (record_at rs i)) (sym (get_or-set_other runs k p.0 x no_run n)) p.2
      ],
    )))
    (k, (omega (arith, w, length-set runs k x)), subst (λ u. IsInRun u (length rs) (new_record line slot)) (sym (get_or-set_same runs k x no_run w)) (new_in runs rs k line slot h))

grown_places : (map : AddressMap) (runs : List Run) (rs : List Record) (bound k line slot : ℕ) → IsLast runs rs k line slot → AreBuilt map runs rs bound → (j : ℕ) → j < length (slice_set runs k (grown (run_at runs k))) → PlacesOf (put rs line slot) j (run_at (slice_set runs k (grown (run_at runs k))) j)
grown_places map runs rs bound k line slot h b =
    let x = grown (run_at runs k) in
    let w : k < length runs = omega (arith, h.is) in
    each_set no_run x runs k w (λ j run. PlacesOf (put rs line slot) j run)
    (λ j l n i m f t. (let e = b.ends j l in let v : i < length rs = omega (arith, e.1) in subst (λ q. IsInRun (run_at runs j) i q) (sym (get_or_append_left rs (new_record line slot ∷ []) nothing i v)) (b.are_runs.places j i l v f t)))
    (λ i m f t. elim (cases_lt i (length rs)) [
      | inl v ↦ subst (λ q. IsInRun x i q) (sym (get_or_append_left rs (new_record line slot ∷ []) nothing i v)) (grown_in (run_at runs k) i (record_at rs i) (b.are_runs.places k i w v f (omega (arith, h.place))))
      | inr v ↦ (let e : i ≡ length rs = omega (arith, h.place) in subst (λ j. IsInRun x j (record_at (put rs line slot) j)) (sym e) (subst (λ q. IsInRun x (length rs) q) (sym (get_or-append_seam rs (new_record line slot) [] nothing)) (new_in runs rs k line slot h)))
    ])

pub built_grown : (map : AddressMap) (runs : List Run) (rs : List Record) (bound k line slot : ℕ) → bound ≤ line → slot ≡ slot_for (guard_of (class_of map line)) → k + 1 ≡ length runs → (run_at runs k).first + (run_at runs k).count ≡ line → (run_at runs k).at + (run_at runs k).count ≡ length rs → (run_at runs k).slot ≡ slot → AreBuilt map runs rs bound → AreBuilt map (slice_set runs k (grown (run_at runs k))) (put rs line slot) (line + 1)
built_grown map runs rs bound k line slot above its is next place same b =
    let x = grown (run_at runs k) in
    let w : k < length runs = omega arith in
    let h : IsLast runs rs k line slot = record { is = is; next = next; place = place; slot_is = same } in
    let n = length-append rs (new_record line slot ∷ []) in
    let m = length-set runs k x in
    record {
      are_runs = record {
        has = grown_has map runs rs bound k line slot h b;
        places = λ j i l. grown_places map runs rs bound k line slot h b j l i;
        rising = λ i j l v. (
            let u : i ≢ k = λ e. absurd (omega (arith, is, e)) in
            subst (λ q. q.first + q.count ≤ (run_at (slice_set runs k x) j).first) (sym (get_or-set_other runs k i x no_run u))
            (each_set no_run x runs k w (λ j run. i < j → (run_at runs i).first + (run_at runs i).count ≤ run.first) (λ j y z g. b.are_runs.rising i j g y) (λ g. b.are_runs.rising i k g w) j v l));
      };
      ends = each_set no_run x runs k w (λ j run. Ends (line + 1) (length (put rs line slot)) j run) (λ j l z. (let e = b.ends j l in ((omega (arith, e.0)), (omega (arith, e.1, n))))) ((omega (arith, next)), (omega (arith, n, place)));
      slots = slots_more map rs line slot b.slots its;
      untouched = untouched_more rs line slot b.untouched;
      few = omega (arith, n, b.few);
    }

pub recorded_more : (rs : List Record) (line slot : ℕ) (number : ℕ) → IsRecorded rs number → IsRecorded (put rs line slot) number
recorded_more rs line slot number h =
    record { i = h.i; within = omega (arith, h.within, length-append rs (new_record line slot ∷ [])); line = ap (λ (r : Record). r.line) (get_or_append_left rs (new_record line slot ∷ []) nothing h.i h.within) ∙ h.line }

pub recorded_now : (rs : List Record) (line slot : ℕ) → IsRecorded (put rs line slot) line
recorded_now rs line slot =
    record { i = length rs; within = omega (arith, length-append rs (new_record line slot ∷ [])); line = ap (λ (r : Record). r.line) (get_or-append_seam rs (new_record line slot) [] nothing) }

pub built_put : (map : AddressMap) (runs new : List Run) (rs : List Record) (bound line slot : ℕ) → bound ≤ line → slot ≡ slot_for (guard_of (class_of map line)) → IsPut runs new (length rs) line slot → AreBuilt map runs rs bound → AreBuilt map new (put rs line slot) (line + 1)
built_put map runs new rs bound line slot above its (inl e) b =
    subst (λ x. AreBuilt map x (put rs line slot) (line + 1)) (sym e) (built_begun map runs rs bound line slot above its b)
built_put map runs new rs bound line slot above its (inr g) b =
    subst (λ x. AreBuilt map x (put rs line slot) (line + 1)) (sym g.grows) (built_grown map runs rs bound g.k line slot above its g.last g.next g.place g.slots b)
