-- The row that a replay names is the first that differs: the rows before it are those of a run, and no run has this one too.
use Rattle.std.proofs.Common.{◌≡◌, ℕ, suc, ◌<◌, ◌≤◌, ◌+◌, ◌++◌, List, [], ◌∷◌, length, replicate, Result, Ok, Err, refl, ap, sym, ◌∙◌, arith, length-append}
use Rattle.std.proofs.lemmas.Grind.{flat_map-append}
use Rattle.n2_elf.specs.declared.image.Image.{Image}
use Rattle.n2_parts.specs.declared.board.Board.{Board}
use Rattle.n2_parts.specs.Valid.{IsValid}
use Rattle.n2_board.specs.AddressMap.{AddressMap, address_map}
use Rattle.n2_journal.specs.declared.entry.Entry.{Entry}
use Rattle.n2_journal.specs.Journals.{Content, tail_turns}
use Rattle.n2_runs.specs.Machine.{Machine, start, run, tails}
use Rattle.n2_runs.specs.Recorded.{journal_of, actors_in, actors_of, Records}
use Rattle.n2_runs.specs.Replay.{Differs, at_row, entry_row, entry_rows, tail_row, end_row, if_last, if_core, tail_rows, after_entries, replayed}
use Rattle.n2_runs.proofs.Quiets.{append_nil}
use Rattle.n2_runs.proofs.Ahead.{groups_of, entry_turns, run_replays}
use Rattle.n2_runs.proofs.Compared.{all_entries}
use Rattle.n2_runs.proofs.Followed.{starts_fresh, count, follow_entries, replays_all}

-- ---- rows one after another
abbrev and_rows : (Machine → Result Machine Differs) → Result Machine Differs → Result Machine Differs
and_rows next (Ok m) = next m
and_rows next (Err why) = Err why

-- the row of an error
this_why : (why d : Differs) → ◌≡◌ {A = Result Machine Differs} (Err why) (Err d) → why.row ≡ d.row
this_why why d e = let same : why ≡ d = grind arith in ap (λ (x : Differs). x.row) same

this_row : (row : ℕ) (m : Machine) (d : Differs) (n : ℕ) → ◌≡◌ {A = Result Machine Differs} (Err (record { row = row; machine = m })) (Err d) → 0 < n → (row ≤ d.row) × (d.row < row + n)
this_row row m d n e lt = let same : row ≡ d.row = this_why (record { row = row; machine = m }) d e in (omega arith, omega arith)

no_row : (row : ℕ) (rest : Machine → Result Machine Differs) (o : Result Machine Machine) (x left : Machine) → o ≡ Err left → at_row row rest o ≡ Ok x → ⊥
no_row row rest (Ok y) x left e f = absurd (cc)
no_row row rest (Err y) x left e f = absurd (cc)

-- entries first, then tails
turns_apart : (k : Content) → actors_of k ≡ entry_turns k.entries ++ actors_in (tail_turns 0 k.tails)
turns_apart k = flat_map-append (λ group. replicate group.1 group.0) (groups_of k.entries) (tail_turns 0 k.tails)

module _ (b : Board) (map : AddressMap) where
  entries_split : (xs ys : List Entry) (row : ℕ) (m : Machine) → entry_rows b map row (xs ++ ys) m ≡ and_rows (entry_rows b map (row + length xs) ys) (entry_rows b map row xs m)
  unfolding entry_rows
  entries_split [] ys row m = ap (λ n. entry_rows b map n ys m) (omega arith)
  entries_split (x ∷ xs) ys row m = at (λ y. entries_split xs ys (row + 1) y) (entry_row b map x m)
    where
      same : row + 1 + length xs ≡ row + suc (length xs)
      same = omega arith

      at : ((y : Machine) → entry_rows b map (row + 1) (xs ++ ys) y ≡ and_rows (entry_rows b map (row + 1 + length xs) ys) (entry_rows b map (row + 1) xs y)) → (o : Result Machine Machine) → at_row row (entry_rows b map (row + 1) (xs ++ ys)) o ≡ and_rows (entry_rows b map (row + suc (length xs)) ys) (at_row row (entry_rows b map (row + 1) xs) o)
      at next (Ok y) = next y ∙ ap (λ n. and_rows (entry_rows b map n ys) (entry_rows b map (row + 1) xs y)) same
      at next (Err y) = refl

  entries_bound : (es : List Entry) (row : ℕ) (m : Machine) (d : Differs) → entry_rows b map row es m ≡ Err d → (row ≤ d.row) × (d.row < row + length es)
  unfolding entry_rows
  entries_bound [] row m d e = absurd (cc)
  entries_bound (x ∷ xs) row m d e = at (λ y. entries_bound xs (row + 1) y d) (entry_row b map x m) e
    where
      at : ((y : Machine) → entry_rows b map (row + 1) xs y ≡ Err d → (row + 1 ≤ d.row) × (d.row < row + 1 + length xs)) → (o : Result Machine Machine) → at_row row (entry_rows b map (row + 1) xs) o ≡ Err d → (row ≤ d.row) × (d.row < row + suc (length xs))
      at next (Ok y) e = let z = next y e in (omega (arith, z.0), omega (arith, z.1))
      at next (Err y) e = this_row row y d (suc (length xs)) e (omega arith)

  -- the tails before one, without the end
  prefix : ℕ → ℕ → List ℕ → Machine → Result Machine Differs
  prefix row core [] m = Ok m
  prefix row core (t ∷ ts) m = at_row row (prefix (row + 1) (core + 1) ts) (if_core b core m (tail_row b map core t m))

  tails_split : (xs ys : List ℕ) (row core : ℕ) (m : Machine) → tail_rows b map row core (xs ++ ys) m ≡ and_rows (tail_rows b map (row + length xs) (core + length xs) ys) (prefix row core xs m)
  unfolding tail_rows prefix
  tails_split [] ys row core m = ap (λ n. tail_rows b map n core ys m) row_same ∙ ap (λ n. tail_rows b map (row + 0) n ys m) core_same
    where
      row_same : row ≡ row + 0
      row_same = omega arith

      core_same : core ≡ core + 0
      core_same = omega arith
  tails_split (t ∷ ts) ys row core m = at (λ y. tails_split ts ys (row + 1) (core + 1) y) (if_core b core m (tail_row b map core t m))
    where
      row_same : row + 1 + length ts ≡ row + suc (length ts)
      row_same = omega arith

      core_same : core + 1 + length ts ≡ core + suc (length ts)
      core_same = omega arith

      at : ((y : Machine) → tail_rows b map (row + 1) (core + 1) (ts ++ ys) y ≡ and_rows (tail_rows b map (row + 1 + length ts) (core + 1 + length ts) ys) (prefix (row + 1) (core + 1) ts y)) → (o : Result Machine Machine) → at_row row (tail_rows b map (row + 1) (core + 1) (ts ++ ys)) o ≡ and_rows (tail_rows b map (row + suc (length ts)) (core + suc (length ts)) ys) (at_row row (prefix (row + 1) (core + 1) ts) o)
      at next (Ok y) =
          next y
          ∙ ap (λ n. and_rows (tail_rows b map n (core + 1 + length ts) ys) (prefix (row + 1) (core + 1) ts y)) row_same
          ∙ ap (λ n. and_rows (tail_rows b map (row + suc (length ts)) n ys) (prefix (row + 1) (core + 1) ts y)) core_same
      at next (Err y) = refl

  prefix_bound : (ts : List ℕ) (row core : ℕ) (m : Machine) (d : Differs) → prefix row core ts m ≡ Err d → d.row < row + length ts
  unfolding prefix
  prefix_bound [] row core m d e = absurd (cc)
  prefix_bound (t ∷ ts) row core m d e = at (λ y. prefix_bound ts (row + 1) (core + 1) y d) (if_core b core m (tail_row b map core t m)) e
    where
      at : ((y : Machine) → prefix (row + 1) (core + 1) ts y ≡ Err d → d.row < row + 1 + length ts) → (o : Result Machine Machine) → at_row row (prefix (row + 1) (core + 1) ts) o ≡ Err d → d.row < row + suc (length ts)
      at next (Ok y) e = let z = next y e in omega (arith, z)
      at next (Err y) e = (this_row row y d (suc (length ts)) e (omega arith)).1

  tails_bound : (ts : List ℕ) (row core : ℕ) (m : Machine) (d : Differs) → tail_rows b map row core ts m ≡ Err d → row ≤ d.row
  unfolding tail_rows
  tails_bound [] row core m d e = at (if_last b core m (end_row b m)) e
    where
      at : (o : Result Machine Machine) → at_row row (λ (end : Machine). Ok end) o ≡ Err d → row ≤ d.row
      at (Ok y) e = absurd (cc)
      at (Err y) e = (this_row row y d 1 e (omega arith)).0
  tails_bound (t ∷ ts) row core m d e = at (λ y. tails_bound ts (row + 1) (core + 1) y d) (if_core b core m (tail_row b map core t m)) e
    where
      at : ((y : Machine) → tail_rows b map (row + 1) (core + 1) ts y ≡ Err d → row + 1 ≤ d.row) → (o : Result Machine Machine) → at_row row (tail_rows b map (row + 1) (core + 1) ts) o ≡ Err d → row ≤ d.row
      at next (Ok y) e = let z = next y e in omega (arith, z)
      at next (Err y) e = (this_row row y d 1 e (omega arith)).0

  -- ---- the row that differs
  -- the machine before it, and that it differs there
  record Stands (before : Result Machine Differs) (here : Machine → Result Machine Machine) : Type 0 where
    machine : Machine
    reached : before ≡ Ok machine
    left : Machine
    differs : here machine ≡ Err left

  entry_stands : (before after : List Entry) (entry : Entry) (row : ℕ) (m : Machine) (d : Differs) → entry_rows b map row (before ++ entry ∷ after) m ≡ Err d → d.row ≡ row + length before → Stands (entry_rows b map row before m) (entry_row b map entry)
  unfolding entry_rows
  entry_stands before after entry row m d e n = at (entry_rows b map row before m) refl (sym (entries_split before (entry ∷ after) row m) ∙ e)
    where
      here : (y : Machine) → entry_rows b map row before m ≡ Ok y → (o : Result Machine Machine) → entry_row b map entry y ≡ o → at_row (row + length before) (entry_rows b map (row + length before + 1) after) o ≡ Err d → Stands (entry_rows b map row before m) (entry_row b map entry)
      here y r (Ok z) i f = let l = (entries_bound after (row + length before + 1) z d f).0 in absurd (omega (arith, n))
      here y r (Err z) i f = record { machine = y; reached = r; left = z; differs = i }

      at : (r : Result Machine Differs) → entry_rows b map row before m ≡ r → and_rows (entry_rows b map (row + length before) (entry ∷ after)) r ≡ Err d → Stands (entry_rows b map row before m) (entry_row b map entry)
      at (Err why) r f = let l = (entries_bound before row m why r).1 in let same : why.row ≡ d.row = this_why why d f in absurd (omega (arith, n))
      at (Ok y) r f = here y r (entry_row b map entry y) refl f

  abbrev TailStands : List ℕ → ℕ → ℕ → ℕ → Machine → Type 0
  TailStands before tail row core m = Stands (prefix row core before m) (λ y. if_core b (core + length before) y (tail_row b map (core + length before) tail y))

  tail_stands : (before after : List ℕ) (tail row core : ℕ) (m : Machine) (d : Differs) → tail_rows b map row core (before ++ tail ∷ after) m ≡ Err d → d.row ≡ row + length before → TailStands before tail row core m
  unfolding tail_rows
  tail_stands before after tail row core m d e n = at (prefix row core before m) refl (sym (tails_split before (tail ∷ after) row core m) ∙ e)
    where
      here : (y : Machine) → prefix row core before m ≡ Ok y → (o : Result Machine Machine) → if_core b (core + length before) y (tail_row b map (core + length before) tail y) ≡ o → at_row (row + length before) (tail_rows b map (row + length before + 1) (core + length before + 1) after) o ≡ Err d → TailStands before tail row core m
      here y r (Ok z) i f = let l = tails_bound after (row + length before + 1) (core + length before + 1) z d f in absurd (omega (arith, n))
      here y r (Err z) i f = record { machine = y; reached = r; left = z; differs = i }

      at : (r : Result Machine Differs) → prefix row core before m ≡ r → and_rows (tail_rows b map (row + length before) (core + length before) (tail ∷ after)) r ≡ Err d → TailStands before tail row core m
      at (Err why) r f = let l = prefix_bound before row core m why r in let same : why.row ≡ d.row = this_why why d f in absurd (omega (arith, n))
      at (Ok y) r f = here y r (if_core b (core + length before) y (tail_row b map (core + length before) tail y)) refl f

  -- with other rows after it, it differs too
  entry_differs : (before more : List Entry) (entry : Entry) (row : ℕ) (m x : Machine) → Stands (entry_rows b map row before m) (entry_row b map entry) → entry_rows b map row (before ++ entry ∷ more) m ≡ Ok x → ⊥
  unfolding entry_rows
  entry_differs before more entry row m x h e =
      let z = sym (entries_split before (entry ∷ more) row m) ∙ e in
      no_row (row + length before) (entry_rows b map (row + length before + 1) more) (entry_row b map entry h.machine) x h.left h.differs
      (ap (and_rows (entry_rows b map (row + length before) (entry ∷ more))) (sym h.reached) ∙ z)

  tail_differs : (before more : List ℕ) (tail row core : ℕ) (m x : Machine) → TailStands before tail row core m → tail_rows b map row core (before ++ tail ∷ more) m ≡ Ok x → ⊥
  unfolding tail_rows
  tail_differs before more tail row core m x h e =
      let z = sym (tails_split before (tail ∷ more) row core m) ∙ e in
      no_row (row + length before) (tail_rows b map (row + length before + 1) (core + length before + 1) more) (if_core b (core + length before) h.machine (tail_row b map (core + length before) tail h.machine)) x h.left h.differs
      (ap (and_rows (tail_rows b map (row + length before) (core + length before) (tail ∷ more))) (sym h.reached) ∙ z)

-- ---- the row of a journal
module _ (b : Board) (images : List Image) (map : AddressMap) (j : Content) (d : Differs) (long : length images ≡ length b.core) (wrong : replayed b map (start b images) j ≡ Err d) where
  abbrev first : Machine
  first = start b images

  module _ (before after : List Entry) (entry : Entry) (is : j.entries ≡ before ++ entry ∷ after) (row : d.row ≡ length before + 2) where
    rows_err : (r : Result Machine Differs) → after_entries b map j r ≡ Err d → r ≡ Err d
    rows_err (Ok y) e =
        let l = tails_bound b map j.tails (length j.entries + 2) 0 y d e in
        let n : length j.entries ≡ length before + suc (length after) = ap (λ (es : List Entry). length es) is ∙ length-append before (entry ∷ after) in
        absurd (omega (arith, row))
    rows_err (Err why) e = e

    stands : Stands b map (entry_rows b map 2 before first) (entry_row b map entry)
    stands = entry_stands b map before after entry 2 first d (ap (λ es. entry_rows b map 2 es first) (sym is) ∙ rows_err (entry_rows b map 2 j.entries first) wrong) (row ∙ omega arith)

    -- the rows before it are those of a run
    pub entries_before : (run b map first (actors_of (record { entries = before; tails = [] }))).entries ≡ before
    entries_before =
        let v = all_entries b map before 2 first (count b images map j long) (starts_fresh b images map j long) stands.machine stands.reached in
        ap (λ order. (run b map first order).entries) (ap actors_in (append_nil (groups_of before))) ∙ ap (λ (m : Machine). m.entries) (sym v.is) ∙ v.entries

    -- and no run has this one too
    pub no_entry : IsValid b → map ≡ address_map b images → (order : List ℕ) (more : List Entry) → (run b map first order).entries ≡ before ++ entry ∷ more → ⊥
    no_entry valid at order more e =
        let x = run b map first order in
        let k : Content = record { entries = before ++ entry ∷ more; tails = tails x } in
        let same : journal_of x ≡ k = ap (λ es. record { entries = es; tails = tails x }) e in
        let again : (run b map first (actors_of k)).entries ≡ before ++ entry ∷ more = ap (λ (y : Content). (run b map first (actors_of y)).entries) (sym same) ∙ ap (λ (m : Machine). m.entries) (run_replays b images map order valid at long) ∙ e in
        let rows = follow_entries b map (before ++ entry ∷ more) 2 first (actors_in (tail_turns 0 k.tails)) (count b images map k long) (starts_fresh b images map k long) (ap (λ order. (run b map first order).entries) (sym (turns_apart k)) ∙ again) in
        entry_differs b map before more entry 2 first (run b map first (entry_turns (before ++ entry ∷ more))) stands rows

  module _ (before after : List ℕ) (tail : ℕ) (is : j.tails ≡ before ++ tail ∷ after) (row : d.row ≡ length j.entries + 2 + length before) where
    record Reached : Type 0 where
      machine : Machine
      rows : entry_rows b map 2 j.entries first ≡ Ok machine
      tails_wrong : tail_rows b map (length j.entries + 2) 0 j.tails machine ≡ Err d

    reached_by : (r : Result Machine Differs) → entry_rows b map 2 j.entries first ≡ r → after_entries b map j r ≡ Err d → Reached
    reached_by (Ok y) i e = record { machine = y; rows = i; tails_wrong = e }
    reached_by (Err why) i e =
        let l = (entries_bound b map j.entries 2 first why i).1 in
        let same : why.row ≡ d.row = this_why why d e in
        absurd (omega (arith, row))

    reached : Reached
    reached = reached_by (entry_rows b map 2 j.entries first) refl wrong

    tail_here : TailStands b map before tail (length j.entries + 2) 0 reached.machine
    tail_here = tail_stands b map before after tail (length j.entries + 2) 0 reached.machine d (ap (λ ts. tail_rows b map (length j.entries + 2) 0 ts reached.machine) (sym is) ∙ reached.tails_wrong) row

    -- no finished run with these entries has these tails up to this one
    pub no_tail : (k : Content) → Records b map first k → (more : List ℕ) → k ≡ record { entries = j.entries; tails = before ++ tail ∷ more } → ⊥
    no_tail k h more e =
        let x = run b map first (actors_of k) in
        let ok = ap (λ (y : Content). replayed b map first y) (sym e) ∙ replays_all b images map k long h in
        tail_differs b map before more tail (length j.entries + 2) 0 reached.machine x tail_here
        (ap (after_entries b map (record { entries = j.entries; tails = before ++ tail ∷ more })) (sym reached.rows) ∙ ok)
