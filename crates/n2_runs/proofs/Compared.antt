-- What replays is the journal of a finished run.
use Rattle.std.proofs.Common.{◌≡◌, ℕ, zero, suc, ◌≤◌, ◌+◌, ◌++◌, Bool, true, false, cond, eqb, List, [], ◌∷◌, length, replicate, slice_get, Option, Some, None, Result, Ok, Err, refl, ap, sym, ◌∙◌, arith, subst, append_assoc}
use Rattle.std.proofs.lemmas.Bool.Decides.{nat_tests}
use Rattle.std.proofs.lemmas.Option.{slice_get_past}
use Rattle.n2_parts.specs.declared.board.Board.{Board}
use Rattle.n2_board.specs.AddressMap.{AddressMap}
use Rattle.n2_journal.specs.declared.entry.Entry.{Entry}
use Rattle.n2_journal.specs.Journals.{tail_turns}
use Rattle.n2_runs.specs.Machine.{Machine, turn, run, script_is_over, core_is_over, is_over}
use Rattle.n2_runs.specs.Recorded.{actors_in}
use Rattle.n2_runs.specs.Same.{same_request, same_entry}
use Rattle.n2_runs.specs.Replay.{and_then, added, if_quiet, quiet_turn, quiet_turns, if_same, entry_turn, Differs, at_row, entry_row, entry_rows, if_stopped, tail_row, end_row, if_last, if_core, tail_rows}
use Rattle.n2_runs.proofs.Sames.{entry_is}
use Rattle.n2_runs.proofs.Quiets.{get_next, append_nil, run-append, run-none, one_more}
use Rattle.n2_runs.proofs.Ahead.{same_some, entry_turns}
use Rattle.n2_runs.proofs.Counted.{local_of, local_at, TurnIs, Over, Quiet, Enters, turn_is, count_run, others_run, tails_others}

-- ---- tests
same_ok : {E : Type 0} (x y : Machine) → ◌≡◌ {A = Result Machine E} (Ok x) (Ok y) → x ≡ y
same_ok x y e = grind arith

pub then_ok : {P : Type 0} (next : Machine → Result Machine Machine) (o : Result Machine Machine) (x : Machine) → and_then next o ≡ Ok x → ((y : Machine) → o ≡ Ok y → next y ≡ Ok x → P) → P
then_ok next (Ok y) x h f = f y refl h
then_ok next (Err y) x h f = absurd (cc)

pub quiet_if : {P : Type 0} (m : Machine) (o : Bool) (y x : Machine) (e : Option Entry) → if_quiet m o y e ≡ Ok x → (o ≡ false → e ≡ None → x ≡ y → P) → P
quiet_if m true y x e h f = absurd (cc)
quiet_if m false y x None h f = f refl refl (same_ok x y (sym h))
quiet_if m false y x (Some e) h f = absurd (cc)

cond_ok : {P : Type 0} (t : Bool) (x y z : Machine) → ◌≡◌ {A = Result Machine Machine} (cond t (Ok x) (Err z)) (Ok y) → (t ≡ true → y ≡ x → P) → P
cond_ok true x y z h f = f refl (same_ok y x (sym h))
cond_ok false x y z h f = absurd (cc)

same_by : {P : Type 0} (m : Machine) (entry other : Entry) (y x : Machine) (t : Bool) → ◌≡◌ {A = Result Machine Machine} (cond t (cond (same_entry entry other) (Ok y) (Err y)) (Err m)) (Ok x) → (same_entry entry other ≡ true → x ≡ y → P) → P
same_by m entry other y x true h f = cond_ok (same_entry entry other) y x y h f
same_by m entry other y x false h f = absurd (cc)

same_if : {P : Type 0} (m : Machine) (entry : Entry) (y x : Machine) (e : Option Entry) → if_same m entry y e ≡ Ok x → (e ≡ Some entry → x ≡ y → P) → P
same_if m entry y x None h f = absurd (cc)
same_if m entry y x (Some other) h f = same_by m entry other y x (same_request entry.request other.request) h (λ t e. f (ap (λ (d : Entry). Some d) (sym (entry_is entry other t))) e)

-- the added entry
pub added_none : (m x : Machine) → x.entries ≡ m.entries → added m x ≡ None
added_none m x e = ap (λ es. slice_get es (length m.entries)) e ∙ slice_get_past m.entries (length m.entries) (omega arith)

pub added_some : (m x : Machine) (entry : Entry) → x.entries ≡ m.entries ++ entry ∷ [] → added m x ≡ Some entry
added_some m x entry e = ap (λ es. slice_get es (length m.entries)) e ∙ get_next m.entries entry []

pub none_some : {P : Type 0} {X : Type 0} (o : Option X) (x : X) → o ≡ None → o ≡ Some x → P
none_some o x e f = let z : ◌≡◌ None (Some x) = sym e ∙ f in absurd (cc)

pub true_false : {P : Type 0} (x : Bool) → x ≡ true → x ≡ false → P
true_false x e f = let z : true ≡ false = sym e ∙ f in absurd (cc)

abbrev pub AreFresh : ℕ → Machine → Type 0
AreFresh from m = (j : ℕ) → from ≤ j → local_at m j ≡ 0

module _ (b : Board) (map' : AddressMap) where
  -- ---- turns without a transfer
  record WentQuiet (m : Machine) (k n : ℕ) (x : Machine) : Type 0 where
    is : x ≡ run b map' m (replicate n k)
    entries : x.entries ≡ m.entries
    script : x.script ≡ m.script
    local : local_at x k ≡ local_at m k + n

  quiet_by : (m : Machine) (k : ℕ) (y : Machine) → y ≡ (turn b map' m k).machine → TurnIs b m k y → is_over b m k ≡ false → added m y ≡ None → WentQuiet m k 1 y
  unfolding run
  quiet_by m k y e (Over o s) f a = true_false (is_over b m k) o f
  quiet_by m k y e (Quiet o s t l) f a = record { is = e; entries = s; script = t; local = l }
  quiet_by m k y e (Enters entry o s t l z) f a = none_some (added m y) entry a (added_some m y entry s)

  one_quiet : (m : Machine) → length m.cores ≡ length b.core → (k : ℕ) (x : Machine) → quiet_turn b map' m k ≡ Ok x → WentQuiet m k 1 x
  unfolding quiet_turn
  one_quiet m count k x h =
      let y = (turn b map' m k).machine in
      quiet_if m (is_over b m k) y x (added m y) h (λ o a e. subst (WentQuiet m k 1) (sym e) (quiet_by m k y refl (turn_is b map' m count k) o a))

  went_more : (m y x : Machine) (k n : ℕ) → WentQuiet m k 1 y → WentQuiet y k n x → WentQuiet m k (suc n) x
  unfolding run
  went_more m y x k n g h = record {
    is = h.is ∙ ap (λ (z : Machine). run b map' z (replicate n k)) g.is;
    entries = h.entries ∙ g.entries;
    script = h.script ∙ g.script;
    local = h.local ∙ ap (λ i. i + n) g.local ∙ omega arith;
  }

  went_none : (m : Machine) (k : ℕ) → WentQuiet m k 0 m
  unfolding run
  went_none m k = record { is = refl; entries = refl; script = refl; local = omega arith }

  all_quiet : (k n : ℕ) (m : Machine) → length m.cores ≡ length b.core → (x : Machine) → quiet_turns b map' k n m ≡ Ok x → WentQuiet m k n x
  unfolding quiet_turns
  all_quiet k zero m count x h = subst (WentQuiet m k 0) (same_ok m x h) (went_none m k)
  all_quiet k (suc n) m count x h =
      then_ok (quiet_turns b map' k n) (quiet_turn b map' m k) x h (λ y g i.
      let q = one_quiet m count k y g in
      went_more m y x k n q (all_quiet k n y (count_went m y k q count) x i))
    where
      count_went : (m y : Machine) (k : ℕ) → WentQuiet m k 1 y → length m.cores ≡ length b.core → length y.cores ≡ length b.core
      count_went m y k q count = ap (λ (z : Machine). length z.cores) q.is ∙ count_run b map' (replicate 1 k) m count

  -- ---- an entry
  pub record WentEntry (m : Machine) (entry : Entry) (x : Machine) : Type 0 where
    pub is : x ≡ run b map' m (replicate (entry.local + 1) entry.actor)
    pub entries : x.entries ≡ m.entries ++ entry ∷ []
    pub local : local_at x entry.actor ≡ 0

  record EntersOne (m : Machine) (entry : Entry) (x : Machine) : Type 0 where
    entries : x.entries ≡ m.entries ++ entry ∷ []
    local : local_at x entry.actor ≡ 0

  enters_by : (m : Machine) (entry : Entry) (y : Machine) → TurnIs b m entry.actor y → added m y ≡ Some entry → EntersOne m entry y
  enters_by m entry y (Over o s) a = none_some (added m y) entry (added_none m y (ap (λ (z : Machine). z.entries) s)) a
  enters_by m entry y (Quiet o s t l) a = none_some (added m y) entry (added_none m y s) a
  enters_by m entry y (Enters e o s t l z) a =
      let i : e ≡ entry = same_some e entry (sym (added_some m y e s) ∙ a) in
      record { entries = s ∙ ap (λ (d : Entry). m.entries ++ d ∷ []) i; local = z }

  pub one_entry : (entry : Entry) (m : Machine) → length m.cores ≡ length b.core → (x : Machine) → entry_row b map' entry m ≡ Ok x → WentEntry m entry x
  unfolding entry_turn
  one_entry entry m count x h =
      then_ok (entry_turn b map' entry) (quiet_turns b map' entry.actor entry.local m) x h (λ y g i.
      let q = all_quiet entry.actor entry.local m count y g in
      let z = (turn b map' y entry.actor).machine in
      same_if y entry z x (added y z) i (λ a e. went y q (enters_by y entry z (turn_is b map' y (count_went y q) entry.actor) a) e))
    where
      count_went : (y : Machine) → WentQuiet m entry.actor entry.local y → length y.cores ≡ length b.core
      count_went y q = ap (λ (z : Machine). length z.cores) q.is ∙ count_run b map' (replicate entry.local entry.actor) m count

      went : (y : Machine) → WentQuiet m entry.actor entry.local y → EntersOne y entry (turn b map' y entry.actor).machine → x ≡ (turn b map' y entry.actor).machine → WentEntry m entry x
      went y q o e =
          let n : suc entry.local ≡ entry.local + 1 = omega arith in
          record {
            is = e ∙ ap (λ (z : Machine). (turn b map' z entry.actor).machine) q.is ∙ one_more b map' entry.actor entry.local m ∙ ap (λ i. run b map' m (replicate i entry.actor)) n;
            entries = ap (λ (z : Machine). z.entries) e ∙ o.entries ∙ ap (λ es. es ++ entry ∷ []) q.entries;
            local = ap (λ (z : Machine). local_at z entry.actor) e ∙ o.local;
          }

  pub fresh_after : (m : Machine) (entry : Entry) (x : Machine) → WentEntry m entry x → AreFresh 0 m → AreFresh 0 x
  fresh_after m entry x h fresh j le = at (eqb j entry.actor) refl
    where
      at : (t : Bool) → eqb j entry.actor ≡ t → local_at x j ≡ 0
      at true e = let i : j ≡ entry.actor = grind (arith, nat_tests) in ap (local_at x) i ∙ h.local
      at false e = ap (λ (z : Machine). local_at z j) h.is ∙ ap local_of (others_run b map' entry.actor j (entry.local + 1) (grind (arith, nat_tests)) m) ∙ fresh j le

  pub record WentEntries (m : Machine) (es : List Entry) (x : Machine) : Type 0 where
    pub is : x ≡ run b map' m (entry_turns es)
    pub entries : x.entries ≡ m.entries ++ es
    pub fresh : AreFresh 0 x

  row_ok : {P : Type 0} (row : ℕ) (rest : Machine → Result Machine Differs) (o : Result Machine Machine) (x : Machine) → at_row row rest o ≡ Ok x → ((y : Machine) → o ≡ Ok y → rest y ≡ Ok x → P) → P
  row_ok row rest (Ok y) x h f = f y refl h
  row_ok row rest (Err y) x h f = absurd (cc)

  pub all_entries : (es : List Entry) (row : ℕ) (m : Machine) → length m.cores ≡ length b.core → AreFresh 0 m → (x : Machine) → entry_rows b map' row es m ≡ Ok x → WentEntries m es x
  unfolding entry_rows
  all_entries [] row m count fresh x h =
      let e : m ≡ x = same_ok m x h in
      subst (WentEntries m []) e (record { is = sym (run-none b map' m); entries = sym (append_nil m.entries); fresh = fresh })
  all_entries (entry ∷ es) row m count fresh x h =
      row_ok row (entry_rows b map' (row + 1) es) (entry_row b map' entry m) x h (λ y g i.
      let q = one_entry entry m count y g in
      let c : length y.cores ≡ length b.core = ap (λ (z : Machine). length z.cores) q.is ∙ count_run b map' (replicate (entry.local + 1) entry.actor) m count in
      went y q (all_entries es (row + 1) y c (fresh_after m entry y q fresh) x i))
    where
      went : (y : Machine) → WentEntry m entry y → WentEntries y es x → WentEntries m (entry ∷ es) x
      went y q r = record {
        is = r.is ∙ ap (λ (z : Machine). run b map' z (entry_turns es)) q.is ∙ sym (run-append b map' (replicate (entry.local + 1) entry.actor) (entry_turns es) m);
        entries = r.entries ∙ ap (λ xs. xs ++ es) q.entries ∙ append_assoc m.entries (entry ∷ []) es;
        fresh = r.fresh;
      }

  -- ---- the tails
  pub record WentTails (m : Machine) (core : ℕ) (ts : List ℕ) (x : Machine) : Type 0 where
    pub is : x ≡ run b map' m (actors_in (tail_turns core ts))
    pub entries : x.entries ≡ m.entries
    pub over : script_is_over b x x.script ≡ true
    pub long : core + length ts ≡ length b.core
    pub each : (j t : ℕ) → slice_get ts j ≡ Some t → (local_at x (core + j) ≡ t) × (core_is_over (slice_get x.cores (core + j)) ≡ true)

  core_ends : {P : Type 0} (t : Bool) (m x : Machine) (r : Result Machine Machine) → cond t r (Err m) ≡ Ok x → (t ≡ true → r ≡ Ok x → P) → P
  core_ends true m x r h f = f refl h
  core_ends false m x r h f = absurd (cc)

  core_goes : {P : Type 0} (t : Bool) (m x : Machine) (r : Result Machine Machine) → cond t (Err m) r ≡ Ok x → (t ≡ false → r ≡ Ok x → P) → P
  core_goes true m x r h f = absurd (cc)
  core_goes false m x r h f = f refl h

  pub all_tails : (ts : List ℕ) (row core : ℕ) (m : Machine) → length m.cores ≡ length b.core → AreFresh core m → (x : Machine) → tail_rows b map' row core ts m ≡ Ok x → WentTails m core ts x
  unfolding tail_rows
  all_tails [] row core m count fresh x h =
      row_ok row (λ (end : Machine). Ok end) (if_last b core m (end_row b m)) x h (λ y g i.
      core_ends (eqb core (length b.core)) m y (end_row b m) g (λ t g.
      cond_ok (script_is_over b m m.script) m y m g (λ o e. subst (WentTails m core []) (sym e ∙ same_ok y x i) (record {
        is = sym (run-none b map' m);
        entries = refl;
        over = o;
        long = last t;
        each = λ j t i. absurd (cc);
      }))))
    where
      last : eqb core (length b.core) ≡ true → core + 0 ≡ length b.core
      last t = let e : core ≡ length b.core = grind (arith, nat_tests) in omega arith
  all_tails (t ∷ ts) row core m count fresh x h =
      row_ok row (tail_rows b map' (row + 1) (core + 1) ts) (if_core b core m (tail_row b map' core t m)) x h (λ y g i.
      core_goes (eqb core (length b.core)) m y (tail_row b map' core t m) g (λ n g.
      then_ok (if_stopped core) (quiet_turns b map' core t m) y g (λ z f g.
      cond_ok (core_is_over (slice_get z.cores core)) z y z g (λ o e.
      let q : WentQuiet m core t y = subst (WentQuiet m core t) (sym e) (all_quiet core t m count z f) in
      let c : length y.cores ≡ length b.core = ap (λ (z : Machine). length z.cores) q.is ∙ count_run b map' (replicate t core) m count in
      went y q (ap (λ (z : Machine). core_is_over (slice_get z.cores core)) e ∙ o)
      (all_tails ts (row + 1) (core + 1) y c (λ j le. ap (λ (z : Machine). local_at z j) q.is ∙ ap local_of (others_run b map' core j t (λ i. omega arith) m) ∙ fresh j (omega arith)) x i)))))
    where
      went : (y : Machine) → WentQuiet m core t y → core_is_over (slice_get y.cores core) ≡ true → WentTails y (core + 1) ts x → WentTails m core (t ∷ ts) x
      went y q o r = record {
        is = r.is ∙ ap (λ (z : Machine). run b map' z (actors_in (tail_turns (core + 1) ts))) q.is ∙ sym (run-append b map' (replicate t core) (actors_in (tail_turns (core + 1) ts)) m);
        entries = r.entries ∙ q.entries;
        over = r.over;
        long = omega (arith, r.long);
        each = one;
      }
        where
          stays : slice_get x.cores core ≡ slice_get y.cores core
          stays = ap (λ (z : Machine). slice_get z.cores core) r.is ∙ tails_others b map' ts (core + 1) core (omega arith) y

          one : (j s : ℕ) → slice_get (t ∷ ts) j ≡ Some s → (local_at x (core + j) ≡ s) × (core_is_over (slice_get x.cores (core + j)) ≡ true)
          one zero s e =
              let i : core ≡ core + 0 = omega arith in
              let v : t ≡ s = same_some t s e in
              subst (λ n. (local_at x n ≡ s) × (core_is_over (slice_get x.cores n) ≡ true)) i
              (ap local_of stays ∙ q.local ∙ ap (λ n. n + t) (fresh core (omega arith)) ∙ omega arith, ap core_is_over stays ∙ o)
          one (suc j) s e =
              let i : core + 1 + j ≡ core + suc j = omega arith in
              subst (λ n. (local_at x n ≡ s) × (core_is_over (slice_get x.cores n) ≡ true)) i (r.each j s e)
