-- The journal of a finished run replays.
use Rattle.std.proofs.Common.{◌≡◌, ◌≢◌, ℕ, zero, suc, ◌<◌, ◌≤◌, ◌+◌, ◌++◌, ◌&&◌, Bool, true, false, cond, eqb, nat_lt, not, List, [], ◌∷◌, length, replicate, slice_get, Option, Some, None, Result, Ok, Err, refl, ap, sym, ◌∙◌, arith, subst, append_assoc, length-append}
use Rattle.std.specs.Prelude.{is_some}
use Rattle.std.specs.List.{list_all}
use Rattle.std.proofs.lemmas.Bool.Decides.{nat_tests}
use Rattle.std.proofs.lemmas.Grind.{flat_map-append}
use Rattle.std.proofs.lemmas.List.{length-map}
use Rattle.n2_parts.specs.declared.board.Board.{Board}
use Rattle.n2_parts.specs.declared.board.DeviceEvent.{DeviceEvent}
use Rattle.n2_elf.specs.declared.image.Image.{Image}
use Rattle.n2_board.specs.AddressMap.{AddressMap}
use Rattle.n2_journal.specs.declared.entry.Entry.{Entry}
use Rattle.n2_journal.specs.Journals.{Content, tail_turns}
use Rattle.n2_front.specs.Core.{Core, stop_of}
use Rattle.n2_runs.specs.Machine.{Machine, start, started_cores, turn, run, tails, script_is_over, core_is_over, is_over, is_finished}
use Rattle.n2_runs.specs.Recorded.{journal_of, actors_in, actors_of, Records}
use Rattle.n2_runs.specs.Same.{same_entry}
use Rattle.n2_runs.specs.Replay.{and_then, added, if_quiet, quiet_turn, quiet_turns, if_same, entry_turn, Differs, at_row, entry_row, entry_rows, if_stopped, tail_row, end_row, tail_rows, after_entries, replayed}
use Rattle.n2_runs.proofs.Sames.{request_self, entry_self}
use Rattle.n2_runs.proofs.Begins.{as_many}
use Rattle.n2_runs.proofs.Books.{other_core}
use Rattle.n2_runs.proofs.Quiets.{get_next, append_nil, run-append, run-none}
use Rattle.n2_runs.proofs.Ahead.{same_some, fresh_started, groups_of, entry_turns, locals_of}
use Rattle.n2_runs.proofs.Counted.{local_of, local_at, TurnIs, Over, Quiet, Enters, turn_is, count_turn, count_run, others_run, tails_others, IsMore, run_more}
use Rattle.n2_runs.proofs.Compared.{AreFresh, added_none, added_some, true_false, one_entry, fresh_after, WentEntries, all_entries, WentTails, all_tails}

first_same : (es : List Entry) (d e : Entry) (more rest : List Entry) → (es ++ d ∷ []) ++ more ≡ es ++ e ∷ rest → d ≡ e
first_same es d e more rest h = same_some d e (sym (get_next es d more) ∙ ap (λ xs. slice_get xs (length es)) (sym (append_assoc es (d ∷ []) more) ∙ h) ∙ get_next es e rest)

no_longer : {P : Type 0} (es : List Entry) (d : Entry) (more : List Entry) → (es ++ d ∷ []) ++ more ≡ es → P
no_longer es d more h =
    let z = ap (λ (xs : List Entry). length xs) h in
    let y : length ((es ++ d ∷ []) ++ more) ≡ length es + 1 + length more = length-append (es ++ d ∷ []) more ∙ ap (λ n. n + length more) (length-append es (d ∷ [])) in
    absurd (omega arith)

squeezed : (es zs fs : List Entry) (n m : List Entry) → zs ≡ es ++ n → fs ≡ zs ++ m → fs ≡ es → zs ≡ es
squeezed es zs fs [] m e f g = e ∙ append_nil es
squeezed es zs fs (d ∷ n) m e f g = no_longer es d (n ++ m) (append_assoc es (d ∷ []) (n ++ m) ∙ sym (append_assoc es (d ∷ n) m) ∙ ap (λ xs. xs ++ m) (sym e) ∙ sym f ∙ g)

script_same : (b : Board) (m y : Machine) (script : List DeviceEvent) → y.entries ≡ m.entries → script_is_over b y script ≡ script_is_over b m script
script_same b m y [] e = refl
script_same b m y (event ∷ script) e = ap (λ (es : List Entry). not (nat_lt (length es) b.journal)) e

over_same : (b : Board) (m y : Machine) (k : ℕ) → y.entries ≡ m.entries → y.script ≡ m.script → slice_get y.cores k ≡ slice_get m.cores k → is_over b y k ≡ is_over b m k
over_same b m y k e s c =
    ap (λ (x : Bool). cond (eqb k (length b.core)) x (core_is_over (slice_get y.cores k))) (ap (script_is_over b y) s ∙ script_same b m y m.script e)
    ∙ ap (λ (o : Option Core). cond (eqb k (length b.core)) (script_is_over b m m.script) (core_is_over o)) c

module _ (b : Board) (map' : AddressMap) where
  -- ---- the next entry of a run
  -- its actor is not over, and has made no more turns than the entry counts
  record Comes (m : Machine) (entry : Entry) : Type 0 where
    runs : is_over b m entry.actor ≡ false
    local : local_at m entry.actor ≤ entry.local

  comes_by : (m y : Machine) (k : ℕ) (entry : Entry) (rest after : List Entry) → TurnIs b m k y → ((j : ℕ) → j ≢ k → slice_get y.cores j ≡ slice_get m.cores j) → after ≡ m.entries ++ entry ∷ rest → IsMore b map' y.entries after → (after ≡ y.entries ++ entry ∷ rest → Comes y entry) → Comes m entry
  comes_by m y k entry rest after (Over o s) others e more next = subst (λ (z : Machine). Comes z entry) s (next (e ∙ ap (λ (z : Machine). z.entries ++ entry ∷ rest) (sym s)))
  comes_by m y k entry rest after (Quiet o s t l) others e more next = at (eqb entry.actor k) refl (next (e ∙ ap (λ es. es ++ entry ∷ rest) (sym s)))
    where
      at : (x : Bool) → eqb entry.actor k ≡ x → Comes y entry → Comes m entry
      at true i z =
          let a : entry.actor ≡ k = grind (arith, nat_tests) in
          record {
            runs = ap (is_over b m) a ∙ o;
            local = omega (arith, ap (local_at m) a, ap (local_at y) a, l, z.local);
          }
      at false i z =
          let n : entry.actor ≢ k = grind (arith, nat_tests) in
          let c = others entry.actor n in
          record {
            runs = sym (over_same b m y entry.actor s t c) ∙ z.runs;
            local = omega (arith, ap local_of c, z.local);
          }
  comes_by m y k entry rest after (Enters d o s a l z) others e more next =
      let i : d ≡ entry = first_same m.entries d entry more.more rest (ap (λ es. es ++ more.more) (sym s) ∙ sym more.then ∙ e) in
      let same : entry.actor ≡ k = ap (λ (x : Entry). x.actor) (sym i) ∙ a in
      record {
        runs = ap (is_over b m) same ∙ o;
        local = omega (arith, ap (local_at m) same, l, ap (λ (x : Entry). x.local) i);
      }

  comes : (order : List ℕ) (m : Machine) → length m.cores ≡ length b.core → (entry : Entry) (rest : List Entry) → (run b map' m order).entries ≡ m.entries ++ entry ∷ rest → Comes m entry
  unfolding run
  comes [] m count entry rest e =
      let z = ap (λ (xs : List Entry). length xs) e in
      let y : length (m.entries ++ entry ∷ rest) ≡ length m.entries + (length rest + 1) = length-append m.entries (entry ∷ rest) ∙ omega arith in
      absurd (omega arith)
  comes (k ∷ order) m count entry rest e =
      let y = (turn b map' m k).machine in
      comes_by m y k entry rest (run b map' y order).entries (turn_is b map' m count k) (λ j n. other_core b map' m k j n) e (run_more b map' order y (count_turn b map' m count k))
      (λ f. comes order y (count_turn b map' m count k) entry rest f)

  -- ---- an entry's turns
  quiet_is : (m y : Machine) (k : ℕ) → is_over b m k ≡ false → y.entries ≡ m.entries → if_quiet m (is_over b m k) y (added m y) ≡ Ok y
  quiet_is m y k o s = ap (λ (x : Bool). if_quiet m x y (added m y)) o ∙ ap (if_quiet m false y) (added_none m y s)

  entry_made : (m y : Machine) (entry d : Entry) → d ≡ entry → y.entries ≡ m.entries ++ d ∷ [] → if_same m entry y (added m y) ≡ Ok y
  entry_made m y entry d i s =
      ap (if_same m entry y) (added_some m y d s ∙ ap (λ (x : Entry). Some x) i)
      ∙ ap (λ (x : Bool). cond x (cond (same_entry entry entry) (Ok y) (Err y)) (Err m)) (request_self entry.request)
      ∙ ap (λ (x : Bool). cond x (Ok y) (Err y)) (entry_self entry)

  last_by : (m y : Machine) (entry : Entry) (rest after : List Entry) → TurnIs b m entry.actor y → Comes m entry → local_at m entry.actor ≡ entry.local → after ≡ m.entries ++ entry ∷ rest → IsMore b map' y.entries after → (after ≡ y.entries ++ entry ∷ rest → Comes y entry) → if_same m entry y (added m y) ≡ Ok y
  last_by m y entry rest after (Over o s) c l e more next = true_false (is_over b m entry.actor) o c.runs
  last_by m y entry rest after (Quiet o s t i) c l e more next =
      let z = next (e ∙ ap (λ es. es ++ entry ∷ rest) (sym s)) in
      absurd (omega (arith, z.local, i, l))
  last_by m y entry rest after (Enters d o s a i z) c l e more next =
      entry_made m y entry d (first_same m.entries d entry more.more rest (ap (λ es. es ++ more.more) (sym s) ∙ sym more.then ∙ e)) s

  early_by : (m y : Machine) (entry : Entry) (rest after : List Entry) → TurnIs b m entry.actor y → Comes m entry → local_at m entry.actor < entry.local → after ≡ m.entries ++ entry ∷ rest → IsMore b map' y.entries after → (y.entries ≡ m.entries) × (local_at y entry.actor ≡ local_at m entry.actor + 1)
  early_by m y entry rest after (Over o s) c l e more = true_false (is_over b m entry.actor) o c.runs
  early_by m y entry rest after (Quiet o s t i) c l e more = (s, i)
  early_by m y entry rest after (Enters d o s a i z) c l e more =
      let same : d ≡ entry = first_same m.entries d entry more.more rest (ap (λ es. es ++ more.more) (sym s) ∙ sym more.then ∙ e) in
      absurd (omega (arith, ap (λ (x : Entry). x.local) same, i))

  group : (n : ℕ) (m : Machine) → length m.cores ≡ length b.core → (entry : Entry) (rest : List Entry) (order : List ℕ) → local_at m entry.actor + n ≡ entry.local → (run b map' m (replicate (suc n) entry.actor ++ order)).entries ≡ m.entries ++ entry ∷ rest → and_then (entry_turn b map' entry) (quiet_turns b map' entry.actor n m) ≡ Ok (run b map' m (replicate (suc n) entry.actor))
  unfolding run quiet_turns entry_turn quiet_turn
  group zero m count entry rest order l e =
      let y = (turn b map' m entry.actor).machine in
      let c = count_turn b map' m count entry.actor in
      last_by m y entry rest (run b map' y order).entries (turn_is b map' m count entry.actor) (comes (entry.actor ∷ order) m count entry rest e) (omega (arith, l)) e (run_more b map' order y c) (λ f. comes order y c entry rest f)
  group (suc n) m count entry rest order l e =
      let y = (turn b map' m entry.actor).machine in
      let c = count_turn b map' m count entry.actor in
      let next : List ℕ = replicate (suc n) entry.actor ++ order in
      let come = comes (entry.actor ∷ next) m count entry rest e in
      let z = early_by m y entry rest (run b map' y next).entries (turn_is b map' m count entry.actor) come (omega (arith, l)) e (run_more b map' next y c) in
      ap (λ (o : Result Machine Machine). and_then (entry_turn b map' entry) (and_then (quiet_turns b map' entry.actor n) o)) (quiet_is m y entry.actor come.runs z.0)
      ∙ group n y c entry rest order (omega (arith, z.1, l)) (e ∙ ap (λ es. es ++ entry ∷ rest) (sym z.0))

  pub follow_entries : (es : List Entry) (row : ℕ) (m : Machine) (order : List ℕ) → length m.cores ≡ length b.core → AreFresh 0 m → (run b map' m (entry_turns es ++ order)).entries ≡ m.entries ++ es → entry_rows b map' row es m ≡ Ok (run b map' m (entry_turns es))
  unfolding entry_rows
  follow_entries [] row m order count fresh e = ap (λ (x : Machine). Ok x) (sym (run-none b map' m))
  follow_entries (entry ∷ es) row m order count fresh e =
      let n : entry.local + 1 ≡ suc entry.local = omega arith in
      let x : Machine = run b map' m (replicate (entry.local + 1) entry.actor) in
      let go : entry_row b map' entry m ≡ Ok x =
      group entry.local m count entry es (entry_turns es ++ order) (ap (λ i. i + entry.local) (fresh entry.actor (omega arith)) ∙ omega arith)
      (ap (λ i. (run b map' m (replicate i entry.actor ++ (entry_turns es ++ order))).entries) (sym n) ∙ ap (λ xs. (run b map' m xs).entries) (sym (append_assoc (replicate (entry.local + 1) entry.actor) (entry_turns es) order)) ∙ e)
      ∙ ap (λ i. Ok (run b map' m (replicate i entry.actor))) (sym n) in
      let c : length x.cores ≡ length b.core = count_run b map' (replicate (entry.local + 1) entry.actor) m count in
      let w = one_entry b map' entry m count x go in
      ap (at_row row (entry_rows b map' (row + 1) es)) go
      ∙ follow_entries es (row + 1) x order c (fresh_after b map' m entry x w fresh)
      (ap (λ (z : Machine). z.entries) (sym (run-append b map' (replicate (entry.local + 1) entry.actor) (entry_turns es ++ order) m))
      ∙ ap (λ xs. (run b map' m xs).entries) (sym (append_assoc (replicate (entry.local + 1) entry.actor) (entry_turns es) order))
      ∙ e ∙ sym (append_assoc m.entries (entry ∷ []) es) ∙ ap (λ xs. xs ++ es) (sym w.entries))
      ∙ ap (λ (z : Machine). Ok z) (sym (run-append b map' (replicate (entry.local + 1) entry.actor) (entry_turns es) m))

  -- ---- the tails
  at_most : (k n : ℕ) (m : Machine) → length m.cores ≡ length b.core → (run b map' m (replicate n k)).entries ≡ m.entries → local_at (run b map' m (replicate n k)) k ≤ local_at m k + n
  unfolding run
  at_most k zero m count e = omega arith
  at_most k (suc n) m count e = at (turn b map' m k).machine (turn_is b map' m count k) (run_more b map' (replicate n k) (turn b map' m k).machine (count_turn b map' m count k)) (at_most k n (turn b map' m k).machine (count_turn b map' m count k)) e
    where
      at : (y : Machine) → TurnIs b m k y → IsMore b map' y.entries (run b map' y (replicate n k)).entries → ((run b map' y (replicate n k)).entries ≡ y.entries → local_at (run b map' y (replicate n k)) k ≤ local_at y k + n) → (run b map' y (replicate n k)).entries ≡ m.entries → local_at (run b map' y (replicate n k)) k ≤ local_at m k + suc n
      at y (Over o s) more next e =
          let le = next (e ∙ ap (λ (z : Machine). z.entries) (sym s)) in
          let same : local_at y k ≡ local_at m k = ap (λ (z : Machine). local_at z k) s in
          omega arith
      at y (Quiet o s t l) more next e = let le = next (e ∙ sym s) in omega (arith, l)
      at y (Enters d o s a l z) more next e = no_longer m.entries d more.more (ap (λ es. es ++ more.more) (sym s) ∙ sym more.then ∙ e)

  made_quiet : (k n : ℕ) (m : Machine) → length m.cores ≡ length b.core → (run b map' m (replicate n k)).entries ≡ m.entries → local_at (run b map' m (replicate n k)) k ≡ local_at m k + n → quiet_turns b map' k n m ≡ Ok (run b map' m (replicate n k))
  unfolding run quiet_turns quiet_turn
  made_quiet k zero m count e l = refl
  made_quiet k (suc n) m count e l = at (turn b map' m k).machine (turn_is b map' m count k) (run_more b map' (replicate n k) (turn b map' m k).machine c) (at_most k n (turn b map' m k).machine c) (made_quiet k n (turn b map' m k).machine c) e l
    where
      c : length (turn b map' m k).machine.cores ≡ length b.core
      c = count_turn b map' m count k

      at : (y : Machine) → TurnIs b m k y → IsMore b map' y.entries (run b map' y (replicate n k)).entries → ((run b map' y (replicate n k)).entries ≡ y.entries → local_at (run b map' y (replicate n k)) k ≤ local_at y k + n) → ((run b map' y (replicate n k)).entries ≡ y.entries → local_at (run b map' y (replicate n k)) k ≡ local_at y k + n → quiet_turns b map' k n y ≡ Ok (run b map' y (replicate n k))) → (run b map' y (replicate n k)).entries ≡ m.entries → local_at (run b map' y (replicate n k)) k ≡ local_at m k + suc n → and_then (quiet_turns b map' k n) (if_quiet m (is_over b m k) y (added m y)) ≡ Ok (run b map' y (replicate n k))
      at y (Over o s) more most next e l =
          let le = most (e ∙ ap (λ (z : Machine). z.entries) (sym s)) in
          let same : local_at y k ≡ local_at m k = ap (λ (z : Machine). local_at z k) s in
          absurd (omega arith)
      at y (Quiet o s t i) more most next e l = ap (and_then (quiet_turns b map' k n)) (quiet_is m y k o s) ∙ next (e ∙ sym s) (omega (arith, l, i))
      at y (Enters d o s a i z) more most next e l = no_longer m.entries d more.more (ap (λ es. es ++ more.more) (sym s) ∙ sym more.then ∙ e)

  follow_tails : (ts : List ℕ) (row core : ℕ) (m x : Machine) → length m.cores ≡ length b.core → AreFresh core m → WentTails b map' m core ts x → tail_rows b map' row core ts m ≡ Ok x
  unfolding tail_rows
  follow_tails [] row core m x count fresh w =
      let last : eqb core (length b.core) ≡ true = same_number core (length b.core) (omega (arith, w.long)) in
      let e : x ≡ m = w.is ∙ run-none b map' m in
      ap (at_row row (λ (end : Machine). Ok end)) (
      ap (λ (t : Bool). cond t (end_row b m) (Err m)) last
      ∙ ap (λ (t : Bool). cond t (Ok m) (Err m)) (ap (λ (z : Machine). script_is_over b z z.script) (sym e) ∙ w.over))
      ∙ ap (λ (z : Machine). Ok z) (sym e)
    where
      same_number : (i j : ℕ) → i ≡ j → eqb i j ≡ true
      same_number i j e = grind (arith, nat_tests)
  follow_tails (t ∷ ts) row core m x count fresh w =
      let y : Machine = run b map' m (replicate t core) in
      let rest : List ℕ = actors_in (tail_turns (core + 1) ts) in
      let c : length y.cores ≡ length b.core = count_run b map' (replicate t core) m count in
      let go : x ≡ run b map' y rest = w.is ∙ run-append b map' (replicate t core) rest m in
      let stays : slice_get x.cores core ≡ slice_get y.cores core = ap (λ (z : Machine). slice_get z.cores core) go ∙ tails_others b map' ts (core + 1) core (omega arith) y in
      let here : core + 0 ≡ core = omega arith in
      let first = w.each 0 t refl in
      let local : local_at y core ≡ t = ap local_of (sym stays) ∙ ap (local_at x) (sym here) ∙ first.0 in
      let over : core_is_over (slice_get y.cores core) ≡ true = ap core_is_over (sym stays) ∙ ap (λ n. core_is_over (slice_get x.cores n)) (sym here) ∙ first.1 in
      let before = run_more b map' (replicate t core) m count in
      let after = run_more b map' rest y c in
      let entries : y.entries ≡ m.entries = squeezed m.entries y.entries x.entries before.more after.more before.then (ap (λ (z : Machine). z.entries) go ∙ after.then) w.entries in
      let quiet = made_quiet core t m count entries (local ∙ omega (arith, fresh core (omega arith))) in
      let next : eqb core (length b.core) ≡ false = other_number core (length b.core) (omega (arith, w.long)) in
      ap (at_row row (tail_rows b map' (row + 1) (core + 1) ts)) (
      ap (λ (u : Bool). cond u (Err m) (tail_row b map' core t m)) next
      ∙ ap (and_then (if_stopped core)) quiet
      ∙ ap (λ (u : Bool). cond u (Ok y) (Err y)) over)
      ∙ follow_tails ts (row + 1) (core + 1) y x c (λ j le. ap local_of (others_run b map' core j t (λ i. omega arith) m) ∙ fresh j (omega arith)) (record {
        is = go;
        entries = w.entries ∙ sym entries;
        over = w.over;
        long = omega (arith, w.long);
        each = λ j s e. let i : core + suc j ≡ core + 1 + j = omega arith in subst (λ n. (local_at x n ≡ s) × (core_is_over (slice_get x.cores n) ≡ true)) i (w.each (suc j) s e);
      })
    where
      other_number : (i j : ℕ) → i < j → eqb i j ≡ false
      other_number i j lt = grind (arith, nat_tests)

-- ---- tails of all cores
each_tail : (cs : List Core) → list_all (λ c. is_some (stop_of c)) cs ≡ true → (j t : ℕ) → slice_get (locals_of cs) j ≡ Some t → (local_of (slice_get cs j) ≡ t) × (core_is_over (slice_get cs j) ≡ true)
each_tail [] h j t e = absurd (cc)
each_tail (c ∷ cs) h zero t e = (same_some c.local t e, first (is_some (stop_of c)) (list_all (λ c. is_some (stop_of c)) cs) h)
  where
    first : (x y : Bool) → (x && y) ≡ true → x ≡ true
    first x y e = grind arith
each_tail (c ∷ cs) h (suc j) t e = each_tail cs (second (is_some (stop_of c)) (list_all (λ c. is_some (stop_of c)) cs) h) j t e
  where
    second : (x y : Bool) → (x && y) ≡ true → y ≡ true
    second x y e = grind arith

all_tails_are : (cs : List Core) (ts : List ℕ) → length ts ≡ length cs → ((j t : ℕ) → slice_get ts j ≡ Some t → (local_of (slice_get cs j) ≡ t) × (core_is_over (slice_get cs j) ≡ true)) → (locals_of cs ≡ ts) × (list_all (λ c. is_some (stop_of c)) cs ≡ true)
all_tails_are [] [] e h = (refl, refl)
all_tails_are [] (t ∷ ts) e h = absurd (omega arith)
all_tails_are (c ∷ cs) [] e h = absurd (omega arith)
all_tails_are (c ∷ cs) (t ∷ ts) e h =
    let x = h 0 t refl in
    let z = all_tails_are cs ts (omega arith) (λ j s i. h (suc j) s i) in
    (ap (λ n. n ∷ locals_of cs) x.0 ∙ ap (λ ns. t ∷ ns) z.0, two (is_some (stop_of c)) (list_all (λ c. is_some (stop_of c)) cs) x.1 z.1)
  where
    two : (x y : Bool) → x ≡ true → y ≡ true → (x && y) ≡ true
    two x y e f = grind arith

-- ---- the whole journal
module _ (b : Board) (images : List Image) (map' : AddressMap) (j : Content) (long : length images ≡ length b.core) where
  abbrev pub s : Machine
  s = start b images

  pub starts_fresh : AreFresh 0 s
  starts_fresh k le = at (slice_get (started_cores b.core images) k) refl
    where
      at : (o : Option Core) → slice_get (started_cores b.core images) k ≡ o → local_of o ≡ 0
      at None e = refl
      at (Some c) e = fresh_started b.core images k c e

  pub count : length s.cores ≡ length b.core
  count = as_many b.core images long

  pub turns_are : run b map' s (actors_of j) ≡ run b map' (run b map' s (entry_turns j.entries)) (actors_in (tail_turns 0 j.tails))
  turns_are =
      ap (run b map' s) (flat_map-append (λ group. replicate group.1 group.0) (groups_of j.entries) (tail_turns 0 j.tails))
      ∙ run-append b map' (entry_turns j.entries) (actors_in (tail_turns 0 j.tails)) s

  finished : (y x : Machine) → WentEntries b map' s j.entries y → WentTails b map' y 0 j.tails x → Records b map' s j × (x ≡ run b map' s (actors_of j))
  finished y x v w =
      let is : x ≡ run b map' s (actors_of j) = w.is ∙ ap (λ (z : Machine). run b map' z (actors_in (tail_turns 0 j.tails))) v.is ∙ sym turns_are in
      let many : length x.cores ≡ length b.core = ap (λ (z : Machine). length z.cores) is ∙ count_run b map' (actors_of j) s count in
      let ends = all_tails_are x.cores j.tails (omega (arith, w.long, many)) (λ i t e. let n : 0 + i ≡ i = omega arith in subst (λ k. (local_at x k ≡ t) × (core_is_over (slice_get x.cores k) ≡ true)) n (w.each i t e)) in (
        record {
          finished = ap (is_finished b) (sym is) ∙ two (list_all (λ c. is_some (stop_of c)) x.cores) (script_is_over b x x.script) ends.1 w.over;
          journal = ap journal_of (sym is) ∙ ap (λ (es : List Entry). record { entries = es; tails = tails x }) (w.entries ∙ v.entries) ∙ ap (λ (ts : List ℕ). record { entries = j.entries; tails = ts }) ends.0;
        },
        is,
      )
    where
      two : (x y : Bool) → x ≡ true → y ≡ true → (x && y) ≡ true
      two x y e f = grind arith

  after_by : (r : Result Machine Differs) (x : Machine) → entry_rows b map' 2 j.entries s ≡ r → after_entries b map' j r ≡ Ok x → Records b map' s j × (x ≡ run b map' s (actors_of j))
  after_by (Err why) x e h = absurd (cc)
  after_by (Ok y) x e h =
      let v = all_entries b map' j.entries 2 s count starts_fresh y e in
      let c : length y.cores ≡ length b.core = ap (λ (z : Machine). length z.cores) v.is ∙ count_run b map' (entry_turns j.entries) s count in
      finished y x v (all_tails b map' j.tails (length j.entries + 2) 0 y c v.fresh x h)

  pub replays_only : (x : Machine) → replayed b map' s j ≡ Ok x → Records b map' s j × (x ≡ run b map' s (actors_of j))
  replays_only x h = after_by (entry_rows b map' 2 j.entries s) x refl h

  pub replays_all : Records b map' s j → replayed b map' s j ≡ Ok (run b map' s (actors_of j))
  replays_all h =
      let f : Machine = run b map' s (actors_of j) in
      let y : Machine = run b map' s (entry_turns j.entries) in
      let order : List ℕ = actors_in (tail_turns 0 j.tails) in
      let entries : f.entries ≡ j.entries = ap (λ (k : Content). k.entries) h.journal in
      let rows = follow_entries b map' j.entries 2 s order count starts_fresh (ap (λ (z : Machine). z.entries) (run-append b map' (entry_turns j.entries) order s ∙ sym turns_are) ∙ entries) in
      let v = all_entries b map' j.entries 2 s count starts_fresh y rows in
      let c : length y.cores ≡ length b.core = count_run b map' (entry_turns j.entries) s count in
      let many : length f.cores ≡ length b.core = count_run b map' (actors_of j) s count in
      let tails_are : locals_of f.cores ≡ j.tails = ap (λ (k : Content). k.tails) h.journal in
      let as_long : length j.tails ≡ length f.cores = ap (λ (ts : List ℕ). length ts) (sym tails_are) ∙ length-map f.cores (λ (c : Core). c.local) in
      ap (after_entries b map' j) rows
      ∙ follow_tails b map' j.tails (length j.entries + 2) 0 y f c v.fresh (record {
        is = turns_are;
        entries = entries ∙ sym v.entries;
        over = second (list_all (λ c. is_some (stop_of c)) f.cores) (script_is_over b f f.script) h.finished;
        long = omega (arith, as_long, many);
        each = λ i t e. let n : i ≡ 0 + i = omega arith in subst (λ k. (local_at f k ≡ t) × (core_is_over (slice_get f.cores k) ≡ true)) n (each_tail f.cores (first (list_all (λ c. is_some (stop_of c)) f.cores) (script_is_over b f f.script) h.finished) i t (ap (λ (ts : List ℕ). slice_get ts i) tails_are ∙ e));
      })
    where
      first : (x y : Bool) → (x && y) ≡ true → x ≡ true
      first x y e = grind arith

      second : (x y : Bool) → (x && y) ≡ true → y ≡ true
      second x y e = grind arith
