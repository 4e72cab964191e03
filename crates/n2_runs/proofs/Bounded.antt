-- A core makes at most the board's number of turns, so a replay does too.
use Rattle.std.proofs.Common.{◌≡◌, ℕ, zero, suc, ◌<◌, ◌≤◌, ◌+◌, ◌++◌, ◌&&◌, Bool, true, false, cond, nat_le, nat_lt, List, [], ◌∷◌, length, slice_get, Option, Some, None, Ok, refl, ap, sym, ◌∙◌, arith, subst}
use Rattle.std.specs.Option.{option_or}
use Rattle.std.proofs.lemmas.Bool.Decides.{nat_tests}
use Rattle.n2_elf.specs.declared.image.Image.{Image}
use Rattle.n2_parts.specs.declared.board.Board.{Board}
use Rattle.n2_parts.specs.declared.board.CoreRow.{CoreRow}
use Rattle.n2_parts.specs.declared.board.PartKind.TheVariants.{Top}
use Rattle.n2_parts.specs.declared.board.Key.{Key}
use Rattle.n2_parts.specs.declared.board.Key.TheVariants as keys
use Rattle.n2_parts.specs.declared.stops.Stop.{Stop}
use Rattle.n2_parts.specs.Parts.{part_of}
use Rattle.n2_parts.specs.Numbers.{is_between, top_numbers}
use Rattle.n2_parts.specs.Valid.{counts, early_faults, first_fault, IsValid}
use Rattle.n2_parts.proofs.Small.{none_both}
use Rattle.n2_parts.proofs.Sound.{all_good}
use Rattle.n2_board.specs.AddressMap.{AddressMap}
use Rattle.n2_bus.specs.declared.request.Request.{Request}
use Rattle.n2_journal.specs.declared.entry.Entry.{Entry}
use Rattle.n2_watch.specs.World.{World}
use Rattle.n2_front.specs.Core.{Core, Spent, LogFull, stop_of, ended_stop, ended_after, started_core}
use Rattle.n2_front.specs.Turn.{wants, core_turn}
use Rattle.n2_runs.specs.Machine.{Machine, Made, started_cores, start, turn, run, is_over}
use Rattle.n2_runs.specs.Replay.{added, quiet_turn, quiet_turns}
use Rattle.n2_runs.proofs.Lists.{set_each, slice_get-set_same}
use Rattle.n2_runs.proofs.Begins.{as_many}
use Rattle.n2_runs.proofs.Views.{quiet_by, quiet, turn_cases}
use Rattle.n2_runs.proofs.Quiets.{get_next}
use Rattle.n2_runs.proofs.Ahead.{same_some}
use Rattle.n2_runs.proofs.Counted.{count_turn, count_run}
use Rattle.n2_runs.proofs.Compared.{none_some, true_false, then_ok, quiet_if}

-- a valid board has turns, and an end of them and of entries
record IsTopped (b : Board) : Type 0 where
  some_turns : 0 < b.turns
  few_turns : b.turns ≤ 1000000000
  few_entries : b.journal ≤ 1000000

topped : (b : Board) → IsValid b → IsTopped b
unfolding first_fault early_faults top_numbers
topped b valid =
    let a = none_both (counts b) _ valid in
    let c = none_both (early_faults b) _ a.1 in
    let t = none_both (top_numbers b (part_of Top 0)) _ c.0 in
    let checks : List (Key × Bool) = (keys.Turns, is_between 1 1000000000 b.turns) ∷ (keys.Journal, is_between 1 1000000 b.journal) ∷ [] in
    let good = all_good (part_of Top 0) checks t.0 in
    let turns = between b.turns 1000000000 good.0 in
    let entries = between b.journal 1000000 good.1.0 in
    record { some_turns = turns.0; few_turns = turns.1; few_entries = entries.1 }
  where
    between : (n most : ℕ) → is_between 1 most n ≡ true → (0 < n) × (n ≤ most)
    between n most e = parts (nat_le 1 n) (nat_le n most) e (λ p q. (grind (arith, nat_tests), grind (arith, nat_tests)))
      where
        parts : (x y : Bool) → (x && y) ≡ true → (x ≡ true → y ≡ true → (0 < n) × (n ≤ most)) → (0 < n) × (n ≤ most)
        parts true true e f = f refl refl
        parts true false e f = absurd (cc)
        parts false y e f = absurd (cc)

pub some_turns : (b : Board) → IsValid b → 0 < b.turns
some_turns b valid = (topped b valid).some_turns

pub few_turns : (b : Board) → IsValid b → b.turns ≤ 1000000000
few_turns b valid = (topped b valid).few_turns

pub few_entries : (b : Board) → IsValid b → b.journal ≤ 1000000
few_entries b valid = (topped b valid).few_entries

-- a core made at most the board's number of turns, and fewer where it runs
abbrev pub IsBelow : ℕ → Core → Type 0
IsBelow most c = (c.turns ≤ most) × (stop_of c ≡ None → c.turns < most)

abbrev pub AreBelow : Board → Machine → Type 0
AreBelow b m = (k : ℕ) (c : Core) → slice_get m.cores k ≡ Some c → IsBelow b.turns c

ended_below : (b : Board) (turns : ℕ) (stop : Option Stop) → option_or stop (ended_stop (ended_after b turns stop)) ≡ None → turns < b.turns
ended_below b turns None e = at (nat_lt turns b.turns) refl e
  where
    at : (x : Bool) → nat_lt turns b.turns ≡ x → ended_stop (cond x None (Some Spent)) ≡ None → turns < b.turns
    at true i e = grind (arith, nat_tests)
    at false i e = absurd (cc)
ended_below b turns (Some stop) e = absurd (cc)

pub turned_below : (b : Board) (map : AddressMap) (k : ℕ) (row : CoreRow) (c : Core) (w : World) → c.turns < b.turns → IsBelow b.turns (core_turn b map k row c w).core
unfolding core_turn
turned_below b map k row c w lt = (omega arith, λ e. ended_below b (c.turns + 1) (core_turn b map k row c w).core.front.stop e)

full_runs : {P : Type 0} (stop : Option Stop) → option_or stop (ended_stop (Some LogFull)) ≡ None → P
full_runs None e = absurd (cc)
full_runs (Some stop) e = absurd (cc)

pub quiet_below : (b : Board) (map : AddressMap) (k : ℕ) (row : CoreRow) (c : Core) (w : World) → c.turns < b.turns → IsBelow b.turns (quiet b map k row w c)
unfolding quiet
quiet_below b map k row c w lt = at (wants b map k row w.book c)
  where
    at : (o : Option Request) → IsBelow b.turns (quiet_by b map k row w c o)
    at None = turned_below b map k row c w lt
    at (Some request) = (omega arith, λ e. full_runs c.front.stop e)

pub quiet_turned : (b : Board) (map : AddressMap) (k : ℕ) (row : CoreRow) (c : Core) (w : World) → (quiet b map k row w c).turns ≡ c.turns + 1
unfolding quiet core_turn
quiet_turned b map k row c w = at (wants b map k row w.book c)
  where
    at : (o : Option Request) → (quiet_by b map k row w c o).turns ≡ c.turns + 1
    at None = refl
    at (Some request) = refl

turns_of : Option Core → ℕ
turns_of None = 0
turns_of (Some c) = c.turns

abbrev turns_at : Machine → ℕ → ℕ
turns_at m k = turns_of (slice_get m.cores k)

no_added : {P : Type 0} (es : List Entry) (entry : Entry) → slice_get (es ++ entry ∷ []) (length es) ≡ None → P
no_added es entry a = none_some (slice_get (es ++ entry ∷ []) (length es)) entry a (get_next es entry [])

record IsNext (b : Board) (m y : Machine) (k : ℕ) : Type 0 where
  counts_on : turns_at y k ≡ turns_at m k + 1
  had_more : turns_at m k < b.turns

module _ (b : Board) (map : AddressMap) where
  turn_below : (m : Machine) → length m.cores ≡ length b.core → (actor : ℕ) → AreBelow b m → AreBelow b (turn b map m actor).machine
  turn_below m count actor h =
      turn_cases b map m count actor (λ (n : Made). AreBelow b n.machine)
      (λ o. h)
      (λ row c at q. set_each (λ (j : ℕ) (x : Core). IsBelow b.turns x) m.cores actor (quiet b map actor row m.world c) (quiet_below b map actor row c m.world ((h actor c at.there).1 at.runs)) (λ j x e n. h j x e))
      (λ row c request at e room. set_each (λ (j : ℕ) (x : Core). IsBelow b.turns x) m.cores actor (core_turn b map actor row c m.world).core (turned_below b map actor row c m.world ((h actor c at.there).1 at.runs)) (λ j x e n. h j x e))
      (λ event script a e room. h)

  run_below : (order : List ℕ) (m : Machine) → length m.cores ≡ length b.core → AreBelow b m → AreBelow b (run b map m order)
  unfolding run
  run_below [] m count h = h
  run_below (k ∷ order) m count h = run_below order (turn b map m k).machine (count_turn b map m count k) (turn_below m count k h)

  next_is : (m : Machine) → length m.cores ≡ length b.core → (k : ℕ) → AreBelow b m → is_over b m k ≡ false → added m (turn b map m k).machine ≡ None → IsNext b m (turn b map m k).machine k
  unfolding turns_of
  next_is m count k h =
      turn_cases b map m count k (λ (n : Made). is_over b m k ≡ false → added m n.machine ≡ None → IsNext b m n.machine k)
      (λ o f a. true_false (is_over b m k) o f)
      (λ row c at q f a. record {
        counts_on = ap turns_of (slice_get-set_same m.cores k c (quiet b map k row m.world c) at.there) ∙ quiet_turned b map k row c m.world ∙ ap (λ (o : Option Core). turns_of o + 1) (sym at.there);
        had_more = subst (λ (o : Option Core). turns_of o < b.turns) (sym at.there) ((h k c at.there).1 at.runs);
      })
      (λ row c request at e room f a. no_added m.entries _ a)
      (λ event script i e room f a. no_added m.entries _ a)

  at_most : (k : ℕ) (m : Machine) → AreBelow b m → turns_at m k ≤ b.turns
  unfolding turns_of
  at_most k m h = at (slice_get m.cores k) refl
    where
      at : (o : Option Core) → slice_get m.cores k ≡ o → turns_of o ≤ b.turns
      at None e = omega arith
      at (Some c) e = (h k c e).0

  quiet_bounded : (k n : ℕ) (m x : Machine) → length m.cores ≡ length b.core → AreBelow b m → quiet_turns b map k n m ≡ Ok x → n + turns_at m k ≤ b.turns
  unfolding quiet_turns quiet_turn
  quiet_bounded k zero m x count h e = omega (arith, at_most k m h)
  quiet_bounded k (suc n) m x count h e =
      then_ok (quiet_turns b map k n) (quiet_turn b map m k) x e (λ y g i.
      quiet_if m (is_over b m k) (turn b map m k).machine y (added m (turn b map m k).machine) g (λ o a s.
      let z = next_is m count k h o a in
      let rest : n + turns_at (turn b map m k).machine k ≤ b.turns =
      quiet_bounded k n (turn b map m k).machine x (count_turn b map m count k) (turn_below m count k h) (ap (quiet_turns b map k n) (sym s) ∙ i) in
      omega (arith, z.counts_on)))

pub started_below : (b : Board) → 0 < b.turns → (rows : List CoreRow) (images : List Image) (k : ℕ) (c : Core) → slice_get (started_cores rows images) k ≡ Some c → IsBelow b.turns c
started_below b lt [] images k c e = absurd (cc)
started_below b lt (row ∷ rows) [] k c e = absurd (cc)
started_below b lt (row ∷ rows) (image ∷ images) zero c e = subst (IsBelow b.turns) (same_some (started_core row image) c e) (omega arith, λ s. lt)
started_below b lt (row ∷ rows) (image ∷ images) (suc k) c e = started_below b lt rows images k c e

pub bounded : (b : Board) (images : List Image) (map : AddressMap) (order : List ℕ) (actor n : ℕ) (m : Machine) → IsValid b → length images ≡ length b.core → quiet_turns b map actor n (run b map (start b images) order) ≡ Ok m → n ≤ b.turns
bounded b images map order actor n m valid long e =
    let s = start b images in
    let x = run b map s order in
    let count : length s.cores ≡ length b.core = as_many b.core images long in
    let z : n + turns_at x actor ≤ b.turns = quiet_bounded b map actor n x m (count_run b map order s count) (run_below b map order s count (started_below b (some_turns b valid) b.core images)) e in
    omega arith
