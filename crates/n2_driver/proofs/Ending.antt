-- A run along a chosen order comes to its end.
use Rattle.std.proofs.Common.{◌≡◌, ℕ, zero, suc, ◌+◌, ◌*◌, ◌-◌, ◌<◌, ◌≤◌, ◌&&◌, Bool, true, false, cond, eqb, nat_le, nat_lt, List, [], ◌∷◌, length, slice_get, slice_set, Option, Some, None, refl, sym, ap, ◌∙◌, subst, arith, length-append}
use Rattle.std.proofs.Math.Nat.{mul-le-mul_left}
use Rattle.std.proofs.lemmas.List.Elements.{All-head, All-tail}
use Rattle.std.specs.Prelude.{All, is_some}
use Rattle.std.specs.Option.{option_or}
use Rattle.std.specs.List.{list_all}
use Rattle.std.proofs.lemmas.Bool.Decides.{nat_tests}
use Rattle.n2_elf.specs.declared.image.Image.{Image}
use Rattle.n2_parts.specs.declared.board.Board.{Board}
use Rattle.n2_parts.specs.declared.board.CoreRow.{CoreRow}
use Rattle.n2_parts.specs.declared.board.PartKind.TheVariants.{Top}
use Rattle.n2_parts.specs.declared.board.Key.{Key}
use Rattle.n2_parts.specs.declared.board.Key.TheVariants as keys
use Rattle.n2_parts.specs.declared.stops.Stop.{Stop}
use Rattle.n2_parts.specs.Parts.{part_of}
use Rattle.n2_parts.specs.Numbers.{is_between, top_numbers}
use Rattle.n2_parts.specs.Valid.{counts, early_faults, first_fault, IsValid}
use Rattle.n2_parts.proofs.Small.{none_both}
use Rattle.n2_parts.proofs.Sound.{all_good}
use Rattle.n2_board.specs.AddressMap.{AddressMap}
use Rattle.n2_bus.specs.declared.request.Request.{Request}
use Rattle.n2_watch.specs.World.{World}
use Rattle.n2_front.specs.Core.{Core, Spent, LogFull, stop_of, ended_stop, ended_after, log_full}
use Rattle.n2_front.specs.Turn.{wants, core_turn}
use Rattle.n2_order.specs.Choices.{State, next_of}
use Rattle.n2_order.proofs.Picks.{picked_runs, none_where_over}
use Rattle.n2_bus.specs.Transfer.{request_for}
use Rattle.n2_journal.specs.declared.entry.Entry.{Entry}
use Rattle.n2_watch.specs.World.{transferred}
use Rattle.n2_runs.specs.Machine.{entry_of, Machine, Made, started_cores, start, turn, run, script_is_over, core_is_over, is_over, is_finished}
use Rattle.n2_runs.proofs.Sets.{within}
use Rattle.n2_runs.proofs.Begins.{as_many}
use Rattle.n2_runs.proofs.Views.{quiet_by, quiet, turn_cases}
use Rattle.n2_runs.proofs.Counted.{TurnIs, Over, Quiet, Enters, turn_is, count_turn, count_run}
use Rattle.n2_runs.proofs.Compared.{true_false}
use Rattle.n2_driver.specs.Chosen.{overs_from, overs, AreOver, chosen, most_turns, chosen_order}
use Rattle.n2_driver.specs.Bounded.{made_turns, IsBounded}
use Rattle.n2_driver.proofs.Picking.{over_at, next_turn, no_turn}

-- a valid board has turns, and not too many of them, nor of entries
pub record HasTurns (b : Board) : Type 0 where
  pub some : 0 < b.turns
  pub few : b.turns ≤ 1000000000
  pub journal : b.journal ≤ 1000000

pub board_turns : (b : Board) → IsValid b → HasTurns b
unfolding first_fault early_faults top_numbers
board_turns b valid =
    let a = none_both (counts b) _ valid in
    let c = none_both (early_faults b) _ a.1 in
    let t = none_both (top_numbers b (part_of Top 0)) _ c.0 in
    let checks : List (Key × Bool) = (keys.Turns, is_between 1 1000000000 b.turns) ∷ (keys.Journal, is_between 1 1000000 b.journal) ∷ [] in
    let good = all_good (part_of Top 0) checks t.0 in
    record { some = low good.0; few = high good.0; journal = top good.1.0 }
  where
    low : (nat_le 1 b.turns && nat_le b.turns 1000000000) ≡ true → 0 < b.turns
    low e = grind (arith, nat_tests)

    high : (nat_le 1 b.turns && nat_le b.turns 1000000000) ≡ true → b.turns ≤ 1000000000
    high e = grind (arith, nat_tests)

    top : (nat_le 1 b.journal && nat_le b.journal 1000000) ≡ true → b.journal ≤ 1000000
    top e = grind (arith, nat_tests)

-- ---- the turns that are left

-- of a core: none where it stopped
abbrev left_by : ℕ → Option Stop → ℕ → ℕ
left_by most None turns = suc (most - suc turns)
left_by most (Some stop) turns = 0

abbrev lefts : Board → List Core → ℕ
lefts b [] = 0
lefts b (c ∷ cs) = left_by b.turns (stop_of c) c.turns + lefts b cs

abbrev left_of : Board → Machine → ℕ
left_of b m = lefts b m.cores + (b.journal - length m.entries)

lefts_set : (b : Board) (cs : List Core) (k : ℕ) (c d : Core) → slice_get cs k ≡ Some c → left_by b.turns (stop_of d) d.turns < left_by b.turns (stop_of c) c.turns → lefts b (slice_set cs k d) < lefts b cs
lefts_set b [] k c d e lt = absurd (cc)
lefts_set b (x ∷ cs) zero c d e lt =
    let same : x ≡ c = grind arith in
    let less = subst (λ (y : Core). left_by b.turns (stop_of d) d.turns < left_by b.turns (stop_of y) y.turns) (sym same) lt in
    omega (arith, less)
lefts_set b (x ∷ cs) (suc k) c d e lt = let rest = lefts_set b cs k c d e lt in omega (arith, rest)

-- a running core that makes a turn has fewer left
fewer : (most before after : ℕ) (old new : Option Stop) → old ≡ None → after ≡ before + 1 → (new ≡ None → after < most) → left_by most new after < left_by most old before
fewer most before after old None e n h = let lt = h refl in subst (λ (o : Option Stop). suc (most - suc after) < left_by most o before) (sym e) (omega (arith, lt))
fewer most before after old (Some stop) e n h = subst (λ (o : Option Stop). 0 < left_by most o before) (sym e) (omega arith)

ended_below : (b : Board) (turns : ℕ) (stop : Option Stop) → option_or stop (ended_stop (ended_after b turns stop)) ≡ None → turns < b.turns
ended_below b turns None e = at (nat_lt turns b.turns) refl e
  where
    at : (x : Bool) → nat_lt turns b.turns ≡ x → ended_stop (cond x None (Some Spent)) ≡ None → turns < b.turns
    at true i e = grind (arith, nat_tests)
    at false i e = absurd (cc)
ended_below b turns (Some stop) e = absurd (cc)

full_runs : {P : Type 0} (stop : Option Stop) → option_or stop (ended_stop (Some LogFull)) ≡ None → P
full_runs None e = absurd (cc)
full_runs (Some stop) e = absurd (cc)

abbrev IsFewer : Board → Core → Core → Type 0
IsFewer b c d = left_by b.turns (stop_of d) d.turns < left_by b.turns (stop_of c) c.turns

turned_fewer : (b : Board) (map : AddressMap) (k : ℕ) (row : CoreRow) (c : Core) (w : World) → stop_of c ≡ None → IsFewer b c (core_turn b map k row c w).core
unfolding core_turn
turned_fewer b map k row c w runs =
    fewer b.turns c.turns (c.turns + 1) (stop_of c) (stop_of (core_turn b map k row c w).core) runs refl (λ e. ended_below b (c.turns + 1) (core_turn b map k row c w).core.front.stop e)

quiet_fewer : (b : Board) (map : AddressMap) (k : ℕ) (row : CoreRow) (c : Core) (w : World) → stop_of c ≡ None → IsFewer b c (quiet b map k row w c)
unfolding quiet
quiet_fewer b map k row c w runs = at (wants b map k row w.book c)
  where
    at : (o : Option Request) → IsFewer b c (quiet_by b map k row w c o)
    at None = turned_fewer b map k row c w runs
    at (Some request) = fewer b.turns c.turns (c.turns + 1) (stop_of c) (stop_of (log_full c)) runs refl (λ e. full_runs c.front.stop e)

turn_fewer : (b : Board) (map : AddressMap) (m : Machine) → length m.cores ≡ length b.core → (actor : ℕ) → is_over b m actor ≡ false → left_of b (turn b map m actor).machine < left_of b m
turn_fewer b map m count actor =
    turn_cases b map m count actor (λ (n : Made). is_over b m actor ≡ false → left_of b n.machine < left_of b m)
    (λ o f. true_false (is_over b m actor) o f)
    (λ row c at q f. let less = lefts_set b m.cores actor c (quiet b map actor row m.world c) at.there (quiet_fewer b map actor row c m.world at.runs) in omega (arith, less))
    (λ row c request at e room f.
    let less = lefts_set b m.cores actor c (core_turn b map actor row c m.world).core at.there (turned_fewer b map actor row c m.world at.runs) in
    let more = length-append m.entries (entry_of actor c (core_turn b map actor row c m.world) request ∷ []) in
    omega (arith, less, more))
    (λ event script a e room f.
    let lt : length m.entries < b.journal = grind (arith, nat_tests) in
    let entry : Entry = record { actor = length b.core; local = 0; request = request_for event; reply = (transferred b map (length b.core) m.world (request_for event)).reply } in
    let more = length-append m.entries (entry ∷ []) in
    omega (arith, lt, more))

-- ---- the end

-- what an order picks is not over
picked_over : (b : Board) (m : Machine) (order after : State) (actor : ℕ) → next_of order (overs b m) ≡ Some (actor, after) → is_over b m actor ≡ false
picked_over b m order after actor e =
    let z : actor ≡ 0 + actor = omega arith in
    ap (is_over b m) z ∙ over_at b m 0 (length b.core + 1) actor false (picked_runs order (overs b m) actor after e)

pub chosen_ends : (b : Board) (map : AddressMap) (n : ℕ) (m : Machine) (order : State) → length m.cores ≡ length b.core → left_of b m ≤ n → AreOver b (run b map m (chosen b map n m order))
chosen_ends b map zero m order count le = at (next_of order (overs b m)) refl
  where
    at : (o : Option (ℕ × State)) → next_of order (overs b m) ≡ o → AreOver b (run b map m (chosen b map zero m order))
    at None e = subst (AreOver b) (sym (no_turn b map zero m order e)) (none_where_over order (overs b m) e)
    at (Some next) e = let less = turn_fewer b map m count next.0 (picked_over b m order next.1 next.0 e) in absurd (omega (arith, less))
chosen_ends b map (suc n) m order count le = at (chosen_ends b map n) (next_of order (overs b m)) refl
  where
    at : ((m : Machine) (order : State) → length m.cores ≡ length b.core → left_of b m ≤ n → AreOver b (run b map m (chosen b map n m order))) → (o : Option (ℕ × State)) → next_of order (overs b m) ≡ o → AreOver b (run b map m (chosen b map (suc n) m order))
    at later None e = subst (AreOver b) (sym (no_turn b map (suc n) m order e)) (none_where_over order (overs b m) e)
    at later (Some next) e =
        let less = turn_fewer b map m count next.0 (picked_over b m order next.1 next.0 e) in
        subst (AreOver b) (sym (next_turn b map (suc n) n m order next.1 next.0 refl e))
        (later (turn b map m next.0).machine next.1 (count_turn b map m count next.0) (omega (arith, less)))

more_times : (n t : ℕ) → suc n * t ≡ t + n * t
more_times n t = grind arith

started_left : (b : Board) → 0 < b.turns → (rows : List CoreRow) (images : List Image) → lefts b (started_cores rows images) ≤ length rows * b.turns
started_left b lt [] images = omega arith
started_left b lt (row ∷ rows) [] = omega arith
started_left b lt (row ∷ rows) (image ∷ images) =
    let rest = started_left b lt rows images in
    let here : suc (b.turns - suc 0) ≡ b.turns = omega arith in
    let all = more_times (length rows) b.turns in
    omega (arith, rest, here, all)

-- all that are told to be over are
each_over : (b : Board) (m : Machine) (k n : ℕ) → All (λ over. over ≡ true) (overs_from b m k n) → (i : ℕ) → i < n → is_over b m (k + i) ≡ true
each_over b m k zero h i lt = absurd (omega arith)
each_over b m k (suc n) h zero lt = let z : k + zero ≡ k = omega arith in ap (is_over b m) z ∙ (All-head (λ over. over ≡ true) (is_over b m k) (overs_from b m (k + 1) n) h)
each_over b m k (suc n) h (suc i) lt =
    let z : k + suc i ≡ k + 1 + i = omega arith in
    ap (is_over b m) z ∙ each_over b m (k + 1) n (All-tail (λ over. over ≡ true) (is_over b m k) (overs_from b m (k + 1) n) h) i (omega arith)

cores_over : (cs : List Core) → ((i : ℕ) (c : Core) → slice_get cs i ≡ Some c → is_some (stop_of c) ≡ true) → list_all (λ c. is_some (stop_of c)) cs ≡ true
cores_over [] h = refl
cores_over (c ∷ cs) h = ap (λ (x : Bool). x && list_all (λ c. is_some (stop_of c)) cs) (h 0 c refl) ∙ cores_over cs (λ i d e. h (suc i) d e)

-- a machine of which all actors are over is finished
pub all_finished : (b : Board) (m : Machine) → length m.cores ≡ length b.core → AreOver b m → is_finished b m ≡ true
all_finished b m count h =
    ap (λ (x : Bool). x && script_is_over b m m.script) (cores_over m.cores (λ i c e.
    let lt = within m.cores i c e in
    let apart : eqb i (length b.core) ≡ false = let n : i < length b.core = omega arith in grind (arith, nat_tests, n) in
    sym (ap (λ (x : Bool). cond x (script_is_over b m m.script) (core_is_over (slice_get m.cores i))) apart ∙ ap core_is_over e) ∙ over i (omega arith)))
    ∙ sym (ap (λ (x : Bool). cond x (script_is_over b m m.script) (core_is_over (slice_get m.cores (length b.core)))) same) ∙ over (length b.core) (omega arith)
  where
    same : eqb (length b.core) (length b.core) ≡ true
    same = grind (arith, nat_tests)

    over : (i : ℕ) → i < length b.core + 1 → is_over b m i ≡ true
    over i lt = let z : i ≡ 0 + i = omega arith in ap (is_over b m) z ∙ each_over b m 0 (length b.core + 1) h i lt

pub run_finished : (b : Board) (images : List Image) (map : AddressMap) (order : State) → IsValid b → length images ≡ length b.core → is_finished b (run b map (start b images) (chosen_order b map (start b images) order)) ≡ true
run_finished b images map order valid long =
    let s = start b images in
    let count : length s.cores ≡ length b.core = as_many b.core images long in
    let few = started_left b (board_turns b valid).some b.core images in
    all_finished b (run b map s (chosen_order b map s order)) (count_run b map (chosen_order b map s order) s count)
    (chosen_ends b map (most_turns b) s order count (omega (arith, few)))

pub few_turns : (cores turns : ℕ) → cores ≤ 8 → turns ≤ 1000000000 → cores * turns ≤ 8000000000
few_turns cores turns few most = let h : cores * turns ≤ cores * 1000000000 = mul-le-mul_left cores most in omega (arith, h, few)

-- ---- the turns of a run

over_same : (b : Board) (m x : Machine) (actor : ℕ) → TurnIs b m actor x → is_over b m actor ≡ true → x ≡ m
over_same b m x actor (Over o e) over = e
over_same b m x actor (Quiet o e s l) over = true_false (is_over b m actor) over o
over_same b m x actor (Enters entry o e a l z) over = true_false (is_over b m actor) over o

one_fewer : (b : Board) (map : AddressMap) (m : Machine) → length m.cores ≡ length b.core → (actor : ℕ) (over : Bool) → is_over b m actor ≡ over → cond over 0 1 + left_of b (turn b map m actor).machine ≤ left_of b m
one_fewer b map m count actor true e =
    let same : left_of b (turn b map m actor).machine ≡ left_of b m = ap (left_of b) (over_same b m (turn b map m actor).machine actor (turn_is b map m count actor) e) in
    omega (arith, same)
one_fewer b map m count actor false e = let less = turn_fewer b map m count actor e in omega (arith, less)

-- each turn that is made is one of those that were left
made_left : (b : Board) (map : AddressMap) (order : List ℕ) (m : Machine) → length m.cores ≡ length b.core → made_turns b map m order ≤ left_of b m
unfolding made_turns
made_left b map [] m count = omega arith
made_left b map (actor ∷ order) m count =
    let fewer = one_fewer b map m count actor (is_over b m actor) refl in
    let rest = made_left b map order (turn b map m actor).machine (count_turn b map m count actor) in
    both (cond (is_over b m actor) 0 1) (made_turns b map (turn b map m actor).machine order) (left_of b (turn b map m actor).machine) (left_of b m) fewer rest
  where
    both : (here made later now : ℕ) → here + later ≤ now → made ≤ later → here + made ≤ now
    both here made later now fewer rest = omega (arith, fewer, rest)

pub start_bounded : (b : Board) (images : List Image) (map : AddressMap) → IsValid b → length images ≡ length b.core → IsBounded b map (start b images)
start_bounded b images map valid long order =
    let made = made_left b map order (start b images) (as_many b.core images long) in
    let few = started_left b (board_turns b valid).some b.core images in
    omega (arith, made, few)
