-- Who is over, and the next turn of a chosen order.
use Rattle.std.proofs.Common.{◌≡◌, ◌≢◌, ℕ, zero, suc, ◌+◌, ◌++◌, Bool, true, false, not, cond, eqb, List, [], ◌∷◌, length, slice_get, slice_set, Option, Some, None, refl, sym, ap, ◌∙◌, arith, length-set}
use Rattle.std.proofs.lemmas.Bool.{false≢true, eq-eqb}
use Rattle.std.proofs.lemmas.Bool.Decides.{nat_tests}
use Rattle.n2_parts.specs.declared.board.Board.{Board}
use Rattle.n2_parts.specs.declared.board.CoreRow.{CoreRow}
use Rattle.n2_parts.specs.declared.board.DeviceEvent.{DeviceEvent}
use Rattle.n2_parts.specs.declared.stops.Stop.{Stop}
use Rattle.n2_bus.specs.declared.request.Request.{Request}
use Rattle.n2_journal.specs.declared.entry.Entry.{Entry}
use Rattle.n2_front.specs.Core.{Core, stop_of}
use Rattle.n2_front.specs.Turn.{CoreTurn, core_turn}
use Rattle.n2_board.specs.AddressMap.{AddressMap}
use Rattle.n2_order.specs.Choices.{State, next_of}
use Rattle.n2_runs.specs.Machine.{Machine, Made, unmoved, local_made, entered, full_made, entry_of, made_by, core_made, core_of, script_made, has_room, turn, run, script_is_over, core_is_over, is_over}
use Rattle.n2_runs.proofs.Lists.{set_each}
use Rattle.n2_runs.proofs.Books.{other_core}
use Rattle.n2_driver.specs.Chosen.{overs_from, overs, then_chosen, chosen}

pub overs_count : (b : Board) (m : Machine) (k n : ℕ) → length (overs_from b m k n) ≡ n
overs_count b m k zero = refl
overs_count b m k (suc n) = ap suc (overs_count b m (k + 1) n)

-- one more
pub overs_push : (b : Board) (m : Machine) (k n : ℕ) → overs_from b m k n ++ is_over b m (k + n) ∷ [] ≡ overs_from b m k (n + 1)
overs_push b m k zero = let z : k + zero ≡ k = omega arith in ap (λ (i : ℕ). is_over b m i ∷ []) z
overs_push b m k (suc n) =
    let z : k + suc n ≡ k + 1 + n = omega arith in
    let w : suc (n + 1) ≡ suc n + 1 = omega arith in
    ap (λ (i : ℕ). is_over b m k ∷ (overs_from b m (k + 1) n ++ is_over b m i ∷ [])) z
    ∙ ap (λ (l : List Bool). is_over b m k ∷ l) (overs_push b m (k + 1) n)
    ∙ ap (overs_from b m k) w

-- what the list says of an actor
pub over_at : (b : Board) (m : Machine) (k n actor : ℕ) (x : Bool) → slice_get (overs_from b m k n) actor ≡ Some x → is_over b m (k + actor) ≡ x
over_at b m k zero actor x e = absurd (cc)
over_at b m k (suc n) zero x e =
    let z : k + zero ≡ k = omega arith in
    let same : is_over b m k ≡ x = cc in
    ap (λ (i : ℕ). is_over b m i) z ∙ same
over_at b m k (suc n) (suc actor) x e =
    let z : k + suc actor ≡ k + 1 + actor = omega arith in
    ap (λ (i : ℕ). is_over b m i) z ∙ over_at b m (k + 1) n actor x e

-- a list that says of each actor whether it is over
told_each : (b : Board) (m : Machine) (k : ℕ) (xs : List Bool) → ((i : ℕ) (x : Bool) → slice_get xs i ≡ Some x → x ≡ is_over b m (k + i)) → xs ≡ overs_from b m k (length xs)
told_each b m k [] h = refl
told_each b m k (x ∷ xs) h =
    let z : k + zero ≡ k = omega arith in
    ap (λ (y : Bool). y ∷ xs) (h zero x refl ∙ ap (λ (i : ℕ). is_over b m i) z)
    ∙ ap (λ (l : List Bool). is_over b m k ∷ l) (told_each b m (k + 1) xs (λ i y e. let w : k + suc i ≡ k + 1 + i = omega arith in h (suc i) y e ∙ ap (λ (j : ℕ). is_over b m j) w))

-- a turn of an actor changes nothing of whether another core is over
other_over : (b : Board) (map : AddressMap) (m : Machine) (actor j : ℕ) → j ≢ actor → j ≢ length b.core → is_over b m j ≡ is_over b (turn b map m actor).machine j
other_over b map m actor j ne core =
    ap (λ (x : Bool). cond x (script_is_over b m m.script) (core_is_over (slice_get m.cores j))) apart
    ∙ ap core_is_over (sym (other_core b map m actor j ne))
    ∙ sym (ap (λ (x : Bool). cond x (script_is_over b (turn b map m actor).machine (turn b map m actor).machine.script) (core_is_over (slice_get (turn b map m actor).machine.cores j))) apart)
  where
    apart : eqb j (length b.core) ≡ false
    apart = grind (arith, nat_tests)

-- ---- once the device actor is over it stays so

not_room : (room : Bool) → not room ≡ true → room ≡ false
not_room true e = absurd (false≢true e)
not_room false e = refl

script_stays : (b : Board) (m n : Machine) (script : List DeviceEvent) → (has_room b m ≡ false → has_room b n ≡ false) → script_is_over b m script ≡ true → script_is_over b n script ≡ true
script_stays b m n [] room h = refl
script_stays b m n (event ∷ script) room h = ap (λ (x : Bool). not x) (room (not_room (has_room b m) h))

module _ (b : Board) (map : AddressMap) (m : Machine) (k : ℕ) (h : script_is_over b m m.script ≡ true) where
  abbrev IsOverIn : Made → Type 0
  IsOverIn x = script_is_over b x.machine x.machine.script ≡ true

  no_event : (room : Bool) (x : Made) → not room ≡ true → IsOverIn (cond room x (unmoved m))
  no_event true x e = absurd (false≢true e)
  no_event false x e = h

  script_over : (script : List DeviceEvent) → script_is_over b m script ≡ true → IsOverIn (script_made b map m script)
  script_over [] e = h
  script_over (event ∷ script) e = no_event (has_room b m) _ e

  transfer_over : (c : Core) (t : CoreTurn) (entry : Entry) (room : Bool) → has_room b m ≡ room → IsOverIn (cond room (entered m k t entry) (full_made m k c))
  transfer_over c t entry true r = script_stays b m (entered m k t entry).machine m.script (λ e. absurd (false≢true (sym e ∙ r))) h
  transfer_over c t entry false r = script_stays b m (full_made m k c).machine m.script (λ e. e) h

  made_over : (c : Core) (t : CoreTurn) (o : Option Request) → IsOverIn (made_by b m k c t o)
  made_over c t None = script_stays b m (local_made m k t).machine m.script (λ e. e) h
  made_over c t (Some request) = transfer_over c t (entry_of k c t request) (has_room b m) refl

  core_over : (row : CoreRow) (c : Core) (o : Option Stop) → IsOverIn (core_made b map m k row c o)
  core_over row c None = (let t = core_turn b map k row c m.world in made_over c t t.request)
  core_over row c (Some stop) = h

  either_over : (r : Option CoreRow) (o : Option Core) → IsOverIn (core_of b map m k r o)
  either_over (Some row) (Some c) = core_over row c (stop_of c)
  either_over (Some row) None = h
  either_over None o = h

  actor_over : (own : Bool) → IsOverIn (cond own (script_made b map m m.script) (core_of b map m k (slice_get b.core k) (slice_get m.cores k)))
  actor_over true = script_over m.script h
  actor_over false = either_over (slice_get b.core k) (slice_get m.cores k)

  turn_over : IsOverIn (turn b map m k)
  unfolding turn
  turn_over = actor_over (eqb k (length b.core))

devices_are : (b : Board) (m : Machine) → is_over b m (length b.core) ≡ script_is_over b m m.script
devices_are b m = ap (λ (x : Bool). cond x (script_is_over b m m.script) (core_is_over (slice_get m.cores (length b.core)))) (eq-eqb (length b.core) (length b.core) refl)

pub devices_stay : (b : Board) (map : AddressMap) (m : Machine) (actor : ℕ) → is_over b m (length b.core) ≡ true → is_over b (turn b map m actor).machine (length b.core) ≡ true
devices_stay b map m actor h = devices_are b (turn b map m actor).machine ∙ turn_over b map m actor (sym (devices_are b m) ∙ h)

pub zero_more : (j : ℕ) → 0 + j ≡ j
zero_more j = omega arith

-- so the list is kept by what it says of the actor that moved, and of the device actor
pub overs_moved : (b : Board) (map : AddressMap) (m : Machine) (actor : ℕ) (over : List Bool) (x y : Bool) → over ≡ overs b m → x ≡ is_over b (turn b map m actor).machine actor → y ≡ is_over b (turn b map m actor).machine (length b.core) → slice_set (slice_set over actor x) (length b.core) y ≡ overs b (turn b map m actor).machine
overs_moved b map m actor over x y e p q =
    let after = (turn b map m actor).machine in
    let count : length (slice_set (slice_set over actor x) (length b.core) y) ≡ length b.core + 1 =
    length-set (slice_set over actor x) (length b.core) y ∙ length-set over actor x ∙ ap length e ∙ overs_count b m 0 (length b.core + 1) in
    let from_zero : (x : Machine) (j : ℕ) → is_over b x (0 + j) ≡ is_over b x j = λ x j. ap (is_over b x) (zero_more j) in
    told_each b after 0 (slice_set (slice_set over actor x) (length b.core) y)
    (λ j z there. set_each (λ (j : ℕ) (z : Bool). z ≡ is_over b after j) (slice_set over actor x) (length b.core) y q
    (λ j z there ne. set_each (λ (j : ℕ) (z : Bool). j ≢ length b.core → z ≡ is_over b after j) over actor x (λ n. p)
    (λ j z there moved n. sym (over_at b m 0 (length b.core + 1) j z (ap (λ (l : List Bool). slice_get l j) (sym e) ∙ there)) ∙ from_zero m j ∙ other_over b map m actor j moved n) j z there ne) j z there ∙ sym (from_zero after j))
    ∙ ap (overs_from b after 0) count

-- the next turn of an order
pub next_turn : (b : Board) (map : AddressMap) (n rest : ℕ) (m : Machine) (order after : State) (actor : ℕ) → n ≡ suc rest → next_of order (overs b m) ≡ Some (actor, after) → run b map m (chosen b map n m order) ≡ run b map (turn b map m actor).machine (chosen b map rest (turn b map m actor).machine after)
unfolding chosen run
next_turn b map n rest m order after actor e picked =
    ap (λ (k : ℕ). run b map m (chosen b map k m order)) e
    ∙ ap (λ (o : Option (ℕ × State)). run b map m (then_chosen o (λ k s. chosen b map rest (turn b map m k).machine s))) picked

-- there is none where all are over
pub no_turn : (b : Board) (map : AddressMap) (n : ℕ) (m : Machine) (order : State) → next_of order (overs b m) ≡ None → run b map m (chosen b map n m order) ≡ m
unfolding chosen run
no_turn b map zero m order e = refl
no_turn b map (suc n) m order e =
    ap (λ (o : Option (ℕ × State)). run b map m (then_chosen o (λ k s. chosen b map n (turn b map m k).machine s))) e

pub spent_turns : (b : Board) (map : AddressMap) (n : ℕ) (m : Machine) (order : State) → n ≡ 0 → run b map m (chosen b map n m order) ≡ m
unfolding chosen run
spent_turns b map zero m order e = refl
spent_turns b map (suc n) m order e = absurd (omega arith)
