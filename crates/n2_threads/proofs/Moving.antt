-- A machine that has made some turns makes more of them, until it has come to the end of a run.
use Rattle.std.proofs.Common.{◌≡◌, ℕ, ◌+◌, ◌≤◌, ◌++◌, Bool, true, false, cond, List, [], ◌∷◌, length, slice_get, Option, Some, None, refl, sym, ap, ◌∙◌, subst, arith}
use Rattle.n2_parts.specs.declared.board.Board.{Board}
use Rattle.n2_parts.specs.declared.stops.Act.{Act}
use Rattle.n2_board.specs.AddressMap.{AddressMap}
use Rattle.n2_order.specs.Choices.{running}
use Rattle.n2_runs.specs.Machine.{Machine, turn, run, is_over}
use Rattle.n2_runs.specs.Knows.{IsBookKept}
use Rattle.n2_runs.proofs.Quiets.{run-append}
use Rattle.n2_smp.specs.declared.turns.Turned.{Turned}
use Rattle.n2_smp.specs.declared.turns.Turned.TheVariants as answers
use Rattle.n2_smp.specs.Standing.{Parts, StandsFor, answer_of}
use Rattle.n2_driver.specs.Chosen.{overs, most_turns}
use Rattle.n2_driver.specs.Bounded.{made_turns, IsBounded}
use Rattle.n2_driver.proofs.Ending.{all_finished}
use Rattle.n2_threads.specs.Rounds.{RunsNow, count_of, HasMoved, HasEnded}
use Rattle.n2_threads.proofs.Lists.{first_runs, all_over}

-- what is answered of a turn that is made tells that its actor was not over
pub local_runs : (o : Bool) (act : Option Act) → answers.Local ≡ answer_of o act → o ≡ false
local_runs true act e = absurd (cc)
local_runs false act e = refl

pub acted_runs : (made : Act) (o : Bool) (act : Option Act) → answers.Acted made ≡ answer_of o act → o ≡ false
acted_runs made true act e = absurd (cc)
acted_runs made false act e = refl

pub over_never : {P : Type 0} (o : Bool) (act : Option Act) → answers.Over ≡ answer_of o act → o ≡ false → P
over_never true act e f = absurd (cc)
over_never false None e f = absurd (cc)
over_never false (Some act) e f = absurd (cc)

plus_more : (x y z : ℕ) → x + (y + z) ≡ x + y + z
plus_more x y z = omega arith

zero_plus : (x : ℕ) → x ≡ 0 + x
zero_plus x = omega arith

-- the turns that are made along two lists
made_append : (b : Board) (map : AddressMap) (xs ys : List ℕ) (m : Machine) → made_turns b map m (xs ++ ys) ≡ made_turns b map m xs + made_turns b map (run b map m xs) ys
unfolding run made_turns
made_append b map [] ys m = zero_plus (made_turns b map m ys)
made_append b map (x ∷ xs) ys m =
    ap (λ (n : ℕ). cond (is_over b m x) 0 1 + n) (made_append b map xs ys (turn b map m x).machine)
    ∙ plus_more (cond (is_over b m x) 0 1) (made_turns b map (turn b map m x).machine xs) (made_turns b map (run b map (turn b map m x).machine xs) ys)

made_one : (b : Board) (map : AddressMap) (m : Machine) (actor : ℕ) → is_over b m actor ≡ false → made_turns b map m (actor ∷ []) ≡ 1
unfolding made_turns
made_one b map m actor e = ap (λ (o : Bool). cond o 0 1 + 0) e

one_moved : (b : Board) (map : AddressMap) (m : Machine) (v : Parts) (actor : ℕ) → StandsFor v (turn b map m actor).machine → IsBookKept b map (turn b map m actor).machine → HasMoved b map m v 0
unfolding run
one_moved b map m v actor s k = record { order = actor ∷ []; stands = s; kept = k; made = omega arith }

one_made : (b : Board) (map : AddressMap) (m : Machine) (v : Parts) (actor : ℕ) → is_over b m actor ≡ false → StandsFor v (turn b map m actor).machine → IsBookKept b map (turn b map m actor).machine → HasMoved b map m v 1
unfolding run
one_made b map m v actor e s k = let count = made_one b map m actor e in record { order = actor ∷ []; stands = s; kept = k; made = omega (arith, count) }

-- a turn leads on, and it counts where its answer tells that its actor was not over
module _ (b : Board) (v new : Parts) (actor : ℕ) (answer : Turned) (is : v.board ≡ b) (stands : (m : Machine) → StandsFor v m → IsBookKept v.board v.map m → StandsFor new (turn v.board v.map m actor).machine) (answered : (m : Machine) → StandsFor v m → IsBookKept v.board v.map m → answer ≡ answer_of (is_over v.board m actor) (turn v.board v.map m actor).act) (kept : (m : Machine) → IsBookKept v.board v.map m → IsBookKept v.board v.map (turn v.board v.map m actor).machine) where
  pub turn_moved : (m : Machine) → StandsFor v m → IsBookKept b v.map m → HasMoved b v.map m new 0
  turn_moved = subst (λ (a : Board). (m : Machine) → StandsFor v m → IsBookKept a v.map m → HasMoved a v.map m new 0) is (λ m s k. one_moved v.board v.map m new actor (stands m s k) (kept m k))

  pub turn_made : ((o : Bool) (act : Option Act) → answer ≡ answer_of o act → o ≡ false) → (m : Machine) → StandsFor v m → IsBookKept b v.map m → HasMoved b v.map m new 1
  turn_made tells =
      subst (λ (a : Board). (m : Machine) → StandsFor v m → IsBookKept a v.map m → HasMoved a v.map m new 1) is
      (λ m s k. one_made v.board v.map m new actor (tells (is_over v.board m actor) (turn v.board v.map m actor).act (answered m s k)) (stands m s k) (kept m k))

  -- the turn of an actor that is not over is made
  pub turn_runs : {P : Type 0} → answer ≡ answers.Over → (m : Machine) (most : ℕ) → StandsFor v m → IsBookKept b v.map m → RunsNow b m most actor → P
  turn_runs {P} over =
      subst (λ (a : Board). (m : Machine) (most : ℕ) → StandsFor v m → IsBookKept a v.map m → RunsNow a m most actor → P) is
      (λ m most s k r. over_never (is_over v.board m actor) (turn v.board v.map m actor).act (sym over ∙ answered m s k) r.runs)

-- where a list made none, the turn of an actor that is not over is made
pub lowest_made : (b : Board) (v mid new : Parts) (most actor : ℕ) (made : Bool) → mid ≡ v → ((m : Machine) → StandsFor mid m → IsBookKept b mid.map m → RunsNow b m most actor → made ≡ true) → ((m : Machine) → StandsFor mid m → IsBookKept b mid.map m → HasMoved b mid.map m new (count_of made)) → (m : Machine) → StandsFor v m → IsBookKept b v.map m → RunsNow b m most actor → HasMoved b v.map m new 1
lowest_made b v mid new most actor made same runs moved =
    subst (λ (p : Parts). (m : Machine) → StandsFor p m → IsBookKept b p.map m → RunsNow b m most actor → HasMoved b p.map m new 1) same
    (λ m s k r. subst (λ (x : Bool). HasMoved b mid.map m new (count_of x)) (runs m s k r) (moved m s k))

-- whether any turn was made
pub count_made : (made result now : Bool) → result ≡ true → now ≡ true → count_of now ≤ count_of made + count_of result
count_made made result now e f =
    let one : count_of result ≡ 1 = ap count_of e in
    let all : count_of now ≡ 1 = ap count_of f in
    omega (arith, one, all)

pub count_same : (made result now : Bool) → now ≡ made → count_of now ≤ count_of made + count_of result
count_same made result now f =
    let same : count_of now ≡ count_of made = ap count_of f in
    omega (arith, same)

none_is : (xs : List ℕ) → None ≡ slice_get xs 0 → xs ≡ []
none_is [] e = refl
none_is (x ∷ xs) e = absurd (cc)

module _ (b : Board) (map : AddressMap) (m : Machine) where
  pub none_moved : (v : Parts) → StandsFor v m → IsBookKept b map m → HasMoved b map m v 0
  unfolding run
  none_moved v s k = record { order = []; stands = s; kept = k; made = omega arith }

  pub fewer_moved : (v : Parts) (n k : ℕ) → k ≤ n → HasMoved b map m v n → HasMoved b map m v k
  fewer_moved v n k le h = let made = h.made in record { order = h.order; stands = h.stands; kept = h.kept; made = omega (arith, made, le) }

  -- and then more
  then_moved : (v new : Parts) (n k : ℕ) → HasMoved b map m v n → ((x : Machine) → StandsFor v x → IsBookKept b map x → HasMoved b map x new k) → HasMoved b map m new (n + k)
  then_moved v new n k h next =
      let x = run b map m h.order in
      let t = next x h.stands h.kept in
      let is = run-append b map h.order t.order m in
      let count = made_append b map h.order t.order m in
      let here = h.made in
      let there = t.made in
      record {
        order = h.order ++ t.order;
        stands = subst (StandsFor new) (sym is) t.stands;
        kept = subst (IsBookKept b map) (sym is) t.kept;
        made = omega (arith, count, here, there);
      }

  pub more_moved : (v new : Parts) (n k : ℕ) → v.map ≡ map → HasMoved b map m v n → ((x : Machine) → StandsFor v x → IsBookKept b v.map x → HasMoved b v.map x new k) → HasMoved b map m new (n + k)
  more_moved v new n k e h next = then_moved v new n k h (subst (λ (g : AddressMap). (x : Machine) → StandsFor v x → IsBookKept b g x → HasMoved b g x new k) e next)

  -- a turn of an actor that a list of those that are not over begins with
  pub round_moved : (v new : Parts) (n actor : ℕ) (list : List ℕ) → v.map ≡ map → HasMoved b map m v n → ((x : Machine) → StandsFor v x → length x.cores ≡ length b.core → list ≡ running 0 (overs b x)) → Some actor ≡ slice_get list 0 → ((x : Machine) → StandsFor v x → IsBookKept b v.map x → RunsNow b x (length b.core + 1) actor → HasMoved b v.map x new 1) → HasMoved b map m new (n + 1)
  round_moved v new n actor list e h told first next =
      more_moved v new n 1 e h (λ x s k. next x s k (runs x (told x s k.count)))
    where
      runs : (x : Machine) → list ≡ running 0 (overs b x) → RunsNow b x (length b.core + 1) actor
      runs x is =
          let r = first_runs b x 0 (length b.core + 1) actor (sym (first ∙ ap (λ (l : List ℕ). slice_get l 0) is)) in
          let lt = r.within in
          record { within = omega (arith, lt); runs = r.runs }

  -- where no actor runs, it has ended
  ended : (v : Parts) (n : ℕ) (h : HasMoved b map m v n) → running 0 (overs b (run b map m h.order)) ≡ [] → HasEnded b map m v
  ended v n h e = record {
    order = h.order;
    stands = h.stands;
    kept = h.kept;
    finished = all_finished b (run b map m h.order) h.kept.count (all_over b (run b map m h.order) e);
  }

  pub none_ended : (v : Parts) (n : ℕ) (list : List ℕ) → HasMoved b map m v n → ((x : Machine) → StandsFor v x → length x.cores ≡ length b.core → list ≡ running 0 (overs b x)) → None ≡ slice_get list 0 → HasEnded b map m v
  none_ended v n list h told e = ended v n h (sym (told (run b map m h.order) h.stands h.kept.count) ∙ none_is list e)

  -- and where all turns are made too
  pub spent_ended : (v : Parts) (n : ℕ) → IsBounded b map m → HasMoved b map m v n → most_turns b ≤ n → HasEnded b map m v
  spent_ended v n bounded h le = at (running 0 (overs b x)) refl
    where
      x : Machine
      x = run b map m h.order

      at : (list : List ℕ) → running 0 (overs b x) ≡ list → HasEnded b map m v
      at [] e = ended v n h e
      at (actor ∷ list) e =
          let runs = (first_runs b x 0 (length b.core + 1) actor (ap (λ (l : List ℕ). slice_get l 0) e)).runs in
          let most = bounded (h.order ++ actor ∷ []) in
          let count = made_append b map h.order (actor ∷ []) m in
          let one = made_one b map x actor runs in
          let made = h.made in
          absurd (omega (arith, most, count, one, made, le))
