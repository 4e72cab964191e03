-- A machine on its way along a chosen order, from turn to turn.
use Rattle.std.proofs.Common.{◌≡◌, ℕ, suc, ◌+◌, Bool, true, List, length, slice_get, slice_set, Option, Some, None, refl, sym, ap, ◌∙◌, subst}
use Rattle.std.specs.Prelude.{option_map}
use Rattle.n2_parts.specs.declared.board.Board.{Board}
use Rattle.n2_board.specs.AddressMap.{AddressMap}
use Rattle.n2_order.specs.Choices.{State, Choosing, next_of, picked, moved}
use Rattle.n2_runs.specs.Machine.{Machine, turn, is_over}
use Rattle.n2_runs.specs.Knows.{IsBookKept}
use Rattle.n2_smp.specs.Standing.{Parts, StandsFor}
use Rattle.n2_driver.specs.Chosen.{overs}
use Rattle.n2_driver.specs.Driving.{IsUnderway}
use Rattle.n2_runs.proofs.Lists.{set_each}
use Rattle.n2_driver.proofs.Picking.{over_at, zero_more, overs_moved, devices_stay, next_turn, no_turn, spent_turns}

-- what a chooser picked is the next of its order
pub picked_next : (chooser new : Choosing) (over : List Bool) (actor : ℕ) → Some actor ≡ picked chooser over → new ≡ moved chooser (next_of chooser.state over) → next_of chooser.state over ≡ Some (actor, new.state)
picked_next chooser new over actor e is = at (next_of chooser.state over) refl
  where
    found : (o : Option (ℕ × State)) → Some actor ≡ option_map (λ (next : ℕ × State). next.0) o → new ≡ moved chooser o → o ≡ Some (actor, new.state)
    found None e is = absurd (cc)
    found (Some next) e is =
        let same : actor ≡ next.0 = cc in
        ap (λ (k : ℕ). Some (k, next.1)) (sym same) ∙ ap (λ (c : Choosing). Some (actor, c.state)) (sym is)

    at : (o : Option (ℕ × State)) → next_of chooser.state over ≡ o → next_of chooser.state over ≡ Some (actor, new.state)
    at o i = found (next_of chooser.state over) e is

pub picked_none : (chooser : Choosing) (over : List Bool) → None ≡ picked chooser over → next_of chooser.state over ≡ None
picked_none chooser over e = none (next_of chooser.state over) e
  where
    none : (o : Option (ℕ × State)) → None ≡ option_map (λ (next : ℕ × State). next.0) o → o ≡ None
    none None e = refl
    none (Some next) e = absurd (cc)

module _ (b : Board) (map : AddressMap) (end : Machine) (v : Parts) (over : List Bool) (order : State) (left : ℕ) (u : IsUnderway b map end v over order left) where
  pub next_underway : (new : Parts) (after : State) (rest actor devices : ℕ) (x was y : Bool) → v.board ≡ b → v.map ≡ map → new.board ≡ b → devices ≡ length b.core → left ≡ suc rest → next_of order over ≡ Some (actor, after) → ((m : Machine) → StandsFor v m → IsBookKept v.board v.map m → StandsFor new (turn v.board v.map m actor).machine) → ((m : Machine) → IsBookKept v.board v.map m → IsBookKept v.board v.map (turn v.board v.map m actor).machine) → ((m : Machine) → StandsFor new m → length m.cores ≡ length new.board.core → x ≡ is_over new.board m actor) → slice_get (slice_set over actor x) devices ≡ Some was → ((m : Machine) → StandsFor new m → length m.cores ≡ length new.board.core → (was ≡ true → is_over new.board m devices ≡ true) → y ≡ is_over new.board m devices) → IsUnderway b map end new (slice_set (slice_set over actor x) devices y) after rest
  next_underway new after rest actor devices x was y eb em en ed el next stands kept told_actor there told_devices =
      let stands_on = subst (λ (a : Board). (m : Machine) → StandsFor v m → IsBookKept a map m → StandsFor new (turn a map m actor).machine) eb
      (subst (λ (g : AddressMap). (m : Machine) → StandsFor v m → IsBookKept v.board g m → StandsFor new (turn v.board g m actor).machine) em stands) in
      let kept_on = subst (λ (a : Board). (m : Machine) → IsBookKept a map m → IsBookKept a map (turn a map m actor).machine) eb
      (subst (λ (g : AddressMap). (m : Machine) → IsBookKept v.board g m → IsBookKept v.board g (turn v.board g m actor).machine) em kept) in
      let now = (turn b map u.state actor).machine in
      let now_stands : StandsFor new now = stands_on u.state u.stands u.kept in
      let now_kept : IsBookKept b map now = kept_on u.state u.kept in
      let is_x : x ≡ is_over b now actor = subst (λ (a : Board). length now.cores ≡ length a.core → x ≡ is_over a now actor) en (told_actor now now_stands) now_kept.count in
      let stays : was ≡ true → is_over b now devices ≡ true =
      set_each (λ (j : ℕ) (z : Bool). j ≡ devices → z ≡ true → is_over b now j ≡ true) over actor x (λ e t. sym is_x ∙ t)
      (λ j z at moved e t.
      let before : is_over b u.state j ≡ z = ap (is_over b u.state) (sym (zero_more j)) ∙ over_at b u.state 0 (length b.core + 1) j z (ap (λ (l : List Bool). slice_get l j) (sym u.over_is) ∙ at) in
      ap (is_over b now) (e ∙ ed) ∙ devices_stay b map u.state actor (ap (is_over b u.state) (sym (e ∙ ed)) ∙ before ∙ t))
      devices was there refl in
      let is_y : y ≡ is_over b now (length b.core) = subst (λ (a : Board). length now.cores ≡ length a.core → (was ≡ true → is_over a now devices ≡ true) → y ≡ is_over a now devices) en (told_devices now now_stands) now_kept.count stays ∙ ap (is_over b now) ed in
      let picks : next_of order (overs b u.state) ≡ Some (actor, after) = ap (next_of order) (sym u.over_is) ∙ next in
      record {
        state = now;
        stands = now_stands;
        kept = now_kept;
        over_is = ap (λ (i : ℕ). slice_set (slice_set over actor x) i y) ed ∙ overs_moved b map u.state actor over x y u.over_is is_x is_y;
        leads = sym (next_turn b map left rest u.state order after actor el picks) ∙ u.leads;
      }

  -- all are over
  pub none_left : next_of order over ≡ None → StandsFor v end
  none_left e = subst (StandsFor v) (sym (no_turn b map left u.state order (ap (next_of order) (sym u.over_is) ∙ e)) ∙ u.leads) u.stands

  pub turns_spent : left ≡ 0 → StandsFor v end
  turns_spent e = subst (StandsFor v) (sym (spent_turns b map left u.state order e) ∙ u.leads) u.stands
