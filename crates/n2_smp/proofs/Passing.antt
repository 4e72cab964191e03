-- Events of a script, one after another.
use Rattle.std.proofs.Common.{◌≡◌, ℕ, zero, suc, ◌+◌, ◌-◌, ◌<◌, ◌≤◌, Bool, List, [], ◌∷◌, ◌++◌, length, replicate, drop, slice_get, Option, Some, None, refl, ap, sym, ◌∙◌, subst, arith}
use Rattle.std.specs.Prelude.{option_and_then, option_map}
use Rattle.std.proofs.lemmas.List.{drop_more}
use Rattle.std.proofs.lemmas.Option.{slice_get_within, get_or_from_slice_get}
use Rattle.std.proofs.lemmas.Bool.{leb-true, and_parts}
use Rattle.n2_parts.specs.declared.board.Board.{Board}
use Rattle.n2_parts.specs.declared.board.ScriptRow.{ScriptRow}
use Rattle.n2_parts.specs.declared.board.DeviceEvent.{DeviceEvent}
use Rattle.n2_parts.specs.declared.board.Key.{Key}
use Rattle.n2_parts.specs.declared.board.Key.TheVariants as keys
use Rattle.n2_parts.specs.declared.board.PartKind.TheVariants.{Script}
use Rattle.n2_parts.specs.Parts.{part_of}
use Rattle.n2_parts.specs.Numbers.{is_between, is_event, script_numbers, number_fault}
use Rattle.n2_parts.specs.Valid.{IsValid}
use Rattle.n2_parts.proofs.Small.{valid_small}
use Rattle.n2_parts.proofs.Sound.{keeps, all_good}
use Rattle.n2_runs.specs.Machine.{events_of}
use Rattle.n2_smp.specs.Scripts.{Reached, left_of, left, IsReached}

-- each row of a script comes at least once
pub times_between : (b : Board) → IsValid b → (i : ℕ) (row : ScriptRow) → slice_get b.script i ≡ Some row → (1 ≤ row.times) × (row.times ≤ 1000000)
unfolding number_fault script_numbers
times_between b valid i row e =
    let h : number_fault b (part_of Script i) ≡ None = (keeps b valid Script i (omega arith) (slice_get_within b.script i row e)).numbers in
    let here : script_numbers (part_of Script i) row ≡ None = sym (ap (λ (o : Option ScriptRow). option_and_then (script_numbers (part_of Script i)) o) e) ∙ h in
    let checks : List (Key × Bool) = (keys.N, is_event row.event) ∷ (keys.Times, is_between 1 1000000 row.times) ∷ [] in
    let good = all_good (part_of Script i) checks here in
    let t = and_parts _ _ good.1.0 in
    (leb-true _ _ t.0, leb-true _ _ t.1)

-- and there are few rows
pub few_rows : (b : Board) → IsValid b → (i : ℕ) (row : ScriptRow) → slice_get b.script i ≡ Some row → i < 1024
few_rows b valid i row e =
    let lt = slice_get_within b.script i row e in
    let small = (valid_small b valid).script in
    omega arith

-- ---- the rows from one on
pub drop_row : {X : Type 0} (rows : List X) (i : ℕ) (row : X) → slice_get rows i ≡ Some row → drop i rows ≡ row ∷ drop (i + 1) rows
drop_row rows i row e = drop_more rows i row (slice_get_within rows i row e) ∙ ap (λ x. x ∷ drop (i + 1) rows) (get_or_from_slice_get rows i row row e)

pub drop_none : {X : Type 0} (rows : List X) (i : ℕ) → slice_get rows i ≡ None → drop i rows ≡ []
drop_none [] zero e = refl
drop_none [] (suc i) e = refl
drop_none (x ∷ rows) zero e = absurd (cc)
drop_none (x ∷ rows) (suc i) e = drop_none rows i e

-- ---- one event
once_more : {X : Type 0} (n made : ℕ) (x : X) → made < n → replicate (n - made) x ≡ x ∷ replicate (n - (made + 1)) x
once_more n made x lt =
    let e : n - made ≡ suc (n - (made + 1)) = omega arith in
    ap (λ k. replicate k x) e

module _ (b : Board) (r : Reached) (row : ScriptRow) (e : slice_get b.script r.row ≡ Some row) (more : r.made < row.times) where
  left_is : left b r ≡ row.event ∷ (replicate (row.times - (r.made + 1)) row.event ++ events_of (drop (r.row + 1) b.script))
  left_is =
      ap (left_of r.made) (drop_row b.script r.row row e)
      ∙ ap (λ (events : List DeviceEvent). events ++ events_of (drop (r.row + 1) b.script)) (once_more row.times r.made row.event more)

  pub next_event : slice_get (left b r) 0 ≡ Some row.event
  next_event = ap (λ (events : List DeviceEvent). slice_get events 0) left_is

  -- the row's event comes once more
  pub stays : r.made + 1 < row.times → left b (record { row = r.row; made = r.made + 1 }) ≡ drop 1 (left b r)
  stays lt = ap (left_of (r.made + 1)) (drop_row b.script r.row row e) ∙ sym (ap (λ (events : List DeviceEvent). drop 1 events) left_is)

  from_start : (rows : List ScriptRow) → left_of 0 rows ≡ events_of rows
  from_start [] = refl
  from_start (first ∷ rows) = let e : first.times - 0 ≡ first.times = omega arith in ap (λ k. replicate k first.event ++ events_of rows) e

  -- the next row begins
  pub begins : row.times ≤ r.made + 1 → left b (record { row = r.row + 1; made = 0 }) ≡ drop 1 (left b r)
  begins le =
      let none : row.times - (r.made + 1) ≡ 0 = omega arith in
      from_start (drop (r.row + 1) b.script)
      ∙ sym (ap (λ k. replicate k row.event ++ events_of (drop (r.row + 1) b.script)) none)
      ∙ sym (ap (λ (events : List DeviceEvent). drop 1 events) left_is)

pub nothing_left : (b : Board) (r : Reached) → slice_get b.script r.row ≡ None → left b r ≡ []
nothing_left b r e = ap (left_of r.made) (drop_none b.script r.row e)
