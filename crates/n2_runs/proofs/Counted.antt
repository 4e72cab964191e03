-- What a turn counts: the entries, and for each actor its turns since its last transfer.
use Rattle.std.proofs.Common.{◌≡◌, ◌≢◌, ℕ, zero, suc, ◌<◌, ◌+◌, ◌++◌, Bool, true, false, cond, eqb, not, List, [], ◌∷◌, length, replicate, slice_get, Option, Some, None, refl, ap, sym, ◌∙◌, arith, subst, append_assoc, length-set}
use Rattle.std.specs.Prelude.{is_some}
use Rattle.std.proofs.lemmas.Bool.Decides.{nat_tests}
use Rattle.std.proofs.lemmas.Option.{slice_get_past}
use Rattle.n2_parts.specs.declared.board.Board.{Board}
use Rattle.n2_parts.specs.declared.board.CoreRow.{CoreRow}
use Rattle.n2_parts.specs.declared.stops.Stop.{Stop}
use Rattle.n2_board.specs.AddressMap.{AddressMap}
use Rattle.n2_bus.specs.Transfer.{request_for}
use Rattle.n2_journal.specs.declared.entry.Entry.{Entry}
use Rattle.n2_journal.specs.Journals.{tail_turns}
use Rattle.n2_watch.specs.World.{transferred}
use Rattle.n2_front.specs.Core.{Core}
use Rattle.n2_front.specs.Turn.{core_turn}
use Rattle.n2_runs.specs.Machine.{Machine, Made, entry_of, turn, run, script_is_over, core_is_over, is_over}
use Rattle.n2_runs.specs.Recorded.{actors_in}
use Rattle.n2_runs.proofs.Lists.{slice_get-set_same}
use Rattle.n2_runs.proofs.Sets.{within}
use Rattle.n2_runs.proofs.Known.{entered_local}
use Rattle.n2_runs.proofs.Books.{other_core}
use Rattle.n2_runs.proofs.Views.{IsCoreAt, quiet, quiet_count, turn_cases}
use Rattle.n2_runs.proofs.Quiets.{run-append, run-none}

abbrev pub local_of : Option Core → ℕ
local_of None = 0
local_of (Some c) = c.local

-- an actor's turns since its last transfer
abbrev pub local_at : Machine → ℕ → ℕ
local_at m k = local_of (slice_get m.cores k)

-- a turn of an actor that is over, without a transfer, or with one
pub data TurnIs (b : Board) (m : Machine) (actor : ℕ) (after : Machine) : Type 0 where
  Over : is_over b m actor ≡ true → after ≡ m → TurnIs b m actor after
  Quiet : is_over b m actor ≡ false → after.entries ≡ m.entries → after.script ≡ m.script → local_at after actor ≡ local_at m actor + 1 → TurnIs b m actor after
  Enters : (entry : Entry) → is_over b m actor ≡ false → after.entries ≡ m.entries ++ entry ∷ [] → entry.actor ≡ actor → entry.local ≡ local_at m actor → local_at after actor ≡ 0 → TurnIs b m actor after

module _ (b : Board) (map : AddressMap) where
  pub runs_on : (m : Machine) (k : ℕ) (row : CoreRow) (c : Core) → IsCoreAt b m k row c → is_over b m k ≡ false
  runs_on m k row c h =
      ap (λ (x : Bool). cond x (script_is_over b m m.script) (core_is_over (slice_get m.cores k))) apart
      ∙ ap core_is_over h.there ∙ ap (λ (o : Option Stop). is_some o) h.runs
    where
      lt : k < length b.core
      lt = within b.core k row h.row_is

      apart : eqb k (length b.core) ≡ false
      apart = grind (arith, nat_tests, lt)

  module _ (m : Machine) (count : length m.cores ≡ length b.core) (actor : ℕ) where
    no_core : actor ≡ length b.core → slice_get m.cores actor ≡ None
    no_core e = slice_get_past m.cores actor (omega (arith, count))

    script_on : actor ≡ length b.core → script_is_over b m m.script ≡ false → is_over b m actor ≡ false
    script_on e f = ap (λ (x : Bool). cond x (script_is_over b m m.script) (core_is_over (slice_get m.cores actor))) at ∙ f
      where
        at : eqb actor (length b.core) ≡ true
        at = grind (arith, nat_tests)

    pub turn_is : TurnIs b m actor (turn b map m actor).machine
    turn_is =
        turn_cases b map m count actor (λ (n : Made). TurnIs b m actor n.machine)
        (λ o. Over o refl)
        (λ row c at q. Quiet (runs_on m actor row c at) refl refl
        (ap local_of (slice_get-set_same m.cores actor c (quiet b map actor row m.world c) at.there) ∙ quiet_count b map actor row m.world c ∙ ap (λ (o : Option Core). local_of o + 1) (sym at.there)))
        (λ row c request at e room. Enters (entry_of actor c (core_turn b map actor row c m.world) request) (runs_on m actor row c at) refl refl (ap local_of (sym at.there))
        (ap local_of (slice_get-set_same m.cores actor c (core_turn b map actor row c m.world).core at.there) ∙ entered_local b map actor row c m.world request e))
        (λ event script a e room. Enters (record { actor = length b.core; local = 0; request = request_for event; reply = (transferred b map (length b.core) m.world (request_for event)).reply }) (script_on a (ap (script_is_over b m) e ∙ ap not room)) refl (sym a) (ap local_of (sym (no_core a))) (ap local_of (no_core a)))

    pub count_turn : length (turn b map m actor).machine.cores ≡ length b.core
    count_turn =
        turn_cases b map m count actor (λ (n : Made). length n.machine.cores ≡ length b.core)
        (λ o. count)
        (λ row c at q. length-set m.cores actor (quiet b map actor row m.world c) ∙ count)
        (λ row c request at e room. length-set m.cores actor (core_turn b map actor row c m.world).core ∙ count)
        (λ event script a e room. count)

  pub count_run : (order : List ℕ) (m : Machine) → length m.cores ≡ length b.core → length (run b map m order).cores ≡ length b.core
  unfolding run
  count_run [] m count = count
  count_run (k ∷ order) m count = count_run order (turn b map m k).machine (count_turn m count k)

  -- turns of others
  pub others_run : (k j n : ℕ) → j ≢ k → (m : Machine) → slice_get (run b map m (replicate n k)).cores j ≡ slice_get m.cores j
  unfolding run
  others_run k j zero d m = refl
  others_run k j (suc n) d m = others_run k j n d (turn b map m k).machine ∙ other_core b map m k j d

  pub tails_others : (ts : List ℕ) (k j : ℕ) → j < k → (m : Machine) → slice_get (run b map m (actors_in (tail_turns k ts))).cores j ≡ slice_get m.cores j
  tails_others [] k j lt m = ap (λ (x : Machine). slice_get x.cores j) (run-none b map m)
  tails_others (t ∷ ts) k j lt m =
      ap (λ (x : Machine). slice_get x.cores j) (run-append b map (replicate t k) (actors_in (tail_turns (k + 1) ts)) m)
      ∙ tails_others ts (k + 1) j (omega arith) (run b map m (replicate t k))
      ∙ others_run k j t (λ e. omega arith) m

  -- ---- entries are added at the end
  pub record IsMore (before after : List Entry) : Type 0 where
    pub more : List Entry
    pub then : after ≡ before ++ more

  none_more : (es : List Entry) → IsMore es es
  none_more es = record { more = []; then = sym (append_none es) }
    where
      append_none : (es : List Entry) → es ++ [] ≡ es
      append_none [] = refl
      append_none (e ∷ es) = ap (λ xs. e ∷ xs) (append_none es)

  turn_more : (m x : Machine) (k : ℕ) → TurnIs b m k x → (after : List Entry) → IsMore x.entries after → IsMore m.entries after
  turn_more m x k (Over o e) after h = subst (λ (y : Machine). IsMore y.entries after) e h
  turn_more m x k (Quiet o e s l) after h = subst (λ es. IsMore es after) e h
  turn_more m x k (Enters entry o e a l z) after h = record { more = entry ∷ h.more; then = h.then ∙ ap (λ es. es ++ h.more) e ∙ append_assoc m.entries (entry ∷ []) h.more }

  pub run_more : (order : List ℕ) (m : Machine) → length m.cores ≡ length b.core → IsMore m.entries (run b map m order).entries
  unfolding run
  run_more [] m count = none_more m.entries
  run_more (k ∷ order) m count = turn_more m (turn b map m k).machine k (turn_is m count k) (run b map (turn b map m k).machine order).entries (run_more order (turn b map m k).machine (count_turn m count k))
