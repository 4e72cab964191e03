use Rattle.std.proofs.Common.{◌≡◌, ℕ, ◌+◌, ◌*◌, ◌<◌, ◌≤◌, length, get_or, false}
use Rattle.n2_watch.specs.Opened.{is_held_first, slot_count}
use Rattle.n2_watch.proofs.opening.open_owned.Given as goal

abbrev pub invariant-loop-i : goal.invariant-loop-i
invariant-loop-i l = record {
  slots : length l.owned.items ≡ slot_count;
  mutexes : (mutex : ℕ) → get_or l.owned.items (2 * mutex + 1) false ≡ false;
  passed : (region : ℕ) → region < l.i → get_or l.owned.items (2 * region + 2) false ≡ is_held_first l.core l.regions region;
  others : (region : ℕ) → l.i ≤ region → get_or l.owned.items (2 * region + 2) false ≡ false;
}
