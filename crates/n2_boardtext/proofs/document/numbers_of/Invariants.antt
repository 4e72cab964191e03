use Rattle.std.proofs.Common.{◌≡◌, ℕ, List, drop, map}
use Rattle.std.specs.BTreeMap.{get_by_text}
use Rattle.std.specs.List.{position_from}
use Rattle.std.specs.Option.{option_or}
use Rattle.toml.specs.View.{view}
use Rattle.n2_boardtext.specs.Values.{is_named}
use Rattle.n2_boardtext.proofs.document.numbers_of.Given as goal

abbrev pub invariant-loop-i : goal.invariant-loop-i
invariant-loop-i l =
    (q : List ℕ) → option_or (get_by_text l.numbers q) (position_from (is_named q) l.i (map view (drop l.i l.items)))
    ≡ position_from (is_named q) 0 (map view l.items)
