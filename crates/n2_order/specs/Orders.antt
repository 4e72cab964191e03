-- Order words: rounds of turns, a seed, or a file that lists actors.
use Rattle.std.specs.Prelude.{ℕ, ◌-◌, ◌^◌, ◌<◌, List, [], ◌∷◌, length, Option, Some, None, option_map, ◌==◌, if◌then◌else◌, codes}
use Rattle.n2_text.specs.Fields.{numeral, at_most, from_one}
use Rattle.n2_order.specs.declared.words.Order.{Order}
use Rattle.n2_order.specs.declared.words.Order.TheVariants as order

-- what an order word asks for
pub data Asked : Type 0 where
  ByRounds : (turns : ℕ) → Asked
  BySeed : (seed : ℕ) → Asked
  ByList : (file : List ℕ) → Asked

-- what an order stands for
abbrev pub asked : Order → Asked
asked (order.Rounds turns) = ByRounds turns
asked (order.Seed seed) = BySeed seed
asked (order.List file) = ByList file.now

-- rounds have at least one turn
abbrev pub HasTurns : Asked → Type 0
HasTurns (ByRounds turns) = 0 < turns
HasTurns (BySeed seed) = Unit {0}
HasTurns (ByList file) = Unit {0}

-- what stands behind a key, where a text begins with it
abbrev pub behind : List ℕ → List ℕ → Option (List ℕ)
behind [] text = Some text
behind (k ∷ key) [] = None
behind (k ∷ key) (c ∷ text) = if c == k then behind key text else None

-- rounds of 1 to 1,000,000 turns
abbrev pub rounds_of : List ℕ → Option Asked
rounds_of digits = option_map ByRounds (from_one (at_most 1000000 (numeral digits)))

-- a seed of 64 bits
abbrev pub seed_of : List ℕ → Option Asked
seed_of digits = option_map BySeed (at_most (2 ^ 64 - 1) (numeral digits))

-- a file's name, which is not empty
abbrev pub file_of : List ℕ → Option Asked
file_of name = if length name == 0 then None else Some (ByList name)

-- by what stands behind `rr:`, behind `seed:` and behind `list:`
abbrev pub order_by : Option (List ℕ) → Option (List ℕ) → Option (List ℕ) → Option Asked
order_by (Some digits) seed file = rounds_of digits
order_by None (Some digits) file = seed_of digits
order_by None None (Some name) = file_of name
order_by None None None = None

-- what a word asks for
unfoldable pub order_of : List ℕ → Option Asked
order_of word = order_by (behind (codes "rr:") word) (behind (codes "seed:") word) (behind (codes "list:") word)
